use Rattle.std.proofs.Common.{◌≡◌, ◌∙◌, ◌∷◌, [], sym, ap, drop, length}
use Rattle.mw_frames.specs.Machines.{data_of}
use Rattle.mw_frames.specs.Steps.{IsDecided}
use Rattle.mw_frames.proofs.Deciding.{truth_told, one_there, two_there}
use Rattle.mw_frames.proofs.stepping.decided.Goals as goal

pub returns : goal.returns
returns c = λ K k schemata choice s.
    let d = data_of K.over c.args.machine.now in
    let f = c.args.top in
    let one : length c.behind-done.result.now ≡ 1 = c.if-done-ne1.false in
    let two : length c.cut.result.1.now ≡ 2 = c.if-jobs-ne2.false in
    let own : drop f.from d.done ≡ c.index-done-0.result ∷ [] = ap (drop f.from) (sym c.as_slice.ensures.value) ∙ sym c.behind-done.ensures ∙ one_there c.behind-done.result.now c.index-done-0.result one c.index-done-0.is in
    let (second, first, e) = two_there c.cut.result.1.now two in
    let waiting : drop f.waits d.jobs ≡ second ∷ first ∷ [] = ap (drop f.waits) (sym c.as_slice-2.ensures.value) ∙ sym c.cut.ensures.back ∙ e in
    truth_told K.over.signature c.index-done-0.result (IsDecided K k d f) c.truth.result (c.truth.ensures K.over.signature schemata)
    (λ b t. record { settled = s; choice = choice; condition = c.index-done-0.result; own = own; truth = t; first = first; second = second; waiting = waiting })
