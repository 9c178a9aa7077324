use Rattle.std.proofs.Common.{◌++◌, ◌∷◌, ◌∙◌, [], List, ap, append_assoc, refl}
use Rattle.std.specs.List.{zip}
use Rattle.mw_logic.specs.Term.{RawTerm}
use Rattle.mw_canon.specs.Canonical.{meant}
use Rattle.mw_deduction.specs.Replay.{Move, applies}
use Rattle.mw_trail.specs.Tracks.{variables_of, is_rule, moves}
use Rattle.mw_frames.specs.declared.machine.Machine.{Machine}
use Rattle.mw_frames.specs.Machines.{data_of, all_moves}
use Rattle.mw_frames.proofs.FiringHere.{fires_so}
use Rattle.mw_frames.proofs.firing.apply_whole.Goals as goal

pub returns-clause-means : goal.returns-clause-means
returns-clause-means c = λ K b k sig right w run h.
    let m = c.args.machine.now in
    let n : Machine = record { frames = m.frames; done = m.done; jobs = m.jobs; kept = c.apply.new.self; near = m.near } in
    let (es, kept) = c.in_ok-show.ensures.values in
    let vs : List RawTerm = c.args.values.now.items in
    let x : Move = applies c.args.number (is_rule K.over c.args.number) (meant K.over.signature (zip (variables_of K.over c.args.number) vs)) vs in
    let before : List Move = moves K.over m.kept in
    let ss : List Move = all_moves K.over c.args.sides.now.items in
    fires_so K sig run k b (data_of K.over m) (data_of K.over n) c.args.number ss es vs right w h
    refl refl refl
    (c.in_ok-apply.ensures.values ∙ ap (λ us. us ++ vs) kept ∙ append_assoc m.kept.values es vs)
    (c.in_ok-apply.ensures.moves K.over ∙ ap (λ ms. ms ++ x ∷ []) (c.in_ok-show.ensures.moves K.over) ∙ append_assoc before ss (x ∷ []))
