use Rattle.std.proofs.Common.{rules, false, ◌≡◌, ◌∙◌, sym, subst, ap, refl, min, length, take, drop, reverse}
use Rattle.mw_logic.specs.Term.{RawTerm, join}
use Rattle.mw_logic.specs.Terms.{terms_of}
use Rattle.mw_logic.specs.NormalForm.{applied_in}
use Rattle.mw_deduction.specs.Replay.{whole}
use Rattle.mw_trail.specs.Tracks.{moves}
use Rattle.mw_frames.specs.declared.job.Job.TheVariants.{Walk}
use Rattle.mw_frames.specs.Jobs.{rest}
use Rattle.mw_frames.specs.State.{Data, InHand}
use Rattle.mw_frames.specs.Machines.{data_of}
use Rattle.mw_frames.specs.Choosing.{decided_term, round_choice}
use Rattle.mw_frames.proofs.Deciding.{choice_in_hand}
use Rattle.mw_frames.proofs.FiringPart.{same_data}
use Rattle.mw_frames.proofs.LeftOver.{cut_at}
use Rattle.mw_frames.proofs.choosing.refuse_choice.Goals as goal

pub returns : goal.returns
returns c = λ K k b run h refuses.
    let m = c.args.machine.now in
    let g = c.gather.new.machine in
    let here = K.over.signature in
    let d : Data = data_of K.over m in
    let f = c.args.top in
    let at : c.min-at.result ≡ min f.from (length m.done.items) = search rules in
    let k1 = cut_at f.from m.done.items in
    let dropped = ap (λ n. drop n m.done.items) at ∙ k1.0 in
    let kept = ap (λ n. take n m.done.items) at ∙ k1.1 in
    let term : c.in_ok-term.term ≡ decided_term here d f =
    c.in_ok-term.ensures.term ∙ ap (λ s. applied_in s f.op (join (terms_of (drop c.min-at.result m.done.items)) (rest s m.kept.values (drop f.waits m.jobs.items)))) (sym run.signature)
    ∙ ap (λ xs. applied_in here f.op (join (terms_of xs) (rest here m.kept.values (drop f.waits m.jobs.items)))) dropped in
    let n : Data = data_of K.over g in
    let same = same_data (round_choice d f) n (ap reverse c.in_ok-term.ensures.frames) (c.in_ok-term.ensures.done ∙ kept) c.in_ok-term.ensures.jobs (ap (λ t. t.values) c.in_ok-term.ensures.kept) (ap (moves K.over) c.in_ok-term.ensures.kept) in
    let P : Data → RawTerm → Type 0 = λ x u. (i : InHand K k x (Walk u)) × (i.stand ≡ h.settled.stand) in
    let first : P (round_choice d f) (decided_term here d f) = (choice_in_hand K c.args.facts.now run k d f b h, refl) in
    let (i, q) = subst (λ x. P x c.in_ok-term.term) (sym same) (subst (P (round_choice d f)) (sym term) first) in
    c.in_ok-fired.ensures.means K false k run i (λ t e. refuses t (e ∙ ap (λ S. whole here S.opens S.hand) q))
