use Rattle.std.proofs.Common.{◌≡◌, ◌+◌, false, reverse, ap, sym, subst, arith}
use Rattle.std.specs.Prelude.{drop, List}
use Rattle.mw_logic.specs.Term.{RawTerm, RawTerms, apply}
use Rattle.mw_logic.specs.Signature.{Signature}
use Rattle.mw_logic.specs.Parts.{is_assoc}
use Rattle.mw_logic.specs.NormalForm.{is_comm, applied_in}
use Rattle.mw_matching.specs.Matches.{evaluated_all}
use Rattle.mw_frames.specs.Jobs.{size, sizes, nodes_in, weights}
use Rattle.mw_frames.specs.Machines.{data_of}
use Rattle.mw_frames.specs.State.{Settled}
use Rattle.mw_frames.specs.Arrivals.{StandForAll}
use Rattle.mw_frames.proofs.JobOrder.{weights-append}
use Rattle.mw_frames.proofs.OpeningTerms.{plain_opened, kept_settled, kept_work, work_more}
use Rattle.mw_frames.proofs.opening.open_plain.Goals as goal

pub returns-clause-opens : goal.returns-clause-opens
returns-clause-opens c = λ n m e K k x run h is known.
    let vs : List RawTerm = c.args.machine.now.kept.values in
    let (xs, ej, st) = c.in_ok-wait_made.ensures.jobs in
    let back : (P : Signature → Type 0) → P c.args.facts.now → P K.over.signature = λ P p. subst P (sym run.signature) p in
    kept_settled K k c.args.machine.now c.wait_made.new.machine c.in_ok-frame.frame c.in_ok-wait_made.ensures.keeps
    (subst (λ ds. Settled K k (record { frames = reverse c.args.machine.now.frames.items; done = ds; jobs = c.wait_made.new.machine.jobs.items; values = vs; moves = (data_of K.over c.args.machine.now).moves }) c.in_ok-frame.frame)
    (sym c.in_ok-wait_made.ensures.done)
    (plain_opened K k c.args.facts.now run (data_of K.over c.args.machine.now) x h c.args.operator c.args.args.now c.args.base c.args.top c.in_ok-frame.frame xs c.wait_made.new.machine.jobs.items
    (back (λ s. is_assoc s c.args.operator ≡ false) n) (back (λ s. is_comm s c.args.operator ≡ false) m)
    (back (λ s. applied_in s c.args.operator (evaluated_all s (drop c.args.base vs) c.args.args.now) ≡ apply c.args.operator (evaluated_all s (drop c.args.base vs) c.args.args.now)) e)
    is known.0 known.1 c.in_ok-frame.ensures ej (back (λ s. StandForAll s vs c.args.base c.args.top c.args.args.now xs) st)))

pub returns-clause-falls : goal.returns-clause-falls
returns-clause-falls c = λ M e.
    let vs : List RawTerm = c.args.machine.now.kept.values in
    let sig : Signature = c.args.facts.now in
    let ts : RawTerms = evaluated_all sig (drop c.args.base vs) c.args.args.now in
    let (xs, ej, st) = c.in_ok-wait_made.ensures.jobs in
    let a = ap (weights sig vs) ej in
    let b = weights-append sig vs c.args.machine.now.jobs.items xs in
    let l = st.light in
    let w = work_more sig vs (reverse c.args.machine.now.frames.items) c.args.machine.now.jobs.items c.wait_made.new.machine.jobs.items (sizes ts + nodes_in c.args.args.now) (omega (arith, a, b, l)) in
    let k = kept_work sig c.args.machine.now c.wait_made.new.machine c.in_ok-wait_made.ensures.keeps in
    let s : size (applied_in sig c.args.operator ts) ≡ 5 + sizes ts = ap size e in
    omega (arith, w, k, s)
