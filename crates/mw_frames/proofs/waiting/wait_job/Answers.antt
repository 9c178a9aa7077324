use Rattle.std.proofs.Common.{◌≡◌, ◌≤◌, List, true, false, length, drop, take, sym, subst}
use Rattle.mw_logic.specs.Term.{RawTerm, nil, cons}
use Rattle.mw_logic.specs.TermOrder.{stands_after, sorted_terms}
use Rattle.mw_logic.proofs.Canonical.{Each}
use Rattle.mw_frames.specs.declared.job.Job.{Job}
use Rattle.mw_frames.specs.Jobs.{term_of, rest}
use Rattle.mw_frames.specs.State.{IsJob, IsAtHand, AreAtHand}
use Rattle.mw_frames.specs.Arrivals.{Joins}
use Rattle.mw_frames.proofs.JobOrder.{joins_inserted, joins_pushed, weights-put, weights-pushed}
use Rattle.mw_frames.proofs.waiting.wait_job.Goals as goal

pub returns-then-comm-clause-joins : goal.returns-then-comm-clause-joins
returns-then-comm-clause-joins c = λ sig vs hand.
    let xs : List Job = c.args.jobs.now.items in
    let at = c.place_of_job-at.result in
    let t : RawTerm = term_of sig vs c.args.job in
    let e : c.as_slice.result.now ≡ xs = c.as_slice.ensures.value in
    subst (λ m. Joins sig vs m c.args.waits (cons t nil) (λ M n. IsJob M n vs c.args.job) xs c.insert.new.self.items) (sym c.if-comm.true)
    (joins_inserted sig vs c.args.waits at c.args.job xs c.insert.new.self.items c.in_ok-insert.ensures.items (subst (λ ys. at ≤ length ys) e c.place_of_job-at.ensures.bound)
    (subst (λ ys. c.args.waits ≤ length ys → c.args.waits ≤ at) e c.place_of_job-at.ensures.within) hand
    (subst (λ ys. Each (λ u. stands_after u t ≡ false) (rest sig vs (drop at ys))) e (c.place_of_job-at.ensures.before sig vs))
    (subst (λ ys. AreAtHand (drop c.args.waits ys) → IsAtHand c.args.job → sorted_terms (rest sig vs (drop c.args.waits ys)) ≡ rest sig vs (drop c.args.waits ys)
    → Each (λ u. stands_after u t ≡ true) (rest sig vs (drop c.args.waits (take at ys)))) e (c.place_of_job-at.ensures.behind sig vs)))

pub returns-then-comm-clause-weight : goal.returns-then-comm-clause-weight
returns-then-comm-clause-weight c = λ sig vs. weights-put sig vs c.args.job c.place_of_job-at.result c.args.jobs.now.items c.insert.new.self.items c.in_ok-insert.ensures.items

pub returns-clause-joins : goal.returns-clause-joins
returns-clause-joins c = λ sig vs hand.
    subst (λ m. Joins sig vs m c.args.waits (cons (term_of sig vs c.args.job) nil) (λ M n. IsJob M n vs c.args.job) c.args.jobs.now.items c.push.new.self.items) (sym c.if-comm.false)
    (joins_pushed sig vs c.args.waits c.args.job c.args.jobs.now.items c.push.new.self.items hand c.in_ok-push.ensures.items)

pub returns-clause-weight : goal.returns-clause-weight
returns-clause-weight c = λ sig vs. weights-pushed sig vs c.args.job c.args.jobs.now.items c.push.new.self.items c.in_ok-push.ensures.items
