use Rattle.std.specs.Prelude.{slice_get}
use Rattle.std.proofs.Common.{◌≡◌, Some, arith, sym, subst, ◌∙◌, ⊎_elim}
use Rattle.std.proofs.lemmas.Bool.{cases_lt, both_ways}
use Rattle.std.proofs.lemmas.Option.{same_Some}
use Rattle.mw_proof.specs.Failures.{Failure}
use Rattle.mw_rule.specs.Finding.{IsFailureOf}
use Rattle.mw_redexes.proofs.Passed.{member_at, member_place, got_at}
use Rattle.mw_rule.proofs.finding.is_among.Goals as goal

pub returns-then-branch-clause-yes : goal.returns-then-branch-clause-yes
returns-then-branch-clause-yes c = λ yes.
    (c.failing-item.result, member_at c.args.failures.now c.loop-failing.failing-index c.failing-item.result c.loop-failing-test.true c.failing-item.is, c.in_ok-is_failure_of.ensures.yes c.if-branch.true, c.shows.ensures)

pub loop-failing-preserved : goal.loop-failing-preserved
loop-failing-preserved c = λ i f low at is.
    let fs = c.args.failures.now in
    let n = c.loop-failing.failing-index in
    let x : Failure = c.failing-item.result in
    ⊎_elim
    (λ l. c.loop-failing.invariant i f l at is)
    (λ g.
    let e : i ≡ n = omega (arith, low, g) in
    let here : slice_get fs n ≡ Some x = got_at fs n x c.loop-failing-test.true c.failing-item.is in
    let same : f ≡ x = same_Some f x (sym (subst (λ k. slice_get fs k ≡ Some f) e at) ∙ here) in
    both_ways _ c.if-branch.false (c.in_ok-is_failure_of.ensures.no (subst (λ (y : Failure). IsFailureOf y c.args.number c.args.subst.now) same is)))
    (cases_lt i n)

pub returns-clause-no : goal.returns-clause-no
returns-clause-no c = λ (f, member, is).
    let (i, low, at) = member_place c.args.failures.now f member in
    let done = c.loop-failing-test.false in
    absurd (c.loop-failing.invariant i f (omega (arith, low, done)) at is)
