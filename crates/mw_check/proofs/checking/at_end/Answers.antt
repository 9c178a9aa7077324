use Rattle.std.proofs.Common.{subst}
use Rattle.std.proofs.lemmas.Bool.{both_ways}
use Rattle.mw_verdict.specs.Checks.{Checks}
use Rattle.mw_check.proofs.Whole.{deduced, another_end}
use Rattle.mw_check.proofs.checking.at_end.Goals as goal

pub returns-then-not-same : goal.returns-then-not-same
returns-then-not-same c = λ M most r d items run wf a h e k.
    another_end M most c.args.text.now.from c.args.text.now.to c.args.term.now items r d c.args.step run h e (λ q. both_ways c.same.result c.if-not-same.true (c.same.ensures.1 q))

pub returns : goal.returns
returns c = λ M most r d items run wf a h e k.
    let from = c.args.text.now.from in
    let there = subst (λ u. Checks M 63 items from u r d run) (c.same.ensures.0 c.if-not-same.false) h in
    (c.in_ok-from.ensures, c.in_ok-to.ensures, deduced M wf from c.args.text.now.to items r d c.args.count run a there k)
