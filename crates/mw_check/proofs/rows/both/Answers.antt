use Rattle.std.proofs.Common.{subst, inl, inr}
use Rattle.mw_check.specs.Answers.{IsTold}
use Rattle.mw_check.proofs.rows.both.Goals as goal

pub returns-in-No : goal.returns-in-No
returns-in-No c = inl (subst (IsTold c.args.tester.now.context.now c.args.tester.now.most c.args.rank c.args.first.now) c.in-No.is c.in_ok-left.ensures)

pub returns-in-No-2 : goal.returns-in-No-2
returns-in-No-2 c = inr (subst (IsTold c.args.tester.now.context.now c.args.tester.now.most c.args.rank c.args.second.now) c.in-No-2.is c.in_ok-test_normal.ensures)
