use Rattle.std.proofs.Common.{subst}
use Rattle.mw_check.specs.Answers.{IsTold}
use Rattle.mw_check.proofs.chains.ended.Goals as goal

pub returns-in-No-clause-is : goal.returns-in-No-clause-is
returns-in-No-clause-is c = subst (IsTold c.args.tester.now.context.now c.args.tester.now.most c.args.rank c.args.end) c.in-No.is c.in_ok-test_normal.ensures
