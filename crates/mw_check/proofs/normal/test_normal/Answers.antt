use Rattle.std.proofs.Common.{subst}
use Rattle.mw_reduce.specs.Judgements.{IsJudged}
use Rattle.mw_check.proofs.NormalStops.{is_stopped}
use Rattle.mw_check.proofs.normal.test_normal.Goals as goal

pub returns-in-No : goal.returns-in-No
returns-in-No c = subst (IsJudged c.args.tester.now.context.now c.args.rank c.args.tester.now.most c.args.term.now) c.in-No.is c.in_ok-is_normal.ensures

pub returns-in-Stopped : goal.returns-in-Stopped
returns-in-Stopped c =
    let M = c.args.tester.now.context.now in
    is_stopped M c.args.rank c.args.tester.now.most c.requires.most c.args.term.now c.in-Stopped.field-0 (subst (IsJudged M c.args.rank c.args.tester.now.most c.args.term.now) c.in-Stopped.is c.in_ok-is_normal.ensures)
