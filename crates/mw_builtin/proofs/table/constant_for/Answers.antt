use Rattle.std.proofs.Common.{sym, subst}
use Rattle.std.proofs.lemmas.Bool.{both_ways}
use Rattle.mw_builtin.specs.Schemata.{IsNamedTruth}
use Rattle.mw_builtin.proofs.Denoting.{row_names, row_passed, none_names}
use Rattle.mw_builtin.proofs.table.constant_for.Goals as goal

pub returns-then-is_truth : goal.returns-then-is_truth
returns-then-is_truth c sig all = subst (IsNamedTruth sig c.args.truth) (sym c.in_ok-number.ensures) (row_names sig c.args.rows.now c.args.truth c.loop-index.index all c.loop-index-test.true (c.is_truth.ensures.0 c.if-is_truth.true))

pub loop-index-preserved : goal.loop-index-preserved
loop-index-preserved c = row_passed c.args.rows.now c.args.truth c.loop-index.index (λ e. both_ways _ c.if-is_truth.false (c.is_truth.ensures.1 e)) c.loop-index.invariant

pub returns : goal.returns
returns c sig all = none_names sig c.args.rows.now c.args.truth c.loop-index.index all c.loop-index-test.false c.loop-index.invariant
