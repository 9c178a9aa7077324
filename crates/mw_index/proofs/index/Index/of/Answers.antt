use Rattle.std.proofs.Common.{ap, arith, length}
use Rattle.mw_index.proofs.Indexing.{index_none, index_all}
use Rattle.mw_index.proofs.index.Index.of.Goals as goal

pub loop-at-init : goal.loop-at-init
loop-at-init c = index_none c.args.context.now c.none-index.result c.none-index.ensures.equations c.none-index.ensures.rules

pub loop-at-preserved : goal.loop-at-preserved
loop-at-preserved c = c.in_ok-list.ensures c.loop-at.invariant

pub returns : goal.returns
returns c = index_all c.args.context.now c.loop-at.at c.loop-at.index (let a = ap length c.statements-at-end.ensures in let b = c.loop-at-test.false in omega (arith, a, b)) c.loop-at.invariant
