use Rattle.std.proofs.Common.{arith, sym, ◌∙◌}
use Rattle.mw_match.proofs.RowLists.{leading_on}
use Rattle.mw_match.proofs.rows.leading_rigid.Goals as goal

pub loop-i-preserved : goal.loop-i-preserved
loop-i-preserved c =
    leading_on c.args.facts.now c.args.positions.now.single.items c.args.operator c.loop-i.i c.args.patterns.now c.index-patterns-i.result (omega arith) c.index-patterns-i.is (sym c.is_rigid.ensures ∙ c.if-not-is_rigid.false) c.loop-i.invariant
