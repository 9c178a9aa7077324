use Rattle.std.proofs.Common.{sym, subst}
use Rattle.mw_sorts.specs.Squares.{IsTurnedRow, AreTurned}
use Rattle.mw_sorts.proofs.Matched.{counted-more, turned-done}
use Rattle.mw_sorts.proofs.grouping.square.turned.Goals as goal

pub loop-row-preserved : goal.loop-row-preserved
loop-row-preserved c = counted-more (IsTurnedRow c.args.lists.now) c.loop-row.row c.loop-row.rows.items c.push.new.self.items _ c.loop-row.invariant c.in_ok-turned_row.ensures c.in_ok-push.ensures.items

pub returns : goal.returns
returns c = subst (AreTurned c.args.height c.args.lists.now) (sym c.of.ensures) (turned-done c.args.lists.now c.loop-row.rows.items c.loop-row.row c.args.height c.loop-row-test.false c.loop-row.invariant)
