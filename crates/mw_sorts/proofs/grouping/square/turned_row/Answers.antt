use Rattle.std.proofs.Common.{sym, subst, arith}
use Rattle.mw_sorts.specs.Squares.{IsTurnedRow}
use Rattle.mw_sorts.proofs.Matched.{IsCellOf, matched-more, turned_row-done}
use Rattle.mw_sorts.proofs.grouping.square.turned_row.Goals as goal

pub loop-number-preserved : goal.loop-number-preserved
loop-number-preserved c = matched-more (IsCellOf c.args.row) c.loop-number.number c.args.lists.now c.loop-number.cells.items c.push.new.self.items c.get.result.now _ c.loop-number.invariant c.get.ensures c.number_at_place.ensures c.in_ok-push.ensures.items

pub returns : goal.returns
returns c = subst (IsTurnedRow c.args.lists.now c.args.row) (sym c.of.ensures) (turned_row-done c.args.lists.now c.args.row c.loop-number.number c.loop-number.cells.items (let e = c.len-number-end.ensures in let l = c.loop-number-test.false in omega arith) c.loop-number.invariant)
