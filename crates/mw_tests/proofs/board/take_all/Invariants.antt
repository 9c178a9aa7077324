use Rattle.std.proofs.Common.{◌≡◌, ◌<◌}
use Rattle.mw_board.specs.Rule.{mark_of}
use Rattle.mw_tests.proofs.board.take_all.Given as goal

abbrev pub invariant-loop-i : goal.invariant-loop-i
invariant-loop-i l = (l.seat.board ≡ l.initial.seat.board) × (0 < mark_of l.seat.view.numbers)
