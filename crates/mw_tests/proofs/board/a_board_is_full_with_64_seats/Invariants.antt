use Rattle.std.proofs.Common.{◌≡◌}
use Rattle.mw_tests.proofs.board.a_board_is_full_with_64_seats.Given as goal

abbrev pub invariant-loop-number : goal.invariant-loop-number
invariant-loop-number g l = l.seat.board ≡ l.board.name
