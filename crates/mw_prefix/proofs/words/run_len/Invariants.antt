use Rattle.std.proofs.Common.{◌≡◌, ◌+◌, length}
use Rattle.mw_lex.specs.Pieces.{run_len}
use Rattle.mw_prefix.proofs.words.run_len.Given as goal

abbrev pub invariant-loop-rest : goal.invariant-loop-rest
invariant-loop-rest l = record { len : l.len + run_len l.rest ≡ run_len l.text; size : l.len + length l.rest ≡ length l.text }

abbrev pub decreases-loop-rest : goal.decreases-loop-rest
decreases-loop-rest l = length l.rest
