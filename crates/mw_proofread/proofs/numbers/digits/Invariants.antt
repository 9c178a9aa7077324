use Rattle.std.proofs.Common.{◌≡◌, length}
use Rattle.mw_proofread.specs.Numbers.{read_after}
use Rattle.mw_proofread.proofs.numbers.digits.Given as goal

abbrev pub invariant-loop-rest : goal.invariant-loop-rest
invariant-loop-rest l = read_after l.number l.rest ≡ read_after 0 l.text

abbrev pub decreases-loop-rest : goal.decreases-loop-rest
decreases-loop-rest l = length l.rest
