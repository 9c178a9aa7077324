use Rattle.std.proofs.Common.{◌≡◌, ◌+◌, length}
use Rattle.mw_module.specs.Words.{count_before}
use Rattle.mw_module.proofs.words.count_before.Given as goal

abbrev pub invariant-loop-rest : goal.invariant-loop-rest
invariant-loop-rest l = record {
  count : l.count + count_before l.word l.rest ≡ count_before l.word l.tokens;
  size : l.count + length l.rest ≡ length l.tokens;
}

abbrev pub decreases-loop-rest : goal.decreases-loop-rest
decreases-loop-rest l = length l.rest
