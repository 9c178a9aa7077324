use Rattle.std.proofs.Common.{◌≡◌, ◌++◌, length}
use Rattle.mw_prooftext.specs.Texts.{numbers_text}
use Rattle.mw_prooftext.specs.Narrow.{AreNarrow}
use Rattle.mw_prooftext.proofs.lines.write_numbers.Given as goal

abbrev pub invariant-loop-rest : goal.invariant-loop-rest
invariant-loop-rest l = record {
  written : l.text.items ++ numbers_text l.rest ≡ l.fn.text.items ++ numbers_text l.numbers;
  narrow : AreNarrow l.rest → AreNarrow l.numbers;
}

abbrev pub decreases-loop-rest : goal.decreases-loop-rest
decreases-loop-rest l = length l.rest
