use Rattle.std.proofs.Common.{◌≤◌, ◌*◌, ◌+◌, length}
use Rattle.mw_logic.specs.NormalForm.{height, highest}
use Rattle.mw_term.specs.Raws.{raw_term, raw_terms}
use Rattle.mw_tests.specs.Numbers.{AreTerms}
use Rattle.mw_tests.proofs.numerals.+test.Given as goal

abbrev pub decreases-is_term : goal.decreases-is_term
decreases-is_term l = 2 * height (raw_term l.raw.now)

abbrev pub decreases-are_terms : goal.decreases-are_terms
decreases-are_terms l = 2 * highest (raw_terms l.terms.now) + 1

abbrev pub invariant-are_terms-loop-rest : goal.invariant-are_terms-loop-rest
invariant-are_terms-loop-rest l = record {
  left : AreTerms (raw_terms l.rest) → AreTerms (raw_terms l.terms);
  low : highest (raw_terms l.rest) ≤ highest (raw_terms l.terms);
}

abbrev pub decreases-are_terms-loop-rest : goal.decreases-are_terms-loop-rest
decreases-are_terms-loop-rest l = length l.rest
