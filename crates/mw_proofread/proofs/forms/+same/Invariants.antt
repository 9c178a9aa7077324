use Rattle.std.proofs.Common.{◌≡◌, ◌≤◌, ◌*◌, ◌+◌, length}
use Rattle.mw_logic.specs.NormalForm.{height, highest}
use Rattle.mw_logic.specs.Terms.{terms_of}
use Rattle.mw_term.specs.Raws.{raw_term, raw_terms}
use Rattle.mw_proofread.specs.Same.{same_terms}
use Rattle.mw_proofread.proofs.forms.+same.Given as goal

abbrev pub decreases-is_same : goal.decreases-is_same
decreases-is_same l = 2 * height (raw_term l.raw.now)

abbrev pub decreases-are_same : goal.decreases-are_same
decreases-are_same l = 2 * highest (raw_terms l.raws.now) + 1

abbrev pub invariant-are_same-loop-left : goal.invariant-are_same-loop-left
invariant-are_same-loop-left l = record {
  left : same_terms (raw_terms l.left) (terms_of l.right) ≡ same_terms (raw_terms l.raws) (terms_of l.terms);
  low : highest (raw_terms l.left) ≤ highest (raw_terms l.raws);
}

abbrev pub decreases-are_same-loop-left : goal.decreases-are_same-loop-left
decreases-are_same-loop-left l = length l.left
