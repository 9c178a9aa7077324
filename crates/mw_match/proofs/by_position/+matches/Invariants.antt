use Rattle.std.proofs.Common.{◌≡◌, ◌+◌, ◌*◌, length}
use Rattle.mw_logic.specs.NormalForm.{height, highest}
use Rattle.mw_pattern.specs.Clean.{clean}
use Rattle.mw_match.proofs.Matching.{Matching}
use Rattle.mw_match.proofs.by_position.+matches.Given as goal

abbrev pub decreases-all_match : goal.decreases-all_match
decreases-all_match l = 2 * highest l.patterns.now + 1

abbrev pub decreases-matches : goal.decreases-matches
decreases-matches l = 2 * height (clean l.pattern.now)

abbrev pub invariant-all_match-loop-i : goal.invariant-all_match-loop-i
invariant-all_match-loop-i l = (l.n ≡ length l.list) × Matching l.facts l.fn.values.items l.values.items l.list l.terms l.i

abbrev pub decreases-matches_number : goal.decreases-matches_number
decreases-matches_number l = 2 * highest l.patterns.now + 1
