use Rattle.std.proofs.Common.{◌≡◌, false, ◌+◌, ◌*◌, drop}
use Rattle.mw_logic.specs.NormalForm.{height, highest}
use Rattle.mw_pattern.specs.Clean.{clean, clean_all}
use Rattle.mw_match.specs.Straight.{AreStraight}
use Rattle.mw_canon.specs.Free.{AreFree}
use Rattle.mw_index.proofs.patterns.+free.Given as goal

abbrev pub decreases-is_free : goal.decreases-is_free
decreases-is_free l = 2 * height (clean l.pattern.now)

abbrev pub decreases-are_free : goal.decreases-are_free
decreases-are_free l = 2 * highest l.patterns.now + 1

abbrev pub invariant-are_free-loop-pattern : goal.invariant-are_free-loop-pattern
invariant-are_free-loop-pattern l =
    (l.successor ≡ false → AreFree l.facts (clean_all (drop l.pattern-index l.list)) → AreFree l.facts (clean_all l.list))
    × (AreStraight l.facts (clean_all (drop l.pattern-index l.list)) → AreStraight l.facts (clean_all l.list))
