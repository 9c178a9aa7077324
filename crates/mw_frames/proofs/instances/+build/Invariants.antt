use Rattle.std.proofs.Common.{◌≡◌, ◌+◌, ◌*◌, ◌||◌, false, drop}
use Rattle.mw_logic.specs.Term.{join}
use Rattle.mw_logic.specs.Terms.{terms_of}
use Rattle.mw_logic.specs.NormalForm.{height, highest, some_largest}
use Rattle.mw_matching.specs.Matches.{evaluated_all}
use Rattle.mw_pattern.specs.Clean.{clean, clean_all}
use Rattle.mw_frames.proofs.instances.+build.Given as goal

abbrev pub decreases-build : goal.decreases-build
decreases-build l = 2 * height (clean l.pattern.now)

abbrev pub decreases-all_built : goal.decreases-all_built
decreases-all_built l = 2 * highest l.patterns.now + 1

abbrev pub invariant-all_built-loop-pattern : goal.invariant-all_built-loop-pattern
invariant-all_built-loop-pattern l =
    (join (terms_of l.made.items) (evaluated_all l.facts l.values (clean_all (drop l.pattern-index l.list))) ≡ evaluated_all l.facts l.values (clean_all l.list))
    × (some_largest l.facts (terms_of l.values) ≡ false → l.large ≡ (l.fn.large || some_largest l.facts (terms_of l.made.items)))
