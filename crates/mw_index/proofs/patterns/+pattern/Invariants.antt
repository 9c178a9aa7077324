use Rattle.std.proofs.Common.{◌≡◌, ◌+◌, ◌*◌, drop}
use Rattle.mw_logic.specs.NormalForm.{height, highest}
use Rattle.mw_logic.specs.Term.{join}
use Rattle.mw_logic.specs.Terms.{terms_of}
use Rattle.mw_position.specs.Variables.{all_placed}
use Rattle.mw_compile.specs.Compiled.{AreAllAmong}
use Rattle.mw_pattern.specs.Clean.{clean_all}
use Rattle.mw_index.proofs.patterns.+pattern.Given as goal

abbrev pub decreases-pattern_of : goal.decreases-pattern_of
decreases-pattern_of l = 2 * height l.term.now

abbrev pub decreases-patterns_of : goal.decreases-patterns_of
decreases-patterns_of l = 2 * highest (terms_of l.terms.now) + 1

abbrev pub invariant-patterns_of-loop-term : goal.invariant-patterns_of-loop-term
invariant-patterns_of-loop-term l =
    AreAllAmong l.places (terms_of (drop l.term-index l.terms))
    × (join (clean_all l.made.items) (all_placed l.places (terms_of (drop l.term-index l.terms))) ≡ all_placed l.places (terms_of l.terms))
