use Rattle.std.proofs.Common.{◌≡◌, ◌+◌, ◌*◌, drop}
use Rattle.mw_logic.specs.Term.{join}
use Rattle.mw_logic.specs.Terms.{terms_of}
use Rattle.mw_logic.specs.NormalForm.{height, highest}
use Rattle.mw_position.specs.Variables.{all_placed}
use Rattle.mw_compile.specs.Compiled.{AreAllAmong}
use Rattle.mw_compile.proofs.placing.+placed.Given as goal

abbrev pub decreases-by_position : goal.decreases-by_position
decreases-by_position l = 2 * height l.term.now

abbrev pub decreases-all_by_position : goal.decreases-all_by_position
decreases-all_by_position l = 2 * highest (terms_of l.terms.now) + 1

abbrev pub invariant-all_by_position-loop-term : goal.invariant-all_by_position-loop-term
invariant-all_by_position-loop-term l = record {
  among : AreAllAmong l.places (terms_of (drop l.term-index l.terms));
  made : join (terms_of l.made.items) (all_placed l.places (terms_of (drop l.term-index l.terms))) ≡ all_placed l.places (terms_of l.terms);
}
