use Rattle.std.proofs.Common.{◌≡◌, ◌≤◌, ◌*◌, ◌+◌, length}
use Rattle.mw_logic.specs.Term.{are_ground}
use Rattle.mw_logic.specs.NormalForm.{height, highest}
use Rattle.mw_term.specs.Raws.{raw_term, raw_terms}
use Rattle.mw_term.proofs.raw.+ground.Given as goal

abbrev pub decreases-Raw::is_ground : goal.decreases-Raw::is_ground
decreases-Raw::is_ground l = 2 * height (raw_term l.self.now)

abbrev pub decreases-are_ground : goal.decreases-are_ground
decreases-are_ground l = 2 * highest (raw_terms l.terms.now) + 1

abbrev pub invariant-are_ground-loop-rest : goal.invariant-are_ground-loop-rest
invariant-are_ground-loop-rest l = record {
  left : are_ground (raw_terms l.rest) ≡ are_ground (raw_terms l.terms);
  low : highest (raw_terms l.rest) ≤ highest (raw_terms l.terms);
}

abbrev pub decreases-are_ground-loop-rest : goal.decreases-are_ground-loop-rest
decreases-are_ground-loop-rest l = length l.rest
