-- Modules that contexts hold are well-formed: what is built in is as it must be, and each statement's sides are of one kind.
use Rattle.mw_logic.specs.Module.{Module}
use Rattle.mw_logic.specs.WellFormed.{IsWellFormed}
use Rattle.mw_builtin.proofs.BuiltLaws.{built_tests, built_choices}
use Rattle.mw_least.specs.Workable.{IsWorkable}

pub workable_well_formed : (M : Module) → IsWorkable M → IsWellFormed M
workable_well_formed M w = record {
  accepted = w.signature.accepted;
  sorted = w.signature.well_sorted;
  statements = λ k e is. let s = w.sides k e is.is_there in (s.left, s.right, s.kinds.0, s.kinds.1, s.kinds.2);
  tests = built_tests M.signature w.built;
  choices = built_choices M.signature w.built;
}
