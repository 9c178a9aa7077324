-- What holds of the signatures of statements.
use Rattle.std.specs.Prelude.{◌≡◌, List, None, IsTrue}
use Rattle.mw_carry.specs.Carried.{IsPart}
use Rattle.mw_carry.specs.Laws.{OperatorsApart}
use Rattle.mw_module.specs.Units.{SeenLined, IsWithin}
use Rattle.mw_declare.specs.declared.built.Reached.{Reached}
use Rattle.mw_declare.specs.Operators.{signature_of}
use Rattle.mw_declare.specs.Declarations.{unknown_in_all}

-- the modules of the prelude that the first reaches are reached by the second
pub record ReachesMore (r s : Reached) : Type 0 where
  pub nat : IsTrue r.nat → IsTrue s.nat
  pub qid : IsTrue r.qid → IsTrue s.qid

-- What statements declare is part of what these declare together with others.
abbrev pub PartsAreThere : Type 0
PartsAreThere = (r s : Reached) (A B : List SeenLined) → ReachesMore r s → IsWithin A B → unknown_in_all A ≡ None → unknown_in_all B ≡ None
    → IsPart (signature_of r A) (signature_of s B)

-- No two operators of statements have one name and the same kinds.
abbrev pub DeclaredApart : Type 0
DeclaredApart = (r : Reached) (A : List SeenLined) → unknown_in_all A ≡ None → OperatorsApart (signature_of r A)
