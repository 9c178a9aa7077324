-- The operators that each kind has from the start: two tests of equality and a choice; and the truth values that they need. (Maude Manual, chapter 7,
-- "Boolean values".)
use Rattle.std.specs.Prelude.{◌≡◌, ◌⊎◌, ℕ, [], ◌∷◌, Bool, IsTrue, codes}
use Rattle.mw_logic.specs.Term.{RawTerm}
use Rattle.mw_logic.specs.Signature.{Signature, Operator, IsOperator, IsSortNamed, SameKind}
use Rattle.mw_logic.specs.Module.{IsTruth}

-- `true` and `false` are there
abbrev pub HasTruths : Signature → Type 0
HasTruths sig = (b : Bool) → (t : RawTerm) × IsTruth sig b t

-- The operator is a test of two terms of one kind, which gives a truth value; or a choice by a truth value between two terms of one kind, which gives
-- one of this kind.
pub data IsOfEachKind (sig : Signature) (o : Operator) : Type 0 where
  a_test : (K B : ℕ) → (o.spelling ≡ codes "_==_") ⊎ (o.spelling ≡ codes "_=/=_") → o.args ≡ K ∷ K ∷ [] → IsSortNamed sig B (codes "Bool") → SameKind sig B o.result → IsOfEachKind sig o
  a_choice : (B C : ℕ) → o.spelling ≡ codes "if_then_else_fi" → o.args ≡ C ∷ o.result ∷ o.result ∷ [] → IsSortNamed sig B (codes "Bool") → SameKind sig B C → IsOfEachKind sig o

-- Each operator that is built in is one of these, and stands beside the truth values.
pub record HasBuiltIns (sig : Signature) : Type 0 where
  pub shapes : (f : ℕ) (o : Operator) → IsOperator sig f o → IsTrue o.built → IsOfEachKind sig o
  pub truths : (f : ℕ) (o : Operator) → IsOperator sig f o → IsTrue o.built → HasTruths sig
