-- Of the operators that each kind has: what their arguments and values are.
use Rattle.std.specs.Prelude.{◌≡◌, ◌⊎◌, ℕ, List, [], ◌∷◌, IsTrue, codes}
use Rattle.std.proofs.Common.{inl, inr}
use Rattle.mw_logic.specs.Signature.{Signature, Operator, IsOperator, SameKind, same}
use Rattle.mw_logic.specs.Module.{AreKindsOf}
use Rattle.mw_logic.specs.Built.{HasBuiltIns, IsOfEachKind, a_test, a_choice}

-- the spelling of a test; those of a test and a choice differ
abbrev pub IsTest : List ℕ → Type 0
IsTest x = (x ≡ codes "_==_") ⊎ (x ≡ codes "_=/=_")

apart : {X : Type 0} (x : List ℕ) → IsTest x → x ≡ codes "if_then_else_fi" → X
apart x (inl e) h = cc
apart x (inr e) h = cc

-- a test takes two arguments and gives a truth value
pub test_args : (sig : Signature) (o : Operator) → IsOfEachKind sig o → IsTest o.spelling → (K : ℕ) × (o.args ≡ K ∷ K ∷ [])
test_args sig o (a_test K B t args named k) h = (K, args)
test_args sig o (a_choice B C e args named k) h = apart o.spelling h e

pub test_result : (sig : Signature) (o : Operator) → IsOfEachKind sig o → IsTest o.spelling → AreKindsOf sig (o.result ∷ []) (codes "Bool" ∷ [])
test_result sig o (a_test K B t args named k) h = (B, named, k, tt)
test_result sig o (a_choice B C e args named k) h = apart o.spelling h e

-- a choice takes three, the last two of its result's kind
pub choice_args : (sig : Signature) (o : Operator) → IsOfEachKind sig o → o.spelling ≡ codes "if_then_else_fi" → (C : ℕ) × (o.args ≡ C ∷ o.result ∷ o.result ∷ [])
choice_args sig o (a_test K B t args named k) h = apart o.spelling t h
choice_args sig o (a_choice B C e args named k) h = (C, args)

module _ (sig : Signature) (h : HasBuiltIns sig) where
  -- so a module with them is well-formed as to its tests and choices
  pub built_tests : (f : ℕ) (o : Operator) → IsOperator sig f o → IsTrue o.built → IsTest o.spelling → AreKindsOf sig (o.result ∷ []) (codes "Bool" ∷ [])
  built_tests f o is b t = test_result sig o (h.shapes f o is b) t

  pub built_choices : (f : ℕ) (o : Operator) → IsOperator sig f o → IsTrue o.built → o.spelling ≡ codes "if_then_else_fi" → (B K L : ℕ) × (o.args ≡ B ∷ K ∷ L ∷ []) × SameKind sig K o.result × SameKind sig L o.result
  built_choices f o is b e = let (C, args) = choice_args sig o (h.shapes f o is b) e in (C, o.result, o.result, args, same, same)
