-- Signatures without axioms, as the relation and as a test: there equality modulo the axioms is equality. (Goguen and Meseguer 1992, free term algebras.)
use Rattle.std.specs.Prelude.{◌≡◌, ℕ, List, [], ◌∷◌, Bool, true, false, ◌&&◌, not, is_none, None}
use Rattle.mw_logic.specs.Signature.{Signature, Operator, IsOperator}

-- no operator has an axiom or is built in, and there are no numbers
pub record IsFreeSignature (sig : Signature) : Type 0 where
  pub assoc : (f : ℕ) (o : Operator) → IsOperator sig f o → o.assoc ≡ false
  pub comm : (f : ℕ) (o : Operator) → IsOperator sig f o → o.comm ≡ false
  pub identity : (f : ℕ) (o : Operator) → IsOperator sig f o → o.identity ≡ None
  pub built : (f : ℕ) (o : Operator) → IsOperator sig f o → o.built ≡ false
  pub nat : sig.nat ≡ false

-- the same by a test
abbrev pub is_free_operator : Operator → Bool
is_free_operator o = not o.assoc && (not o.comm && (is_none o.identity && not o.built))

abbrev pub are_free_operators : List Operator → Bool
are_free_operators [] = true
are_free_operators (o ∷ os) = is_free_operator o && are_free_operators os

abbrev pub is_free : Signature → Bool
is_free sig = not sig.nat && are_free_operators sig.operators
