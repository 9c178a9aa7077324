-- What a well-formed module has: an accepted signature whose sorts lie in their kinds, statements whose two sides are raw terms of one kind, and tests and
-- choices on the kinds that they are for. Its proofs lead raw terms to raw terms. (Maude Manual, chapter 4, "Admissible functional modules".)
use Rattle.std.specs.Prelude.{ℕ, [], ◌∷◌, ◌≡◌, ◌⊎◌, IsTrue, codes}
use Rattle.mw_logic.specs.Signature.{Operator, IsOperator, SameKind, HasKind, IsRawTerm}
use Rattle.mw_logic.specs.Accepted.{IsAccepted, IsWellSorted}
use Rattle.mw_logic.specs.Module.{Module, Statement, IsStatement, AreKindsOf}

pub record IsWellFormed (M : Module) : Type 0 where
  pub accepted : IsAccepted M.signature
  pub sorted : IsWellSorted M.signature
  -- both sides of a statement are raw terms, of one kind
  pub statements : (k : ℕ) (st : Statement) → IsStatement M k st
      → IsRawTerm M.signature st.left × IsRawTerm M.signature st.right × (K : ℕ) × HasKind M.signature st.left K × HasKind M.signature st.right K
  -- `_==_` and `_=/=_` give a truth value
  pub tests : (f : ℕ) (o : Operator) → IsOperator M.signature f o → IsTrue o.built → (o.spelling ≡ codes "_==_") ⊎ (o.spelling ≡ codes "_=/=_")
      → AreKindsOf M.signature (o.result ∷ []) (codes "Bool" ∷ [])
  -- `if_then_else_fi` gives one of its last two arguments, of its result's kind
  pub choices : (f : ℕ) (o : Operator) → IsOperator M.signature f o → IsTrue o.built → o.spelling ≡ codes "if_then_else_fi"
      → (B K L : ℕ) × (o.args ≡ B ∷ K ∷ L ∷ []) × SameKind M.signature K o.result × SameKind M.signature L o.result
