-- The modules that contexts hold: their signature is preregular modulo its axioms, its built-in operators are tests of equality and choices with the truth
-- values that they need, and the variables of their statements are bound in turn.
use Rattle.std.specs.Prelude.{ℕ, ◌≡◌, ◌||◌, false, IsTrue, Some}
use Rattle.mw_logic.specs.Term.{Variable, variable}
use Rattle.mw_logic.specs.Signature.{Signature, at_number, HasKind, IsRawTerm}
use Rattle.mw_logic.specs.Axioms.{EqualModulo}
use Rattle.mw_logic.specs.Substitution.{occurs}
use Rattle.mw_logic.specs.Preregular.{IsSortOf, HasItsSorts}
use Rattle.mw_logic.specs.Built.{HasBuiltIns}
use Rattle.mw_logic.specs.Module.{Module, Statement, IsStatement}
use Rattle.mw_logic.specs.Confluence.{HasOnly, AreBound}
use Rattle.mw_sorting.specs.PreregularModulo.{IsPreregularModulo}
use Rattle.mw_least.specs.Conditions.{mentioned, occurs_among, binds_among, AreRawFragments}

-- The sides are raw terms of one kind, and the sorts of their variables are there. So are the sides of the condition.
pub record AreSides (sig : Signature) (e : Statement) : Type 0 where
  pub left : IsRawTerm sig e.left
  pub right : IsRawTerm sig e.right
  pub kinds : (K : ℕ) × HasKind sig e.left K × HasKind sig e.right K
  pub fragments : AreRawFragments sig e.fragments
  pub sorts : (x : Variable) → IsTrue ((occurs x e.left || occurs x e.right) || occurs_among x e.fragments) → IsSortOf sig x.sort

-- An equation or a rule that isn't `owise`. Its left side isn't a variable, modulo the axioms. Each side of its condition has variables of the left side, or
-- of the pattern of a match before it; the right side has variables of the left side, or of the pattern of a match.
pub record IsOrdinary (sig : Signature) (e : Statement) : Type 0 where
  pub ordinary : e.owise ≡ false
  pub not_lone : (x : Variable) → EqualModulo sig e.left (variable x) → ⊥
  pub variables : e.variables ≡ mentioned e
  pub bound : HasOnly (binds_among (λ y. occurs y e.left) e.fragments) e.right
  pub bound_in_turn : AreBound (λ y. occurs y e.left) e.fragments

-- Of statements that aren't executable no more is asked than of their sides.
pub record IsWorkable (M : Module) : Type 0 where
  pub signature : IsPreregularModulo M.signature
  pub numbers : HasItsSorts M.signature
  pub built : HasBuiltIns M.signature
  pub sides : (k : ℕ) (e : Statement) → at_number M.statements k ≡ Some e → AreSides M.signature e
  pub statements : (k : ℕ) (e : Statement) → IsStatement M k e → IsOrdinary M.signature e
