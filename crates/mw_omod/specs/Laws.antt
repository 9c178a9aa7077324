-- What completion keeps of a statement.
use Rattle.std.specs.Prelude.{◌≡◌, ◌⊎◌, ◌||◌, IsTrue}
use Rattle.mw_logic.specs.Term.{Variable}
use Rattle.mw_logic.specs.Signature.{Signature}
use Rattle.mw_logic.specs.Accepted.{IsAccepted}
use Rattle.mw_logic.specs.Substitution.{occurs}
use Rattle.mw_logic.specs.Module.{Statement}
use Rattle.mw_logic.specs.Confluence.{HasOnly, AreBound}
use Rattle.mw_least.specs.Conditions.{binds_among}
use Rattle.mw_least.specs.Workable.{AreSides}
use Rattle.mw_omod.specs.declared.classes.Classes.{Classes}
use Rattle.mw_text.specs.Proper.{HasIdentifiers}
use Rattle.mw_omod.specs.Objects.{IsAdded}
use Rattle.mw_omod.specs.Completion.{IsCompletion}
use Rattle.mw_omod.specs.Workable.{AreClasses}

-- Its sides are raw terms of one kind, and the sorts of its variables are there.
abbrev pub SidesStay : Type 0
SidesStay = (sig : Signature) (K : Classes) (e e' : Statement) → IsAccepted sig → AreClasses sig K → IsCompletion sig K e e' → AreSides sig e → AreSides sig e'

-- Each variable of the right side and of what is evaluated in the condition is bound: by the left side, or by a match.
pub record AreAllBound (e : Statement) : Type 0 where
  pub right : HasOnly (binds_among (λ y. occurs y e.left) e.fragments) e.right
  pub in_turn : AreBound (λ y. occurs y e.left) e.fragments

abbrev pub VariablesStayBound : Type 0
VariablesStayBound = (sig : Signature) (K : Classes) (e e' : Statement) → IsCompletion sig K e e' → AreAllBound e → AreAllBound e'

-- A statement has one completion.
abbrev pub CompletedOnce : Type 0
CompletedOnce = (sig : Signature) (K : Classes) (e a b : Statement) → IsCompletion sig K e a → IsCompletion sig K e b → a ≡ b

-- A variable of a completed side is one of the sides as they were, or is added; and quoted identifiers that are tokens stay so.
abbrev pub OnlyAdded : Type 0
OnlyAdded = (sig : Signature) (K : Classes) (e a : Statement) (x : Variable) → IsCompletion sig K e a → IsTrue (occurs x a.left || occurs x a.right) → IsTrue (occurs x e.left || occurs x e.right) ⊎ IsAdded x

abbrev pub IdentifiersStay : Type 0
IdentifiersStay = (sig : Signature) (K : Classes) (e a : Statement) → IsCompletion sig K e a → HasIdentifiers e.left → HasIdentifiers e.right → HasIdentifiers a.left × HasIdentifiers a.right
