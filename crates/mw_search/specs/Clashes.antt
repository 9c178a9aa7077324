-- Patterns that have no match by values that go on from some, and shares of which no match comes.
use Rattle.std.specs.Prelude.{◌≡◌, ℕ, List, [], ◌∷◌, ◌++◌, flat_map, cond, true}
use Rattle.mw_logic.specs.Term.{RawTerm, RawTerms, Variable, variable, cons}
use Rattle.mw_logic.specs.Terms.{args_of, skip}
use Rattle.mw_logic.specs.Signature.{Signature}
use Rattle.mw_arguments.specs.Splits.{orders}
use Rattle.mw_matching.specs.Found.{Values, has_top, is_single, found, found_all, found_orders}
use Rattle.mw_search.specs.Goals.{Share, top_of, goal_found}

-- a pattern has no match with a term, whatever values come behind those that stand
abbrev pub Clash : Signature → Values → RawTerm → RawTerm → Type 0
Clash sig vs p t = (single : List (List ℕ)) (more : Values) → found sig single p t (vs ++ more) ≡ []

-- and so an operator whose arguments are met one by one, on patterns
abbrev pub ClashUnder : Signature → Values → ℕ → RawTerms → RawTerm → Type 0
ClashUnder sig vs f qs t = (single : List (List ℕ)) (more : Values) → cond (has_top f t) (found_all sig single qs (args_of t) (vs ++ more)) [] ≡ []

abbrev pub AllClash : Signature → Values → RawTerms → RawTerms → Type 0
AllClash sig vs qs ts = (single : List (List ℕ)) (more : Values) → found_all sig single qs ts (vs ++ more) ≡ []

-- and an operator whose arguments are met in each order
abbrev pub OrdersClash : Signature → Values → RawTerms → RawTerms → Type 0
OrdersClash sig vs qs ts = (single : List (List ℕ)) (more : Values) → found_orders sig single qs (orders ts) (vs ++ more) ≡ []

abbrev pub ClashSwapped : Signature → Values → ℕ → RawTerms → RawTerm → Type 0
ClashSwapped sig vs f qs t = (single : List (List ℕ)) (more : Values) → cond (has_top f t) (found_orders sig single qs (orders (args_of t)) (vs ++ more)) [] ≡ []

-- The pattern is a variable that gets the value of position n and has to be one element, and the argument i of p is that
-- variable again.
pub record IsTwice (lists : List (List ℕ)) (p : RawTerm) (i n : ℕ) (q : RawTerm) : Type 0 where
  pub first : Variable
  pub second : Variable
  pub others : RawTerms
  pub is : q ≡ variable first
  pub comes : first.sort ≡ n
  pub single : is_single lists (top_of p) n ≡ true
  pub behind : skip i (args_of p) ≡ cons (variable second) others
  pub again : second.sort ≡ n

-- a pattern by the share's term, and then the share's goal, have no match
abbrev pub IsBarren : Signature → List (List ℕ) → Values → RawTerm → Share → Type 0
IsBarren sig single vs q s = flat_map (λ us. goal_found sig single s.1 us) (found sig single q s.0 vs) ≡ []

-- so it is with the first share
abbrev pub IsPassed : Signature → List (List ℕ) → Values → RawTerm → List Share → Type 0
IsPassed sig single vs q shares = (s : Share) × (ss : List Share) × (shares ≡ s ∷ ss) × IsBarren sig single vs q s
