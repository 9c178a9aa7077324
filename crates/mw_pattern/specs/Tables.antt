-- A table of positions by name and sort.
use Rattle.std.specs.Prelude.{ℕ, ◌≡◌, List, map, Option, Some, None, Bool, ◌&&◌, cond, bytes_eq, nat_eq}
use denote.Ref.{Bor}
use Rattle.std.specs.HashMap.{HashMap, get}
use Rattle.mw_logic.specs.Term.{Variable}
use Rattle.mw_position.specs.Variables.{is_in, place}

-- a name and a sort
abbrev pub Key : Type 0
Key = Bor (List ℕ) × ℕ

abbrev pub same_key : Key → Key → Bool
same_key x y = bytes_eq x.0.now y.0.now && nat_eq x.1 y.1

abbrev pub variable_of : Key → Variable
variable_of q = record { name = q.0.now; sort = q.1 }

-- what the references lead to
abbrev pub pointed : List (Bor Variable) → List Variable
pointed xs = map (λ x. x.now) xs

-- the variable's position, if it is one of these
abbrev pub position_in : Variable → List Variable → Option ℕ
position_in x xs = cond (is_in x xs) (Some (place x xs)) None

-- each of the variables is found at its position, and no other is found
abbrev pub HasPlaces : {S : Type 0} → List Variable → HashMap Key ℕ S → Type 0
HasPlaces xs m = (q : Key) → get same_key m q ≡ position_in (variable_of q) xs
