-- Variables, each once, in order of first mention.
use Rattle.std.specs.Prelude.{List, [], ◌∷◌, ◌++◌, Bool, Option, Some, None, if◌then◌else◌}
use Rattle.std.specs.List.{list_any}
use Rattle.mw_logic.specs.Term.{Variable}
use Rattle.mw_logic.specs.Substitution.{same_variable}
use Rattle.mw_text.specs.declared.variables.Key.{Key}

abbrev pub seen_key : Key → Variable
seen_key k = record { name = k.name.items; sort = k.sort }

abbrev pub is_met : List Variable → Variable → Bool
is_met xs x = list_any (same_variable x) xs

-- the variables, and this one behind them where it is new
abbrev pub with_variable : List Variable → Variable → List Variable
with_variable xs x = if is_met xs x then xs else xs ++ x ∷ []

-- the first of these variables that isn't among the bound ones
abbrev pub missing_in : List Variable → List Variable → Option Variable
missing_in bound [] = None
missing_in bound (x ∷ xs) = if is_met bound x then missing_in bound xs else Some x
