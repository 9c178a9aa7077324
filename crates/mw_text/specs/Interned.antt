-- Names, each once, in order of first mention, numbered from 1.
use Rattle.std.specs.Prelude.{ℕ, suc, List, [], ◌∷◌, ◌++◌, Bool, option_map, unwrap_or, position, bytes_eq, if◌then◌else◌}
use Rattle.std.specs.List.{list_any}

abbrev pub Name : Type 0
Name = List ℕ

abbrev pub is_among : List Name → Name → Bool
is_among names n = list_any (bytes_eq n) names

-- the names, and this one behind them where it is new
abbrev pub with_name : List Name → Name → List Name
with_name names n = if is_among names n then names else names ++ n ∷ []

-- a name's number, or 0
abbrev pub number_of : List Name → Name → ℕ
number_of names n = unwrap_or (option_map suc (position (bytes_eq n) names)) 0
