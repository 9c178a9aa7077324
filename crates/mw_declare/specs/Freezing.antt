-- Which arguments of an operator are frozen: no rule applies in them. (Maude Manual, chapter 5, "Frozen arguments"; that the declarations of an operator add up
-- is this project's own.)
use Rattle.std.specs.Prelude.{ℕ, zero, suc, List, [], ◌∷◌, Bool, ◌&&◌, nat_le, Option, None, Some, is_some, if◌then◌else◌}
use Rattle.std.specs.List.{list_all}
use Rattle.mw_text.specs.Numerals.{number_in}
use Rattle.mw_module.specs.Attributes.{Attributes}
use Rattle.mw_declare.specs.Meaning.{Name}

-- the number of one of so many arguments, counted from 1
abbrev pub within : ℕ → Option ℕ → Option ℕ
within arity None = None
within arity (Some n) = if nat_le 1 n && nat_le n arity then Some n else None

-- the number that a text is, where it is that of one of so many arguments
abbrev pub place_in : ℕ → Name → Option ℕ
place_in arity text = within arity (number_in text)

abbrev pub with_place : Option ℕ → List ℕ → List ℕ
with_place None ns = ns
with_place (Some n) ns = n ∷ ns

-- the arguments, of so many, whose numbers these texts are
abbrev pub places_in : ℕ → List Name → List ℕ
places_in arity [] = []
places_in arity (text ∷ texts) = with_place (place_in arity text) (places_in arity texts)

-- so many numbers, from this one on
abbrev pub counted : ℕ → ℕ → List ℕ
counted zero n = []
counted (suc left) n = n ∷ counted left (suc n)

-- the numbers of the frozen ones of so many arguments: all, where that is said, or else those that are said
abbrev pub frozen_arguments : ℕ → Attributes → List ℕ
frozen_arguments arity a = if a.all_frozen then counted arity 1 else places_in arity a.frozen

-- each number that is said is that of one of so many arguments
abbrev pub are_in_range : ℕ → Attributes → Bool
are_in_range arity a = list_all (λ (text : Name). is_some (place_in arity text)) a.frozen
