-- The sorts of operators' arguments and values.
use Rattle.std.specs.Prelude.{ℕ, Bool, List, [], ◌∷◌, ◌++◌, ◌||◌, map, Option, None, Some}
use Rattle.mw_lex.specs.declared.token.Token.{Token}
use Rattle.mw_module.specs.declared.machine.Part.{Part}
use Rattle.mw_module.specs.declared.sortings.WrittenSort.{WrittenSort as HeldSorting}
use Rattle.mw_module.specs.declared.table.Role.{Role}
use Rattle.mw_module.specs.declared.table.Role.TheVariants as role
use Rattle.mw_module.specs.Reading.{tokens_of, front}

-- a sort as it is written in a declaration: its name, and whether its kind is meant
pub record WrittenSort : Type 0 where
  pub name : List ℕ
  pub kind : Bool

-- a sort as its readers see it
abbrev pub seen_sorting : HeldSorting → WrittenSort
seen_sorting s = record { name = s.name; kind = s.kind }

abbrev pub seen_optional : Option HeldSorting → List WrittenSort
seen_optional None = []
seen_optional (Some s) = seen_sorting s ∷ []

-- sorts as their readers see them
abbrev pub seen_sortings : List HeldSorting → List WrittenSort
seen_sortings = map seen_sorting

abbrev pub sorting_with : Bool → Option Token → List WrittenSort
sorting_with kind None = []
sorting_with kind (Some t) = record { name = t.text; kind = kind } ∷ []

-- the sort that a part of this role is, where `kinds` says that all kinds are meant
abbrev pub sorting_as : Bool → Role → Option Token → List WrittenSort
sorting_as kinds (role.Sort kind) name = sorting_with (kinds || kind) name
sorting_as kinds role.Words name = []
sorting_as kinds role.Silent name = []
sorting_as kinds role.Config name = []
sorting_as kinds role.Precedence name = []
sorting_as kinds role.Gather name = []
sorting_as kinds role.Assoc name = []
sorting_as kinds role.Comm name = []
sorting_as kinds role.Identity name = []
sorting_as kinds role.Frozen name = []
sorting_as kinds role.Nonexec name = []
sorting_as kinds role.Owise name = []

abbrev pub sorting_of : Bool → List Token → Part → List WrittenSort
sorting_of kinds ts p = sorting_as kinds p.role (front (tokens_of ts p))

abbrev pub sortings_of : Bool → List Token → List Part → List WrittenSort
sortings_of kinds ts [] = []
sortings_of kinds ts (p ∷ ps) = sorting_of kinds ts p ++ sortings_of kinds ts ps
