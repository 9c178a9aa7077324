-- The sorts that statements declare. (Maude Manual, chapter 3: sorts, operators and variables are declared in any order; what is declared twice is one.)
pub use Rattle.mw_text.specs.Interned.{Name, is_among, with_name, number_of}
use Rattle.std.specs.Prelude.{ℕ, List, [], ◌∷◌, map}
use Rattle.mw_module.specs.Forms.{Shape, Sorts, Subsorts, Operators, Variables, Statement, Import, Class}
use Rattle.mw_module.specs.Units.{SeenLined}

abbrev pub with_names : List Name → List Name → List Name
with_names names [] = names
with_names names (n ∷ ns) = with_names (with_name names n) ns

-- the sorts, with those of a statement
abbrev pub with_sorts : List Name → Shape → List Name
with_sorts sorts (Sorts names) = with_names sorts names
with_sorts sorts (Subsorts groups) = sorts
with_sorts sorts (Operators names args result said) = sorts
with_sorts sorts (Variables names S) = sorts
with_sorts sorts (Statement rule left right fragments executable) = sorts
with_sorts sorts (Import m) = sorts
with_sorts sorts (Class c as_) = sorts

abbrev pub sorts_from : List Name → List SeenLined → List Name
sorts_from sorts [] = sorts
sorts_from sorts (s ∷ rest) = sorts_from (with_sorts sorts s.shape) rest

-- sorts are numbered from 1, in the order in which they are first declared
abbrev pub sorts_of : List SeenLined → List Name
sorts_of statements = sorts_from [] statements

abbrev pub numbers_of : List Name → List Name → List ℕ
numbers_of sorts ns = map (number_of sorts) ns
