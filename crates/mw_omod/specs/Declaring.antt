-- What object modules declare. (Maude Manual, chapter 8, "Object-based programming", and chapter 21, "Object-oriented modules"; that a class's constant has its
-- sort, and an attribute's operator the name with a colon, is of Full Maude's translation.)
use Rattle.std.specs.Prelude.{ℕ, Bool, false, List, [], ◌∷◌, ◌++◌, map, Some, bytes_eq, if◌then◌else◌, codes}
use Rattle.mw_module.specs.declared.classes.ClassAttribute.{ClassAttribute}
use Rattle.mw_module.specs.Attributes.{Attributes, no_attributes}
use Rattle.mw_module.specs.Sortings.{WrittenSort}
use Rattle.mw_module.specs.Forms.{Shape, Sorts, Subsorts, Operators, Variables, Statement, Import, Class}
use Rattle.mw_module.specs.Units.{SeenLined, SeenUnit}

-- a sort by its name, and not its kind
abbrev pub sort_named : List ℕ → WrittenSort
sort_named name = record { name = name; kind = false }

-- `sort C`
abbrev pub sort_shape : List ℕ → Shape
sort_shape class = Sorts (class ∷ [])

-- `subsort C < Cid`
abbrev pub below_shape : List ℕ → Shape
below_shape class = Subsorts ((class ∷ []) ∷ (codes "Cid" ∷ []) ∷ [])

-- `op C : -> C [ctor]`
abbrev pub constant_shape : List ℕ → Shape
constant_shape class = Operators ((class ∷ []) ∷ []) [] (sort_named class) no_attributes

-- the name of an attribute's operator: its own, a colon and a hole
abbrev pub attribute_name : List ℕ → List (List ℕ)
attribute_name name = name ∷ codes ":" ∷ codes "_" ∷ []

-- what is said of it: `gather (&)`
abbrev pub any_gather : Attributes
any_gather = record no_attributes { gather = Some (codes "&" ∷ []) }

-- ``op a`:_ : S -> Attribute [ctor gather (&)]``
abbrev pub attribute_shape : ClassAttribute → Shape
attribute_shape a = Operators (attribute_name a.name ∷ []) (sort_named a.sort ∷ []) (sort_named (codes "Attribute")) any_gather

abbrev pub at_line : ℕ → Shape → SeenLined
at_line line shape = record { line = line; shape = shape }

-- what a class with these attributes stands for, at its line
abbrev pub class_forms : ℕ → List ℕ → List ClassAttribute → List SeenLined
class_forms line class as_ = at_line line (sort_shape class) ∷ at_line line (below_shape class) ∷ at_line line (constant_shape class)
    ∷ map (λ (a : ClassAttribute). at_line line (attribute_shape a)) as_

abbrev pub forms_of : ℕ → Shape → List SeenLined
forms_of line (Sorts names) = []
forms_of line (Subsorts groups) = []
forms_of line (Operators names args result said) = []
forms_of line (Variables names sort) = []
forms_of line (Statement rule left right fragments executable) = []
forms_of line (Import m) = []
forms_of line (Class class as_) = class_forms line class as_

-- a statement, and before it, where it is a class, what it stands for
abbrev pub spread_one : SeenLined → List SeenLined
spread_one s = forms_of s.line s.shape ++ s ∷ []

abbrev pub spread : List SeenLined → List SeenLined
spread [] = []
spread (s ∷ ss) = spread_one s ++ spread ss

-- the import of CONFIGURATION, and then the statements, spread
abbrev pub object_statements : ℕ → List SeenLined → List SeenLined
object_statements line ss = at_line line (Import (codes "CONFIGURATION")) ∷ spread ss

-- What the unit declares, in forms that each module may have: that of an object module imports CONFIGURATION before all other modules, but for the one that each
-- module imports, and its classes stand behind what they declare; any other one stays as it is.
abbrev pub declared_unit : SeenUnit → SeenUnit
declared_unit u = record u { statements = if bytes_eq u.word (codes "omod") then object_statements u.line u.statements else u.statements }
