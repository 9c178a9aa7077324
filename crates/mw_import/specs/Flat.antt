-- Flattening: the modules that imports reach, each once, in order. (Maude Manual, chapter 6, "Module importation"; that imports come first, depth first in the
-- order of their lines, and that the first accepted module is imported by each later one, is this project's own.)
use Rattle.std.specs.Prelude.{◌≡◌, ◌≢◌, ◌<◌, ℕ, Bool, false, ◌||◌, List, [], ◌∷◌, ◌++◌, map, flat_map, position, bytes_eq, nat_eq, slice_get, Option, Some, None, if◌then◌else◌}
use Rattle.mw_logic.specs.Signature.{Member}
use Rattle.mw_module.specs.declared.faults.Fault.{Fault}
use Rattle.mw_module.specs.declared.faults.FaultKind.TheVariants.{UnknownModule, CircularImport}
use Rattle.mw_module.specs.Forms.{Shape, Sorts, Subsorts, Operators, Variables, Statement, Import, Class}
use Rattle.mw_module.specs.Units.{SeenLined}

-- An accepted unit: its module's name, its statements, and which units it reaches by imports, by their numbers from 0, in flattened order and without
-- itself.
pub record FlatUnit : Type 0 where
  pub name : List ℕ
  pub statements : List SeenLined
  pub reached : List ℕ

-- an import statement: the line of its first token, and the module's name
pub record ImportOf : Type 0 where
  pub line : ℕ
  pub name : List ℕ

abbrev pub imports_in : ℕ → Shape → List ImportOf
imports_in line (Sorts names) = []
imports_in line (Subsorts groups) = []
imports_in line (Operators names args result said) = []
imports_in line (Variables names sort) = []
imports_in line (Statement rule left right fragments executable) = []
imports_in line (Import m) = record { line = line; name = m } ∷ []
imports_in line (Class c as_) = []

-- the import statements, in order
abbrev pub imports_of : List SeenLined → List ImportOf
imports_of [] = []
imports_of (s ∷ ss) = imports_in s.line s.shape ++ imports_of ss

-- the number, from 0, of the unit with this name
abbrev pub number_named : List FlatUnit → List ℕ → Option ℕ
number_named us n = position (λ (u : FlatUnit). bytes_eq n u.name) us

abbrev pub reached_by : Option FlatUnit → List ℕ
reached_by None = []
reached_by (Some u) = u.reached

-- what the import of a unit brings: the units that it reaches, then the unit itself
abbrev pub brought_by : List FlatUnit → ℕ → List ℕ
brought_by us k = reached_by (slice_get us k) ++ k ∷ []

-- the number stands in the list
abbrev pub is_among : ℕ → List ℕ → Bool
is_among k [] = false
is_among k (j ∷ js) = nat_eq k j || is_among k js

-- those that aren't among `seen`, each where it first stands
abbrev pub firsts_behind : List ℕ → List ℕ → List ℕ
firsts_behind seen [] = []
firsts_behind seen (k ∷ ks) = if is_among k seen then firsts_behind seen ks else k ∷ firsts_behind (k ∷ seen) ks

-- each where it first stands
abbrev pub firsts : List ℕ → List ℕ
firsts ks = firsts_behind [] ks

-- the unit that each module imports before all others: the first one, where there is one
abbrev pub first_unit : List FlatUnit → List ℕ
first_unit [] = []
first_unit (u ∷ us) = 0 ∷ []

-- Statements with imports of accepted modules alone reach these units: what the first unit brings, and then what their imports bring, one import after the
-- other, each unit where it first stands.
pub record IsFlat (us : List FlatUnit) (ss : List SeenLined) (reached : List ℕ) : Type 0 where
  pub numbers : List ℕ
  pub named : map (λ (i : ImportOf). number_named us i.name) (imports_of ss) ≡ map Some numbers
  pub flat : reached ≡ firsts (flat_map (brought_by us) (first_unit us ++ numbers))

-- the import is of an accepted module, and not of the module in which it stands
pub record IsThere (us : List FlatUnit) (own : List ℕ) (i : ImportOf) : Type 0 where
  pub other : i.name ≢ own
  pub number : ℕ
  pub named : number_named us i.name ≡ Some number

-- The import statement is at fault: the module imports itself, or else there is no accepted module of that name. No accepted module leads to a module that
-- isn't accepted yet, so no longer way leads round.
pub data IsWrong (us : List FlatUnit) (own : List ℕ) (i : ImportOf) : Fault → Type 0 where
  circular : i.name ≡ own → IsWrong us own i (record { line = i.line; kind = CircularImport i.name })
  unknown : i.name ≢ own → number_named us i.name ≡ None → IsWrong us own i (record { line = i.line; kind = UnknownModule i.name })

-- the fault of the first import that has one, in the module of this name
pub record ImportFault (us : List FlatUnit) (own : List ℕ) (ss : List SeenLined) (fault : Fault) : Type 0 where
  pub place : ℕ
  pub wrong : ImportOf
  pub is_there : slice_get (imports_of ss) place ≡ Some wrong
  pub is : IsWrong us own wrong fault
  pub before : (i : ℕ) (e : ImportOf) → i < place → slice_get (imports_of ss) i ≡ Some e → IsThere us own e

-- the unit is among these
abbrev pub is_unit_among : List ℕ → Option ℕ → Bool
is_unit_among reached None = false
is_unit_among reached (Some k) = is_among k reached

-- the module of the first name, which reaches these units, has a module of the second name: itself, or one of them
abbrev pub is_reached : List FlatUnit → List ℕ → List ℕ → List ℕ → Bool
is_reached us reached own name = bytes_eq own name || is_unit_among reached (number_named us name)

abbrev pub statements_at : Option FlatUnit → List SeenLined
statements_at None = []
statements_at (Some u) = u.statements

-- the statements of these units, in order
abbrev pub statements_of : List FlatUnit → List ℕ → List SeenLined
statements_of us ks = flat_map (λ (k : ℕ). statements_at (slice_get us k)) ks

-- a statement whose faults are told at this line
abbrev pub told_at : ℕ → SeenLined → SeenLined
told_at line s = record { line = line; shape = s.shape }

-- The statements of a flattened module: those of the units that it reaches, whose faults are told at its first line, and then its own.
abbrev pub all_statements : List FlatUnit → ℕ → List ℕ → List SeenLined → List SeenLined
all_statements us line reached own = map (told_at line) (statements_of us reached) ++ own

-- What holds of accepted units: each reaches units before it alone, and with one all that this one brings; and no two have one name.
pub record AreAccepted (us : List FlatUnit) : Type 0 where
  pub before : (k : ℕ) (u : FlatUnit) → slice_get us k ≡ Some u → (j : ℕ) → Member j u.reached → j < k
  pub closed : (k : ℕ) (u : FlatUnit) → slice_get us k ≡ Some u → (j : ℕ) → Member j u.reached → (i : ℕ) → Member i (brought_by us j) → Member i u.reached
  pub apart : (j k : ℕ) (u v : FlatUnit) → slice_get us j ≡ Some u → slice_get us k ≡ Some v → u.name ≡ v.name → j ≡ k
