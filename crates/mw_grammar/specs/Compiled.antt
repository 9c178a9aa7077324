-- A table of states that has certain notations.
use Rattle.std.specs.Prelude.{ℕ, ◌≡◌, ◌<◌, ◌≤◌, ◌⊎◌, List, [], ◌∷◌, ◌++◌, codes, Some}
use Rattle.std.specs.List.{slice_get}
use Rattle.mw_chart.specs.Spelling.{AreCornersOf}
use Rattle.mw_chart.specs.declared.table.Next.{Next}
use Rattle.mw_chart.specs.declared.table.Next.TheVariants.{Token, Hole, Whole}
use Rattle.mw_chart.specs.declared.table.Production.{Production}
use Rattle.mw_chart.specs.declared.table.Table.{Table}
use Rattle.mw_grammar.specs.declared.parts.Symbol.{Symbol}
use Rattle.mw_grammar.specs.declared.parts.Symbol.TheVariants as part
use Rattle.mw_grammar.specs.Notations.{Notation}
use Rattle.mw_grammar.specs.declared.compile.Making.{Making}
use Rattle.mw_text.specs.Interned.{number_of}

-- the name is there, and x is its number
abbrev pub IsNumber : List (List ℕ) → ℕ → List ℕ → Type 0
IsNumber names x name = (number_of names name ≡ x) × (0 < x)

-- from a state, the parts lead to another one, where tokens are numbered by names
pub data Leads (steps : List Next) (names : List (List ℕ)) : ℕ → List Symbol → ℕ → Type 0 where
  there : (s : ℕ) → Leads steps names s [] s
  past_piece : (s x next last : ℕ) (name : List ℕ) (parts : List Symbol) → slice_get steps s ≡ Some (Token x next) → IsNumber names x name → Leads steps names next parts last
      → Leads steps names s (part.Piece name ∷ parts) last
  past_hole : (s kind below next last : ℕ) (parts : List Symbol) → slice_get steps s ≡ Some (Hole kind below next) → Leads steps names next parts last
      → Leads steps names s (part.Hole kind below ∷ parts) last

-- the start is that of the notation: its parts lead from there to a whole state of its kind and precedence
pub record IsProductionOf (steps : List Next) (names : List (List ℕ)) (start : Production) (F : Notation) : Type 0 where
  pub operator : start.operator ≡ F.operator
  pub last : ℕ
  pub leads : Leads steps names start.state F.parts last
  pub whole : slice_get steps last ≡ Some (Whole F.kind F.precedence)

-- the list goes on
abbrev pub Extends : {X : Type 0} → List X → List X → Type 0
Extends {X} xs ys = (zs : List X) × (ys ≡ xs ++ zs)

-- each sort has its own number as its state
pub record AreGroups (sorts : ℕ) (groups : List ℕ) : Type 0 where
  pub there : (K : ℕ) → K ≤ sorts → slice_get groups K ≡ Some K
  pub only : (K s : ℕ) → slice_get groups K ≡ Some s → (K ≤ sorts) × (s ≡ K)

-- From old to new, productions of the fresh notations were added, and no others.
pub record AddsNotations (old new : Making) (ns ms : List (List ℕ)) (Fresh : Notation → Type 0) : Type 0 where
  pub steps : Extends old.steps.items new.steps.items
  pub names : Extends ns ms
  pub productions : Extends old.productions.items new.productions.items
  pub sound : (n : ℕ) (s : Production) → slice_get new.productions.items n ≡ Some s → (slice_get old.productions.items n ≡ Some s) ⊎ ((F : Notation) × Fresh F × IsProductionOf new.steps.items ms s F)
  pub complete : (F : Notation) → Fresh F → (n : ℕ) × (s : Production) × (slice_get new.productions.items n ≡ Some s) × IsProductionOf new.steps.items ms s F

-- The table has exactly these notations, of kinds of which those up to the number of sorts are kinds of terms, with texts in parentheses. The state of texts
-- in parentheses has the kind's number.
pub record IsCompiled (sorts : ℕ) (Notations : Notation → Type 0) (names : List (List ℕ)) (g : Table) : Type 0 where
  pub sound : (n : ℕ) (s : Production) → slice_get g.productions.items n ≡ Some s → (F : Notation) × Notations F × IsProductionOf g.steps.items names s F
  pub complete : (F : Notation) → Notations F → (n : ℕ) × (s : Production) × (slice_get g.productions.items n ≡ Some s) × IsProductionOf g.steps.items names s F
  pub kinds : (K : ℕ) → K ≤ sorts → slice_get g.steps.items K ≡ Some (Whole K 0)
  pub groups : AreGroups sorts g.groups.items
  pub opens : IsNumber names g.open (codes "(")
  pub closes : IsNumber names g.close (codes ")")
  pub of_terms : g.kinds ≡ sorts
  pub indexed : AreCornersOf g.steps.items g.productions.items g.corners
