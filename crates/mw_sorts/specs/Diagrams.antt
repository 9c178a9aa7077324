-- Decision diagrams over an operator's arguments: for each argument a level, a list of rows. A row says for each sort of the argument's kind, and for
-- the kind itself, which row of the next level comes next. Behind the last level stand the results.
use Rattle.std.specs.Prelude.{ℕ, ◌≡◌, List, [], ◌∷◌, length, slice_get, Some, codes, IsTrue}
use Rattle.mw_logic.specs.Signature.{Signature, Sorted, Operator, IsOperator, IsSortNamed, SameKind, at_number}
use Rattle.mw_logic.specs.Accepted.{number_of_sort}
use Rattle.mw_term.specs.Signatures.{sorted_of}
use Rattle.mw_term.specs.declared.signature.Sorted.{Sorted as SortedHeld}
use Rattle.mw_sorts.specs.declared.diagram.Diagram.{Diagram}
use Rattle.mw_sorts.specs.declared.tables.Tables.{Tables}
use Rattle.mw_sorts.specs.Entries.{place_in}
use Rattle.mw_sorts.specs.Numbers.{HaveNumbers}
use Rattle.mw_sorting.specs.ComputedSorts.{IsResultOn}

abbrev pub Row : Type 0
Row = List ℕ

abbrev pub Level : Type 0
Level = List Row

-- From row q of the first level, whatever sorts of these kinds come, a walk ends at a number that P holds of, with those sorts.
abbrev pub LeadsTo : Signature → List ℕ → List Level → ℕ → List ℕ → (List Sorted → ℕ → Type 0) → Type 0
LeadsTo sig places [] q [] P = P [] q
LeadsTo sig places [] q (K ∷ Ks) P = ⊥
LeadsTo sig places (l ∷ ls) q [] P = ⊥
LeadsTo sig places (l ∷ ls) q (K ∷ Ks) P =
    (row : Row) × (slice_get l q ≡ Some row)
    × ((S : Sorted) → SameKind sig (number_of_sort S) K → (next : ℕ) × (slice_get row (place_in places (length row) S) ≡ Some next) × LeadsTo sig places ls next Ks (λ Ss r. P (S ∷ Ss) r))

-- what stands at number q is the result on these sorts
abbrev pub EndsIn : Signature → Operator → List SortedHeld → List Sorted → ℕ → Type 0
EndsIn sig o ends Ss q = (R : SortedHeld) × (slice_get ends q ≡ Some R) × IsResultOn sig o Ss (sorted_of R)

-- walks through the diagram end in o's results
pub record IsDiagram (sig : Signature) (places : List ℕ) (o : Operator) (d : Diagram) : Type 0 where
  pub leads : LeadsTo sig places d.levels 0 o.args (EndsIn sig o d.ends)
  pub assoc : d.assoc ≡ o.assoc

-- each operator has its diagram
abbrev pub HaveDiagrams : Signature → List ℕ → List Diagram → Type 0
HaveDiagrams sig places diagrams = (f : ℕ) (o : Operator) → IsOperator sig f o → (d : Diagram) × (at_number diagrams f ≡ Some d) × IsDiagram sig places o d

-- Each sort has a place, each operator its diagram; with numbers there is a table of their sorts, and with quoted identifiers the sort of these.
pub record AreTablesOf (sig : Signature) (tables : Tables) : Type 0 where
  pub places : length tables.places ≡ length sig.sorts
  pub diagrams : HaveDiagrams sig tables.places tables.diagrams
  pub numbers : HaveNumbers sig tables.numbers
  pub quoted : IsTrue sig.qid → (S : ℕ) × (tables.quoted ≡ Some S) × IsSortNamed sig S (codes "Qid")
