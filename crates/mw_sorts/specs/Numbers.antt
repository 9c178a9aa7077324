-- The sorts of numerals as a table, and what it is made from: sorts by name, and the successor.
use Rattle.std.specs.Prelude.{ℕ, ◌≡◌, List, [], ◌∷◌, length, slice_index_or, Option, Some, None, codes, IsTrue}
use Rattle.mw_logic.specs.Signature.{Signature, Sorted, Operator, IsSortNamed, IsSuccessor, SameKind}
use Rattle.mw_term.specs.Signatures.{sorted_of}
use Rattle.mw_term.specs.declared.signature.Sorted.{Sorted as SortedHeld}
use Rattle.mw_term.specs.declared.signature.Sorted.TheVariants.{Kind}
use Rattle.mw_sorting.specs.NumberTable.{IsNumberTable}
use Rattle.mw_sorts.specs.declared.numbers.Numbers.{Numbers}

-- the sort at number i of a table
abbrev pub entry_at : List SortedHeld → ℕ → Sorted
entry_at entries i = sorted_of (slice_index_or entries i (Kind 0))

abbrev pub IsTableOfNumbers : Signature → Numbers → Type 0
IsTableOfNumbers sig numbers = IsNumberTable sig (length numbers.entries) numbers.back (entry_at numbers.entries)

-- where numerals are terms, their sorts are there
abbrev pub HaveNumbers : Signature → Option Numbers → Type 0
HaveNumbers sig numbers = IsTrue sig.nat → (table : Numbers) × (numbers ≡ Some table) × IsTableOfNumbers sig table

-- the sort of this name, or none where no sort has it
abbrev pub FindsSort : Signature → List ℕ → Option ℕ → Type 0
FindsSort sig name (Some S) = IsSortNamed sig S name
FindsSort sig name None = (S : ℕ) → IsSortNamed sig S name → ⊥

-- o is spelled as the successor, and its one argument and its result are of Nat's kind
pub record Succeeds (sig : Signature) (Nat : ℕ) (o : Operator) : Type 0 where
  pub spelled : o.spelling ≡ codes "s_"
  pub of_kind : SameKind sig Nat o.result
  pub argument : ℕ
  pub takes_one : o.args ≡ argument ∷ []
  pub of_argument : SameKind sig Nat argument

-- the successor, or none where no operator is one
abbrev pub FindsSuccessor : Signature → Option ℕ → Type 0
FindsSuccessor sig (Some f) = IsSuccessor sig f
FindsSuccessor sig None = (f : ℕ) → IsSuccessor sig f → ⊥
