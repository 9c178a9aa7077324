-- Which signatures have a grammar.
use Rattle.std.specs.Prelude.{ℕ, ◌≡◌, ◌≢◌, ◌≤◌, ◌<◌, List, [], ◌∷◌, length, slice_index_or, Bool, Option, None, Some, IsTrue, codes}
use Rattle.mw_logic.specs.Term.{Variable}
use Rattle.mw_logic.specs.Signature.{Signature, Operator, IsOperator, IsSortNamed, SameKind, Member}
use Rattle.mw_text.specs.Names.{NameItem, hole, items_of}

-- a sort's kind by a list, in which each sort has a place
abbrev pub kind_in : List ℕ → ℕ → ℕ
kind_in kinds S = slice_index_or kinds S S

-- the number is that of a sort, or 0
abbrev pub IsWithin : Signature → ℕ → Type 0
IsWithin sig S = S ≤ length sig.sorts

-- `kind` gives each kind one of its numbers
pub record AreKinds (sig : Signature) (kind : ℕ → ℕ) : Type 0 where
  pub same : (S : ℕ) → SameKind sig S (kind S)
  pub agree : (S T : ℕ) → SameKind sig S T → kind S ≡ kind T
  pub within : (S : ℕ) → IsWithin sig S → IsWithin sig (kind S)

-- A name is a piece at least, or more than a hole.
abbrev pub IsName : List NameItem → Type 0
IsName items = (items ≢ []) × (items ≢ hole ∷ [])

abbrev pub AreNames : Signature → Type 0
AreNames sig = (f : ℕ) (o : Operator) → IsOperator sig f o → IsName (items_of o.spelling)

-- one sort has this name
abbrev pub HasOne : Signature → List ℕ → Type 0
HasOne sig name = (S : ℕ) × IsSortNamed sig S name × ((T : ℕ) → IsSortNamed sig T name → T ≡ S)

-- Operators have names, sorts that are declared, and precedences up to 127; associative ones have two arguments of their result's kind. Numerals and quoted
-- identifiers have a sort, where there are any.
pub record IsReadable (sig : Signature) : Type 0 where
  pub names : AreNames sig
  pub args : (f : ℕ) (o : Operator) (K : ℕ) → IsOperator sig f o → Member K o.args → IsWithin sig K
  pub results : (f : ℕ) (o : Operator) → IsOperator sig f o → IsWithin sig o.result
  pub precedences : (f : ℕ) (o : Operator) → IsOperator sig f o → o.prec < 128
  pub assoc : (f : ℕ) (o : Operator) → IsOperator sig f o → IsTrue o.assoc → (K : ℕ) × (L : ℕ) × (o.args ≡ K ∷ L ∷ []) × SameKind sig K o.result × SameKind sig L o.result
  pub numbers : IsTrue sig.nat → HasOne sig (codes "Nat")
  pub identifiers : IsTrue sig.qid → HasOne sig (codes "Qid")

-- The number of the kind of a sort with this name, where terms are to have one and there is such a sort.
abbrev pub IsKindNamed : (ℕ → Type 0) → (ℕ → ℕ) → Bool → Option ℕ → Type 0
IsKindNamed Named kind wanted None = IsTrue wanted → (S : ℕ) → Named S → ⊥
IsKindNamed Named kind wanted (Some K) = IsTrue wanted × (S : ℕ) × Named S × (K ≡ kind S)

-- variables have sorts that are declared
abbrev pub AreVariables : Signature → List Variable → Type 0
AreVariables sig variables = (x : Variable) → Member x variables → IsWithin sig x.sort
