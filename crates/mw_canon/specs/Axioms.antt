-- The axioms of an operator, one of four kinds.
use Rattle.std.specs.Prelude.{ℕ, ◌≡◌, List, false, true, Option, Some, None, option_map, unwrap_or, IsTrue, codes}
use Rattle.mw_logic.specs.Signature.{Signature, at_number, IsSortNamed}
use Rattle.mw_logic.specs.Parts.{is_assoc}
use Rattle.mw_logic.specs.Kinds.{is_successor}
use Rattle.mw_logic.specs.NormalForm.{is_comm, identity_of}
use Rattle.mw_poset.specs.Order.{IsKindOf}
use Rattle.mw_term.specs.Signatures.{identity_of as identity_named}
use Rattle.mw_canon.specs.declared.axioms.Axioms.{Axioms}
use Rattle.mw_canon.specs.declared.axioms.Axioms.TheVariants.{Plain, Commutative, Successor, Associative}

-- f has these axioms in the signature
abbrev pub HasAxioms : Signature → ℕ → Axioms → Type 0
HasAxioms sig f Plain = (is_assoc sig f ≡ false) × (is_comm sig f ≡ false) × (is_successor sig f ≡ false)
HasAxioms sig f Commutative = (is_assoc sig f ≡ false) × (is_comm sig f ≡ true) × (is_successor sig f ≡ false)
HasAxioms sig f Successor = (is_assoc sig f ≡ false) × (is_comm sig f ≡ false) × (is_successor sig f ≡ true)
HasAxioms sig f (Associative c e) = (is_assoc sig f ≡ true) × (is_comm sig f ≡ c) × (identity_of sig f ≡ option_map identity_named e)

-- f has the axioms of its row, or none where there is no row
abbrev pub HasRow : Signature → List Axioms → ℕ → Type 0
HasRow sig rows f = HasAxioms sig f (unwrap_or (at_number rows f) Plain)

-- each operator has the axioms of its row, and what is no operator has none
abbrev pub AreRowsOf : Signature → List Axioms → Type 0
AreRowsOf sig rows = (f : ℕ) → HasRow sig rows f

-- the kind of the sort of this name, or none where no sort has it
abbrev pub IsKindNamed : Signature → List ℕ → Option ℕ → Type 0
IsKindNamed sig name None = (S : ℕ) → IsSortNamed sig S name → ⊥
IsKindNamed sig name (Some K) = (S : ℕ) × IsSortNamed sig S name × IsKindOf sig.pairs S K

-- the kind of numbers, or none where the signature has no numbers
abbrev pub IsKindOfNumbers : Signature → Option ℕ → Type 0
IsKindOfNumbers sig None = IsTrue sig.nat → (S : ℕ) → IsSortNamed sig S (codes "Nat") → ⊥
IsKindOfNumbers sig (Some K) = IsTrue sig.nat × (S : ℕ) × IsSortNamed sig S (codes "Nat") × IsKindOf sig.pairs S K
