-- What subsort pairs say: cycles, kinds and maximal sorts.
use Rattle.std.specs.Prelude.{ℕ, ◌≡◌, ◌≤◌, List, All}
use Rattle.mw_logic.specs.Signature.{Signature, Member, SameKind}
use Rattle.mw_logic.specs.Sorts.{AtOrBelow}

-- S is the number of one of so many sorts
abbrev pub IsSort : ℕ → ℕ → Type 0
IsSort sorts S = (1 ≤ S) × (S ≤ sorts)

-- each pair is of two of so many sorts
abbrev pub ArePairsOf : ℕ → List (ℕ × ℕ) → Type 0
ArePairsOf sorts pairs = All (λ p. IsSort sorts p.0 × IsSort sorts p.1) pairs

-- a chain of at least one pair leads from S back to S
pub record IsOnCycle (pairs : List (ℕ × ℕ)) (S : ℕ) : Type 0 where
  pub next : ℕ
  pub pair : Member (S, next) pairs
  pub back : AtOrBelow pairs next S

-- no sort on a cycle is below S in number, and S is on one
pub record IsLeastOnCycle (pairs : List (ℕ × ℕ)) (S : ℕ) : Type 0 where
  pub on : IsOnCycle pairs S
  pub least : (T : ℕ) → IsOnCycle pairs T → S ≤ T

-- K is the least sort of S's kind, in each signature that has these pairs
pub record IsKindOf (pairs : List (ℕ × ℕ)) (S K : ℕ) : Type 0 where
  pub same : (sig : Signature) → sig.pairs ≡ pairs → SameKind sig S K
  pub least : (sig : Signature) → sig.pairs ≡ pairs → (T : ℕ) → SameKind sig S T → K ≤ T

-- T is of K's kind, and no other sort is above it
pub record IsMaximalIn (pairs : List (ℕ × ℕ)) (K T : ℕ) : Type 0 where
  pub same : (sig : Signature) → sig.pairs ≡ pairs → SameKind sig K T
  pub none_above : (U : ℕ) → AtOrBelow pairs T U → U ≡ T
