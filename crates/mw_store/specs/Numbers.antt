-- Terms by their numbers in a list, from 0.
use Rattle.std.specs.Prelude.{◌≡◌, ◌<◌, ◌⊎◌, ℕ, List, [], ◌∷◌, ◌++◌, length, slice_index_or, map}
use Rattle.std.specs.List.{All, Contains}
use Rattle.mw_logic.specs.Term.{RawTerm, numeral}

-- nothing stands at two places
abbrev pub IsOnce : {X : Type 0} → List X → Type 0
IsOnce {X} xs = (i j : ℕ) (d : X) → i < length xs → j < length xs
    → slice_index_or xs i d ≡ slice_index_or xs j d → i ≡ j

-- x stands at n, from 0
abbrev pub HasNumber : {X : Type 0} → List X → X → ℕ → Type 0
HasNumber xs x n = (n < length xs) × (slice_index_or xs n x ≡ x)

-- numbers of terms
abbrev pub AreBelow : ℕ → List ℕ → Type 0
AreBelow count ns = All (λ n. n < count) ns

-- the terms that have these numbers
abbrev pub terms_at : List RawTerm → List ℕ → List RawTerm
terms_at ts ns = map (λ n. slice_index_or ts n (numeral 0)) ns

-- what is there keeps its number, and what is new comes behind all others
abbrev pub Numbers : {X : Type 0} → List X → List X → X → ℕ → Type 0
Numbers old new x n = (HasNumber old x n × (new ≡ old))
    ⊎ ((n ≡ length old) × (¬ Contains old x) × (new ≡ old ++ x ∷ []))

-- some terms come behind those that are there
abbrev pub Extends : List RawTerm → List RawTerm → Type 0
Extends old new = (more : List RawTerm) × (new ≡ old ++ more)
