-- Sections of long lists, which nodes show of lists that they share.
use Rattle.std.specs.Prelude.{◌≡◌, ◌<◌, ◌≤◌, ◌+◌, ◌-◌, ◌%◌, ◌^◌, ◌++◌, ◌∷◌, [], ℕ, List, drop, length, get_or, ⊤}
use Rattle.mw_term.specs.declared.shared.Shared.{Shared}
use Rattle.mw_term.specs.declared.told.Told.{Told}
use Rattle.mw_term.specs.declared.facts.Facts.{Facts}
use Rattle.mw_term.specs.declared.term.Shape.{Shape}
use Rattle.mw_term.specs.declared.term.Shape.TheVariants.{Nat, Qid, Var, Constant, One, Two, Many, Section}
use Rattle.mw_logic.specs.Term.{RawTerm, RawTerms}
use Rattle.mw_logic.specs.Terms.{terms_of}
use Rattle.mw_logic.specs.NormalForm.{highest}
use Rattle.mw_term.specs.Facts.{facts_of, facts_of_all, facts_joined, facts_kept}
use Rattle.mw_term.specs.Hashes.{hash_of, hash_sum}
use Rattle.mw_term.specs.Shapes.{shaped, shown}
use Rattle.mw_term.specs.Weights.{added_by, heaviest}

-- all of these facts are told by terms, and maybe more
abbrev pub HasAll : RawTerms → Facts → Type 0
HasAll ts a = (us : RawTerms) × (facts_joined a (facts_of_all us) ≡ facts_of_all ts)

-- what the terms of a list tell, where sums count from a base
abbrev pub told_by : ℕ → List RawTerm → Told
told_by b ts = record { sum = (b + hash_sum (terms_of ts)) % 2 ^ 32; facts = facts_of_all (terms_of ts) }

-- what the last terms of a list tell: none of them, one, and so on
abbrev pub AreTold : ℕ → List Told → List RawTerm → Type 0
AreTold b told ts = (length told ≡ length ts + 1) × ((k : ℕ) (d : Told) → k ≤ length ts → get_or told k d ≡ told_by b (drop (length ts - k) ts))

abbrev pub IsTable : List Told → List RawTerm → Type 0
IsTable told ts = (b : ℕ) × AreTold b told ts

abbrev pub IsTold : Shared → Type 0
IsTold s = IsTable s.told.items s.terms.items

-- what they tell where one more term stands behind them; from a place on its facts are missing
abbrev pub AreJoined : ℕ → ℕ → List Told → List RawTerm → RawTerm → Type 0
AreJoined b at told ts t =
    (length told ≡ length ts + 2)
    × ((k : ℕ) (d : Told) → k < at → k ≤ length ts + 1 → get_or told k d ≡ told_by b (drop (length ts + 1 - k) (ts ++ t ∷ [])))
    × ((k : ℕ) (d : Told) → at ≤ k → k ≤ length ts + 1
    → get_or told k d ≡ record { sum = (b + hash_sum (terms_of (drop (length ts + 1 - k) (ts ++ t ∷ [])))) % 2 ^ 32; facts = facts_of_all (terms_of (drop (length ts + 1 - k) ts)) })

-- no term of the list is as heavy as an operator on those between two places
abbrev pub IsLight : Shared → ℕ → ℕ → Type 0
IsLight s from end = heaviest (terms_of s.terms.items) ≤ highest (terms_of (shown s from end)) + added_by (terms_of (shown s from end))

-- the terms between two places tell all that those from the first place on tell
abbrev pub TellsRest : Shared → ℕ → ℕ → Type 0
TellsRest s from end = facts_of_all (terms_of (shown s from end)) ≡ facts_of_all (terms_of (drop from s.terms.items))

-- a node may show the terms between two places
abbrev pub IsSection : Shared → ℕ → ℕ → Type 0
IsSection s from end = IsTold s × (from ≤ end) × (end ≤ length s.terms.items) × IsLight s from end × TellsRest s from end

abbrev pub ShowsSection : Shape → Type 0
ShowsSection (Nat l d n) = ⊤
ShowsSection (Qid l d q) = ⊤
ShowsSection (Var l d x) = ⊤
ShowsSection (Constant l d f) = ⊤
ShowsSection (One l d f t) = ⊤
ShowsSection (Two l d f ts) = ⊤
ShowsSection (Many l d f ts) = ⊤
ShowsSection (Section l d f s from end) = IsSection s.value from end

-- what a node keeps is right
abbrev pub IsKept : ℕ → ℕ → Shape → Type 0
IsKept r h s = (facts_kept r s ≡ facts_of (shaped s)) × (h ≡ hash_of (shaped s)) × ShowsSection s
