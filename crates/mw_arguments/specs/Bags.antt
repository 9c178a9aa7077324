-- Multisets of terms as lists in order: runs of equal terms, and the pieces that a cut of the runs' lengths gives.
use Rattle.std.specs.Prelude.{◌≡◌, ℕ, zero, suc, List, [], ◌∷◌, map, take, drop, length, Bool, true, cond, ⊤}
use Rattle.std.specs.Ordering.{is_eq}
use Rattle.mw_logic.specs.Term.{RawTerm, RawTerms, nil, cons}
use Rattle.mw_logic.specs.TermOrder.{compare_terms, stands_after}

-- whether terms are equal, by their order
abbrev pub same : RawTerm → RawTerm → Bool
same t u = is_eq (compare_terms t u)

-- equal neighbours together, with their number
abbrev pub with_one : RawTerm → List (RawTerm × ℕ) → List (RawTerm × ℕ)
with_one t [] = (t, 1) ∷ []
with_one t (r ∷ rs) = cond (same t r.0) ((r.0, suc r.1) ∷ rs) ((t, 1) ∷ r ∷ rs)

abbrev pub runs : RawTerms → List (RawTerm × ℕ)
runs nil = []
runs (cons t ts) = with_one t (runs ts)

abbrev pub heads : List (RawTerm × ℕ) → List RawTerm
heads rs = map (λ r. r.0) rs

abbrev pub numbers : List (RawTerm × ℕ) → List ℕ
numbers rs = map (λ r. r.1) rs

-- n times d, and then the others
abbrev pub copies : ℕ → RawTerm → RawTerms → RawTerms
copies zero d us = us
copies (suc n) d us = cons d (copies n d us)

-- each of the terms as often as its number says
abbrev pub spread : List RawTerm → List ℕ → RawTerms
spread [] ns = nil
spread (d ∷ ds) [] = nil
spread (d ∷ ds) (n ∷ ns) = copies n d (spread ds ns)

-- each stands after d
abbrev pub AreAfter : RawTerm → List RawTerm → Type 0
AreAfter d [] = ⊤
AreAfter d (u ∷ us) = (stands_after u d ≡ true) × AreAfter d us

-- each stands after those before it
abbrev pub Rises : List RawTerm → Type 0
Rises [] = ⊤
Rises (d ∷ ds) = AreAfter d ds × Rises ds

-- k rows of m numbers
abbrev pub rows : ℕ → ℕ → List ℕ → List (List ℕ)
rows zero m c = []
rows (suc k) m c = take m c ∷ rows k m (drop m c)

-- the pieces that a row of numbers for each piece gives
abbrev pub bag_pieces : List RawTerm → ℕ → List ℕ → List RawTerms
bag_pieces ds k c = map (spread ds) (rows k (length ds) c)
