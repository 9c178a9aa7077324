-- Lists that are related one by one, as far as a loop has come.
use Rattle.std.proofs.Common.{◌≡◌, ℕ, List, [], ◌∷◌, ◌++◌, ◌+◌, ◌<◌, length, get_or, drop, refl, sym, subst, append_assoc, add-one, drop-cons}
use Rattle.std.proofs.lemmas.List.{append-nil}
use Rattle.mw_carry.specs.Profiles.{Pairwise}

module _ (R : ℕ → ℕ → Type 0) (all : List ℕ) where
  -- What is found stands for what is gone over: whatever stands for the rest completes it.
  abbrev pub IsPaired : List ℕ → List ℕ → Type 0
  IsPaired rest found = (more : List ℕ) → Pairwise R rest more → Pairwise R all (found ++ more)

  pub paired_more : (x : ℕ) (rest found new : List ℕ) (y : ℕ) → new ≡ found ++ y ∷ [] → R x y → IsPaired (x ∷ rest) found → IsPaired rest new
  paired_more x rest found new y e r so more h =
      subst (λ ys. Pairwise R all (ys ++ more)) (sym e) (subst (λ ys. Pairwise R all ys) (sym (append_assoc found (y ∷ []) more)) (so (y ∷ more) (r, h)))

  pub paired_all : (rest found : List ℕ) → rest ≡ [] → IsPaired rest found → Pairwise R all found
  paired_all rest found e so = subst (λ ys. Pairwise R all ys) (append-nil found) (subst (λ rest. IsPaired rest found) e so [] tt)

  pub paired_at : (i : ℕ) (found new : List ℕ) (y : ℕ) → i < length all → new ≡ found ++ y ∷ [] → R (get_or all i 0) y → IsPaired (drop i all) found → IsPaired (drop (i + 1) all) new
  paired_at i found new y low e r so = paired_more (get_or all i 0) (drop (i + 1) all) found new y e r (subst (λ rest. IsPaired rest found) front so)
    where
      front : drop i all ≡ get_or all i 0 ∷ drop (i + 1) all
      front = rw (add-one, drop-cons all i 0 low) refl
