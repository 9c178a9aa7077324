-- What stands at an index of a list.
use Rattle.std.proofs.Common.{◌≡◌, ◌≢◌, ◌∙◌, ◌<◌, ◌⊎◌, ℕ, zero, suc, List, [], ◌∷◌, ◌++◌, length, get_or, Some, refl, sym, ap, inl, inr, arith}
use Rattle.std.specs.List.{slice_get}
use Rattle.std.proofs.Math.ListN.{set}

pub get_is : {X : Type 0} → (xs : List X) (k : ℕ) (d : X) → k < length xs → slice_get xs k ≡ Some (get_or xs k d)
get_is [] k d h = absurd (omega arith)
get_is (x ∷ xs) zero d h = refl
get_is (x ∷ xs) (suc k) d h = get_is xs k d (omega arith)

-- the same, as code reads an element
pub get_item : {X : Type 0} → (xs : List X) (k : ℕ) (x : X) → k < length xs → x ≡ get_or xs k x → slice_get xs k ≡ Some x
get_item xs k x h e = get_is xs k x h ∙ ap (λ y. Some y) (sym e)

pub get_below : {X : Type 0} → (xs : List X) (k : ℕ) (x : X) → slice_get xs k ≡ Some x → k < length xs
get_below [] k x e = let bad : ⊥ = (cc) in absurd bad
get_below (y ∷ xs) zero x e = omega arith
get_below (y ∷ xs) (suc k) x e = let h = get_below xs k x e in omega arith

pub get_same : {X : Type 0} → (xs : List X) (k : ℕ) (x d : X) → slice_get xs k ≡ Some x → get_or xs k d ≡ x
get_same [] k x d e = let bad : ⊥ = (cc) in absurd bad
get_same (y ∷ xs) zero x d e = cc
get_same (y ∷ xs) (suc k) x d e = get_same xs k x d e

pub one_there : {X : Type 0} → (xs : List X) (k : ℕ) (x y : X) → slice_get xs k ≡ Some x → slice_get xs k ≡ Some y → x ≡ y
one_there xs k x y a b = cc

pub get_set_same : {X : Type 0} → (xs : List X) (k : ℕ) (x : X) → k < length xs → slice_get (set xs k x) k ≡ Some x
get_set_same [] k x h = absurd (omega arith)
get_set_same (y ∷ xs) zero x h = refl
get_set_same (y ∷ xs) (suc k) x h = get_set_same xs k x (omega arith)

pub get_set_other : {X : Type 0} → (xs : List X) (j k : ℕ) (x : X) → j ≢ k → slice_get (set xs k x) j ≡ slice_get xs j
get_set_other [] j k x h = refl
get_set_other (y ∷ xs) zero zero x h = absurd (h refl)
get_set_other (y ∷ xs) zero (suc k) x h = refl
get_set_other (y ∷ xs) (suc j) zero x h = refl
get_set_other (y ∷ xs) (suc j) (suc k) x h = get_set_other xs j k x (λ e. h (ap suc e))

pub get_left : {X : Type 0} → (xs ys : List X) (k : ℕ) (x : X) → slice_get xs k ≡ Some x → slice_get (xs ++ ys) k ≡ Some x
get_left [] ys k x e = let bad : ⊥ = (cc) in absurd bad
get_left (y ∷ xs) ys zero x e = e
get_left (y ∷ xs) ys (suc k) x e = get_left xs ys k x e

pub get_last : {X : Type 0} → (xs : List X) (y : X) → slice_get (xs ++ y ∷ []) (length xs) ≡ Some y
get_last [] y = refl
get_last (x ∷ xs) y = get_last xs y

pub get_back : {X : Type 0} → (xs : List X) (y : X) (k : ℕ) (x : X) → slice_get (xs ++ y ∷ []) k ≡ Some x → (slice_get xs k ≡ Some x) ⊎ (y ≡ x)
get_back [] y zero x e = inr (cc)
get_back [] y (suc k) x e = let bad : ⊥ = (cc) in absurd bad
get_back (z ∷ xs) y zero x e = inl e
get_back (z ∷ xs) y (suc k) x e = get_back xs y k x e

pub eq_or : (j k : ℕ) → (j ≡ k) ⊎ (j ≢ k)
eq_or zero zero = inl refl
eq_or zero (suc k) = inr (λ e. omega arith)
eq_or (suc j) zero = inr (λ e. omega arith)
eq_or (suc j) (suc k) = elim (eq_or j k) [ inl e ↦ inl (ap suc e) | inr h ↦ inr (λ e. h (omega arith)) ]

pub get_item_of : {X : Type 0} → (ys xs : List X) (k : ℕ) (x : X) → ys ≡ xs → k < length ys → x ≡ get_or ys k x → slice_get xs k ≡ Some x
get_item_of ys xs k x same h e = rw (← same) (get_item ys k x h e)

pub get_at : {X : Type 0} → (ys xs : List X) (k : ℕ) (d : X) → ys ≡ xs → k < length ys → slice_get xs k ≡ Some (get_or ys k d)
get_at ys xs k d same h = rw (← same) (get_is ys k d h)

pub get_some : {X : Type 0} → (xs : List X) (k : ℕ) → k < length xs → (x : X) × (slice_get xs k ≡ Some x)
get_some [] k h = absurd (omega arith)
get_some (x ∷ xs) zero h = (x, refl)
get_some (x ∷ xs) (suc k) h = get_some xs k (omega arith)
