-- Lists at their ends: the last of a list, and what stands in front of it.
use Rattle.std.proofs.Common.{◌≡◌, ◌∙◌, ℕ, zero, suc, ◌+◌, ◌-◌, ◌<◌, ◌≤◌, List, [], ◌∷◌, ◌++◌, length, get_or, take, set, ap, sym, refl, arith, inl, inr}
use Rattle.std.specs.Prelude.{◌⊎◌, Some, None, slice_get}

pub set_at : {X : Type 0} (xs : List X) (n : ℕ) (x : X) → n + 1 ≡ length xs → set xs n x ≡ take n xs ++ x ∷ []
set_at [] n x h = absurd (omega (arith, h))
set_at (y ∷ []) zero x h = refl
set_at (y ∷ z ∷ xs) zero x h = absurd (omega (arith, h))
set_at (y ∷ xs) (suc n) x h = ap (λ zs. y ∷ zs) (set_at xs n x (omega (arith, h)))

pub set_under : {X : Type 0} (xs : List X) (n : ℕ) (x y : X) → n + 1 ≡ length xs → set (xs ++ y ∷ []) n x ≡ (take n xs ++ x ∷ []) ++ y ∷ []
set_under [] n x y h = absurd (omega (arith, h))
set_under (z ∷ []) zero x y h = refl
set_under (w ∷ z ∷ xs) zero x y h = absurd (omega (arith, h))
set_under (z ∷ xs) (suc n) x y h = ap (λ zs. z ∷ zs) (set_under xs n x y (omega (arith, h)))

pub set_last : {X : Type 0} (xs : List X) (x : X) → 0 < length xs → set xs (length xs - 1) x ≡ take (length xs - 1) xs ++ x ∷ []
set_last xs x h = set_at xs (length xs - 1) x (omega arith)

pub set_below : {X : Type 0} (xs : List X) (x y : X) → 0 < length xs → set (xs ++ y ∷ []) (length xs - 1) x ≡ (take (length xs - 1) xs ++ x ∷ []) ++ y ∷ []
set_below xs x y h = set_under xs (length xs - 1) x y (omega arith)

pub set_end : {X : Type 0} (xs : List X) (x y : X) → set (xs ++ y ∷ []) (length xs) x ≡ xs ++ x ∷ []
set_end [] x y = refl
set_end (z ∷ xs) x y = ap (λ zs. z ∷ zs) (set_end xs x y)

pub take_less : {X : Type 0} (b n : ℕ) (xs ys : List X) → b ≤ n → take n xs ≡ take n ys → take b xs ≡ take b ys
take_less zero n xs ys h e = refl
take_less (suc b) zero xs ys h e = absurd (omega (arith, h))
take_less (suc b) (suc n) [] [] h e = refl
take_less (suc b) (suc n) [] (y ∷ ys) h e = cc
take_less (suc b) (suc n) (x ∷ xs) [] h e = cc
take_less (suc b) (suc n) (x ∷ xs) (y ∷ ys) h e =
    let i : x ≡ y = cc in
    let j : take n xs ≡ take n ys = cc in
    ap (λ zs. x ∷ zs) (take_less b n xs ys (omega (arith, h)) j) ∙ ap (λ z. z ∷ take b ys) i

pub take_twice : {X : Type 0} (n : ℕ) (xs : List X) → take n (take n xs) ≡ take n xs
take_twice zero xs = refl
take_twice (suc n) [] = refl
take_twice (suc n) (x ∷ xs) = ap (λ zs. x ∷ zs) (take_twice n xs)

-- by index
pub got_taken : {X : Type 0} (n i : ℕ) (xs : List X) (x : X) → slice_get (take n xs) i ≡ Some x → slice_get xs i ≡ Some x
got_taken zero i xs x e = cc
got_taken (suc n) i [] x e = e
got_taken (suc n) zero (y ∷ xs) x e = e
got_taken (suc n) (suc i) (y ∷ xs) x e = got_taken n i xs x e

pub got_pushed : {X : Type 0} (xs : List X) (y : X) (i : ℕ) (x : X) → slice_get (xs ++ y ∷ []) i ≡ Some x → (slice_get xs i ≡ Some x) ⊎ ((i ≡ length xs) × (y ≡ x))
got_pushed [] y zero x e = let same : y ≡ x = cc in inr (refl, same)
got_pushed [] y (suc i) x e = cc
got_pushed (z ∷ xs) y zero x e = inl e
got_pushed (z ∷ xs) y (suc i) x e = under (got_pushed xs y i x e)
  where
    under : (slice_get xs i ≡ Some x) ⊎ ((i ≡ length xs) × (y ≡ x)) → (slice_get xs i ≡ Some x) ⊎ ((suc i ≡ suc (length xs)) × (y ≡ x))
    under (inl h) = inl h
    under (inr (h, k)) = inr (ap suc h, k)

pub got_before : {X : Type 0} (xs ys : List X) (i : ℕ) (x : X) → i < length xs → x ≡ get_or xs i x → slice_get (xs ++ ys) i ≡ Some x
got_before [] ys i x h e = absurd (omega (arith, h))
got_before (z ∷ xs) ys zero x h e = ap Some (sym e)
got_before (z ∷ xs) ys (suc i) x h e = got_before xs ys i x (omega (arith, h)) e

pub got_end : {X : Type 0} (xs : List X) (y : X) → slice_get (xs ++ y ∷ []) (length xs) ≡ Some y
got_end [] y = refl
got_end (x ∷ xs) y = got_end xs y

pub got_past : {X : Type 0} (xs : List X) → slice_get xs (length xs) ≡ None
got_past [] = refl
got_past (x ∷ xs) = got_past xs

pub got_last : {X : Type 0} (xs : List X) (y : X) (ys : List X) → slice_get ((xs ++ y ∷ []) ++ ys) (length xs) ≡ Some y
got_last [] y ys = refl
got_last (x ∷ xs) y ys = got_last xs y ys
