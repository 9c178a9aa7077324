-- What stands at a place of a list, and membership.
use Rattle.std.proofs.Common.{◌≡◌, ◌⊎◌, ◌∙◌, ℕ, zero, suc, ◌<◌, List, [], ◌∷◌, ◌++◌, length, take, drop, map, get_or, refl, ap, sym, subst, inl, inr, arith}
use Rattle.std.specs.Prelude.{slice_get, Some, None}
use Rattle.std.proofs.lemmas.Option.{slice_get_read, slice_get-get_or}
use Rattle.mw_logic.specs.Signature.{Member}

pub some_same : {X : Type 0} {x y : X} → Some x ≡ Some y → x ≡ y
some_same e = cc

pub get-none : {X : Type 0} {x : X} → None ≡ Some x → ⊥
get-none e = cc

-- one place has one element
pub get-same : {X : Type 0} (xs : List X) (q : ℕ) (x y : X) → slice_get xs q ≡ Some x → slice_get xs q ≡ Some y → x ≡ y
get-same xs q x y e h = some_same (sym e ∙ h)

pub get-within : {X : Type 0} (xs : List X) (q : ℕ) (x : X) → slice_get xs q ≡ Some x → q < length xs
get-within [] q x e = absurd (get-none e)
get-within (y ∷ ys) zero x e = omega arith
get-within (y ∷ ys) (suc q) x e = let h = get-within ys q x e in omega arith

pub get-there : {X : Type 0} (xs : List X) (q : ℕ) → q < length xs → (x : X) × (slice_get xs q ≡ Some x)
get-there [] q h = absurd (omega arith)
get-there (y ∷ ys) zero h = (y, refl)
get-there (y ∷ ys) (suc q) h = get-there ys q (omega arith)

pub get-left : {X : Type 0} (xs ys : List X) (q : ℕ) (x : X) → slice_get xs q ≡ Some x → slice_get (xs ++ ys) q ≡ Some x
get-left [] ys q x e = absurd (get-none e)
get-left (z ∷ zs) ys zero x e = e
get-left (z ∷ zs) ys (suc q) x e = get-left zs ys q x e

pub get-last : {X : Type 0} (xs : List X) (y : X) → slice_get (xs ++ y ∷ []) (length xs) ≡ Some y
get-last [] y = refl
get-last (x ∷ xs) y = get-last xs y

pub get-push : {X : Type 0} (xs : List X) (y : X) (q : ℕ) (x : X) → slice_get (xs ++ y ∷ []) q ≡ Some x → (slice_get xs q ≡ Some x) ⊎ ((q ≡ length xs) × (y ≡ x))
get-push [] y zero x e = inr (refl, some_same e)
get-push [] y (suc q) x e = absurd (get-none e)
get-push (z ∷ zs) y zero x e = inl e
get-push (z ∷ zs) y (suc q) x e = elim (get-push zs y q x e) [ inl h ↦ inl h | inr h ↦ inr (ap suc h.0, h.1) ]

pub get-member : {X : Type 0} (xs : List X) (q : ℕ) (x : X) → slice_get xs q ≡ Some x → Member x xs
get-member [] q x e = get-none e
get-member (y ∷ ys) zero x e = inl (some_same e)
get-member (y ∷ ys) (suc q) x e = inr (get-member ys q x e)

pub member-get : {X : Type 0} (xs : List X) (x : X) → Member x xs → (q : ℕ) × (slice_get xs q ≡ Some x)
member-get [] x m = absurd m
member-get (y ∷ ys) x (inl e) = (0, ap Some e)
member-get (y ∷ ys) x (inr m) = let h = member-get ys x m in (suc h.0, h.1)

pub get-map : {X Y : Type 0} (f : X → Y) (xs : List X) (q : ℕ) (x : X) → slice_get xs q ≡ Some x → slice_get (map f xs) q ≡ Some (f x)
get-map f [] q x e = absurd (get-none e)
get-map f (y ∷ ys) zero x e = ap (λ z. Some (f z)) (some_same e)
get-map f (y ∷ ys) (suc q) x e = get-map f ys q x e

pub map-get : {X Y : Type 0} (f : X → Y) (xs : List X) (q : ℕ) (y : Y) → slice_get (map f xs) q ≡ Some y → (x : X) × (slice_get xs q ≡ Some x) × (f x ≡ y)
map-get f [] q y e = absurd (get-none e)
map-get f (z ∷ zs) zero y e = (z, refl, some_same e)
map-get f (z ∷ zs) (suc q) y e = map-get f zs q y e

-- the list from a place on
pub drop-get : {X : Type 0} (xs : List X) (q : ℕ) (x : X) → slice_get xs q ≡ Some x → drop q xs ≡ x ∷ drop (suc q) xs
drop-get [] q x e = absurd (get-none e)
drop-get (y ∷ ys) zero x e = ap (λ z. z ∷ ys) (some_same e)
drop-get (y ∷ ys) (suc q) x e = drop-get ys q x e

pub take-get : {X : Type 0} (xs : List X) (q : ℕ) (x : X) → slice_get xs q ≡ Some x → take (suc q) xs ≡ take q xs ++ x ∷ []
take-get [] q x e = absurd (get-none e)
take-get (y ∷ ys) zero x e = ap (λ z. z ∷ []) (some_same e)
take-get (y ∷ ys) (suc q) x e = ap (λ zs. y ∷ zs) (take-get ys q x e)

-- what was read of a list is what stands there
pub read-get : {X : Type 0} (xs ys : List X) (i : ℕ) (x : X) → ys ≡ xs → i < length xs → x ≡ get_or ys i x → slice_get xs i ≡ Some x
read-get xs ys i x e l h = slice_get_read xs (length xs) i x refl l (subst (λ (zs : List _). x ≡ get_or zs i x) e h)

-- the same where the read has a default
pub read-or : {X : Type 0} (xs ys : List X) (i : ℕ) (d : X) → ys ≡ xs → i < length ys → slice_get xs i ≡ Some (get_or ys i d)
read-or xs ys i d e l = subst (λ (zs : List _). slice_get zs i ≡ Some (get_or ys i d)) e (slice_get-get_or ys i d l)
