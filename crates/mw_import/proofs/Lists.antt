-- Membership in lists, and places in them and among units.
use Rattle.std.proofs.Common.{◌<◌, ◌≤◌, position, None, bytes_eq, arith, ◌≡◌, ◌⊎◌, ◌∙◌, ℕ, zero, suc, Bool, true, false, ◌||◌, nat_eq, List, [], ◌∷◌, ◌++◌, length, slice_get, Some, map, flat_map, refl, sym, ap, inl, inr, subst, true≢false}
use Rattle.std.specs.List.{list_any}
use Rattle.std.proofs.lemmas.Option.{same_Some}
use Rattle.std.proofs.lemmas.Bool.{eqb-true, eq-eqb}
use Rattle.mw_logic.specs.Signature.{Member}
use Rattle.mw_logic.proofs.Members.{member-left, member-right, member-append}
use Rattle.std.specs.List.{position_or_len}
use Rattle.std.proofs.lemmas.Grind.{common_steps}
use Rattle.std.proofs.lemmas.Option.{slice_get_within, get_or_from_slice_get}
use Rattle.std.proofs.lemmas.List.Sums.{fails_before_first}
use Rattle.mw_import.specs.Flat.{FlatUnit, number_named, is_among}

-- what stands in the list of one of them stands in all their lists
pub member-flat_map : {X Y : Type 0} (f : X → List Y) (y : Y) (x : X) (xs : List X) → Member x xs → Member y (f x) → Member y (flat_map f xs)
member-flat_map f y x [] m n = absurd m
member-flat_map f y x (z ∷ xs) (inl e) n = member-left y (f z) (flat_map f xs) (subst (λ x. Member y (f x)) (sym e) n)
member-flat_map f y x (z ∷ xs) (inr m) n = member-right y (f z) (flat_map f xs) (member-flat_map f y x xs m n)

-- and what stands in all their lists stands in the list of one of them
pub flat_map-member : {X Y : Type 0} (f : X → List Y) (y : Y) (xs : List X) → Member y (flat_map f xs) → (x : X) × Member x xs × Member y (f x)
flat_map-member f y [] m = absurd m
flat_map-member f y (z ∷ xs) m =
    elim (member-append y (f z) (flat_map f xs) m) [ inl n ↦ (z, inl refl, n) | inr n ↦ let k = flat_map-member f y xs n in (k.0, inr k.1, k.2) ]

pub member-map : {X Y : Type 0} (f : X → Y) (x : X) (xs : List X) → Member x xs → Member (f x) (map f xs)
member-map f x [] m = absurd m
member-map f x (z ∷ xs) (inl e) = inl (ap f e)
member-map f x (z ∷ xs) (inr m) = inr (member-map f x xs m)

pub map-member : {X Y : Type 0} (f : X → Y) (y : Y) (xs : List X) → Member y (map f xs) → (x : X) × Member x xs × (f x ≡ y)
map-member f y [] m = absurd m
map-member f y (z ∷ xs) (inl e) = (z, inl refl, e)
map-member f y (z ∷ xs) (inr m) = let k = map-member f y xs m in (k.0, inr k.1, k.2)

-- a test holds or it doesn't
pub by_test : {Y : Type 0} (b : Bool) → (b ≡ true → Y) → (b ≡ false → Y) → Y
by_test true t f = t refl
by_test false t f = f refl

-- the test among a list is std's
pub among_any : (k : ℕ) (js : List ℕ) → list_any (nat_eq k) js ≡ is_among k js
among_any k [] = refl
among_any k (j ∷ js) = ap (λ b. nat_eq k j || b) (among_any k js)

equal_either : (j k : ℕ) → nat_eq j k ≡ nat_eq k j
equal_either j k = of (nat_eq j k) refl (nat_eq k j) refl
  where
    of : (a : Bool) → nat_eq j k ≡ a → (b : Bool) → nat_eq k j ≡ b → a ≡ b
    of true p true q = refl
    of false p false q = refl
    of true p false q = sym (eq-eqb k j (sym (eqb-true j k p))) ∙ q
    of false p true q = sym p ∙ eq-eqb j k (sym (eqb-true k j q))

-- also where each is compared with the number
pub any_among : (k : ℕ) (js : List ℕ) → list_any (λ j. nat_eq j k) js ≡ is_among k js
any_among k [] = refl
any_among k (j ∷ js) = ap (λ b. b || list_any (λ j. nat_eq j k) js) (equal_either j k) ∙ ap (λ b. nat_eq k j || b) (any_among k js)

pub among_member : (k : ℕ) (js : List ℕ) → is_among k js ≡ true → Member k js
among_member k [] h = absurd (true≢false (sym h))
among_member k (j ∷ js) h =
    by_test (nat_eq k j) (λ e. inl (sym (eqb-true k j e))) (λ e. inr (among_member k js (ap (λ b. b || is_among k js) (sym e) ∙ h)))

pub member_among : (k : ℕ) (js : List ℕ) → Member k js → is_among k js ≡ true
member_among k [] m = absurd m
member_among k (j ∷ js) (inl e) = ap (λ b. b || is_among k js) (eq-eqb k j (sym e))
member_among k (j ∷ js) (inr m) = by_test (nat_eq k j) (λ e. ap (λ b. b || is_among k js) e) (λ e. ap (λ b. b || is_among k js) e ∙ member_among k js m)

-- with one more at the end, or at the front
pub among-push : (j k : ℕ) (ks : List ℕ) → is_among j (ks ++ k ∷ []) ≡ (nat_eq j k || is_among j ks)
among-push j k [] = refl
among-push j k (i ∷ ks) = of (nat_eq j i) (nat_eq j k) (among-push j k ks)
  where
    of : (a b : Bool) → is_among j (ks ++ k ∷ []) ≡ (b || is_among j ks) → (a || is_among j (ks ++ k ∷ [])) ≡ (b || (a || is_among j ks))
    of true true h = refl
    of true false h = refl
    of false true h = h
    of false false h = h

-- a place in a list with one more is one in the list, or the last
pub pushed_at : {X : Type 0} (xs : List X) (x y : X) (k : ℕ) → slice_get (xs ++ x ∷ []) k ≡ Some y → (slice_get xs k ≡ Some y) ⊎ ((k ≡ length xs) × (x ≡ y))
pushed_at [] x y zero h = inr (refl, same_Some x y h)
pushed_at [] x y (suc k) h = cc
pushed_at (z ∷ xs) x y zero h = inl h
pushed_at (z ∷ xs) x y (suc k) h = elim (pushed_at xs x y k h) [ inl e ↦ inl e | inr e ↦ inr (ap suc e.0, e.1) ]

nowhere : {X : Type 0} (p : X → Bool) (xs : List X) → position p xs ≡ None → length xs ≤ position_or_len p xs
nowhere p xs e = grind (arith, common_steps)

-- where no unit has the name
pub none_named : (us : List FlatUnit) (n : List ℕ) → number_named us n ≡ None → (k : ℕ) (u : FlatUnit) → slice_get us k ≡ Some u → bytes_eq n u.name ≡ false
none_named us n e k u at =
    let p : FlatUnit → Bool = λ u. bytes_eq n u.name in
    let past : length us ≤ position_or_len p us = nowhere p us e in
    let inside : k < length us = slice_get_within us k u at in
    ap p (sym (get_or_from_slice_get us k u u at)) ∙ fails_before_first p us k u (omega (arith, past, inside))
