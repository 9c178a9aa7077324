-- Entries of lists, by what they are and by index.
use Rattle.std.specs.Prelude.{◌≡◌, ◌⊎◌, ℕ, zero, suc, List, [], ◌∷◌, ◌++◌, map, Some, slice_get, refl}
use Rattle.std.proofs.Common.{sym, ap, subst, inl, inr}
use Rattle.std.proofs.lemmas.Option.{none-some, same_Some}
use Rattle.mw_logic.specs.Signature.{Member}
use Rattle.mw_split.specs.Lists.{Distinct, AllOnce}
use Rattle.mw_split.proofs.Lists.{member-left, member-right, member-append, distinct-append}
use Rattle.mw_split.specs.Lists as split

-- the two ways to say that something stands in a list
pub member_to : {A : Type 0} (x : A) (ys : List A) → split.Member x ys → Member x ys
member_to x [] m = m
member_to x (y ∷ ys) (inl e) = inl (sym e)
member_to x (y ∷ ys) (inr m) = inr (member_to x ys m)

pub member_from : {A : Type 0} (x : A) (ys : List A) → Member x ys → split.Member x ys
member_from x [] m = m
member_from x (y ∷ ys) (inl e) = inl (sym e)
member_from x (y ∷ ys) (inr m) = inr (member_from x ys m)

pub got_member : {A : Type 0} (x : A) (ys : List A) (i : ℕ) → slice_get ys i ≡ Some x → split.Member x ys
got_member x [] i e = absurd (none-some x e)
got_member x (y ∷ ys) zero e = inl (sym (same_Some y x e))
got_member x (y ∷ ys) (suc i) e = inr (got_member x ys i e)

-- what stands once has one index
pub one_index : {A : Type 0} (xs : List A) → Distinct xs → (i j : ℕ) (x : A) → slice_get xs i ≡ Some x → slice_get xs j ≡ Some x → i ≡ j
one_index [] d i j x e f = absurd (none-some x e)
one_index (y ∷ ys) d zero zero x e f = refl
one_index (y ∷ ys) d zero (suc j) x e f = absurd (d.0 (subst (λ z. split.Member z ys) (sym (same_Some y x e)) (got_member x ys j f)))
one_index (y ∷ ys) d (suc i) zero x e f = absurd (d.0 (subst (λ z. split.Member z ys) (sym (same_Some y x f)) (got_member x ys i e)))
one_index (y ∷ ys) d (suc i) (suc j) x e f = ap suc (one_index ys d.1 i j x e f)

pub got_mapped : {A B : Type 0} (f : A → B) (xs : List A) (i : ℕ) (y : B) → slice_get (map f xs) i ≡ Some y → (x : A) × (slice_get xs i ≡ Some x) × (f x ≡ y)
got_mapped f [] i y e = absurd (none-some y e)
got_mapped f (x ∷ xs) zero y e = (x, refl, same_Some (f x) y e)
got_mapped f (x ∷ xs) (suc i) y e = got_mapped f xs i y e

-- what stands in a mapped list
pub mapped : {A B : Type 0} (f : A → B) (x : A) (xs : List A) → Member x xs → Member (f x) (map f xs)
mapped f x [] m = m
mapped f x (y ∷ xs) (inl e) = inl (ap f e)
mapped f x (y ∷ xs) (inr m) = inr (mapped f x xs m)

pub of_mapped : {A B : Type 0} (f : A → B) (y : B) (xs : List A) → Member y (map f xs) → (x : A) × (f x ≡ y) × Member x xs
of_mapped f y [] m = absurd m
of_mapped f y (x ∷ xs) (inl e) = (x, e, inl refl)
of_mapped f y (x ∷ xs) (inr m) = let (z, e, k) = of_mapped f y xs m in (z, e, inr k)

-- two lists of all that have a property, of which none has both
pub once_joined : {A : Type 0} (P Q : A → Type 0) (xs ys : List A) → AllOnce P xs → AllOnce Q ys → ((x : A) → P x → Q x → ⊥) → AllOnce (λ x. P x ⊎ Q x) (xs ++ ys)
once_joined {A} P Q xs ys l k apart = record {
  once = distinct-append xs ys l.once k.once (λ x m n. apart x ((l.all x).0 m) ((k.all x).0 n));
  all = λ x. (there x, back x);
}
  where
    there : (x : A) → split.Member x (xs ++ ys) → P x ⊎ Q x
    there x m = of (member-append x xs ys m)
      where
        of : split.Member x xs ⊎ split.Member x ys → P x ⊎ Q x
        of (inl n) = inl ((l.all x).0 n)
        of (inr n) = inr ((k.all x).0 n)

    back : (x : A) → P x ⊎ Q x → split.Member x (xs ++ ys)
    back x (inl p) = member-left x xs ys ((l.all x).1 p)
    back x (inr q) = member-right x xs ys ((k.all x).1 q)
