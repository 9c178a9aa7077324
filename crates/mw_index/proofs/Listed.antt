-- Lists with one item more.
use Rattle.std.specs.Prelude.{◌≡◌, ◌≢◌, ◌<◌, ◌+◌, ◌⊎◌, ℕ, zero, suc, List, [], ◌∷◌, ◌++◌, length, take, get_or, Some, slice_get, refl}
use Rattle.std.proofs.Common.{sym, ap, ◌∙◌, arith, inl, inr, ⊎_elim}
use Rattle.std.proofs.lemmas.List.{take_more}
use Rattle.mw_logic.specs.Signature.{at_number}
use Rattle.mw_logic.specs.Module.{Statement}

get_more : {X : Type 0} (xs ys : List X) (i : ℕ) (x : X) → slice_get xs i ≡ Some x → slice_get (xs ++ ys) i ≡ Some x
get_more [] ys i x h = cc
get_more (z ∷ xs) ys zero x h = h
get_more (z ∷ xs) ys (suc i) x h = get_more xs ys i x h

pub get_last : {X : Type 0} (xs : List X) (y : X) → slice_get (xs ++ y ∷ []) (length xs) ≡ Some y
get_last [] y = refl
get_last (z ∷ xs) y = get_last xs y

pub old_or_last : {X : Type 0} (xs : List X) (y : X) (i : ℕ) (x : X) → slice_get (xs ++ y ∷ []) i ≡ Some x → (slice_get xs i ≡ Some x) ⊎ ((i ≡ length xs) × (y ≡ x))
old_or_last [] y zero x h = inr (refl, (cc))
old_or_last [] y (suc i) x h = cc
old_or_last (z ∷ xs) y zero x h = inl h
old_or_last (z ∷ xs) y (suc i) x h = ⊎_elim (λ a. inl a) (λ a. inr (ap suc a.0, a.1)) (old_or_last xs y i x h)

pub same_or_not : (a b : ℕ) → (a ≡ b) ⊎ (a ≢ b)
same_or_not zero zero = inl refl
same_or_not zero (suc b) = inr (λ h. omega (arith, h))
same_or_not (suc a) zero = inr (λ h. omega (arith, h))
same_or_not (suc a) (suc b) = ⊎_elim (λ h. inl (ap suc h)) (λ n. inr (λ h. n (omega (arith, h)))) (same_or_not a b)

pub more : (xs : List Statement) (e : Statement) (k : ℕ) (e' : Statement) → at_number xs k ≡ Some e' → at_number (xs ++ e ∷ []) k ≡ Some e'
more xs e zero e' h = cc
more xs e (suc k) e' h = get_more xs (e ∷ []) k e' h

pub one_more : (xs : List Statement) (i : ℕ) (e : Statement) → i < length xs → e ≡ get_or xs i e → take (i + 1) xs ≡ take i xs ++ e ∷ []
one_more xs i e h g = take_more xs i e h ∙ ap (λ y. take i xs ++ y ∷ []) (sym g)
