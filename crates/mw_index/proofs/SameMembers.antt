-- Lists of the same variables, each once.
use Rattle.std.specs.Prelude.{◌≡◌, ◌≤◌, ℕ, zero, suc, List, [], ◌∷◌, length, Bool, true, false, ◌||◌, cond, Some, slice_get, IsTrue, refl}
use Rattle.std.proofs.Common.{sym, ap, subst, ◌∙◌, arith, inl, inr}
use Rattle.std.proofs.lemmas.Bool.{both_ways, or_right}
use Rattle.std.proofs.lemmas.Option.{none-some}
use Rattle.mw_logic.specs.Term.{Variable}
use Rattle.mw_logic.specs.Signature.{Member}
use Rattle.mw_logic.specs.Substitution.{same_variable}
use Rattle.mw_logic.proofs.SameConditions.{same_variable-is, same_variable-refl}
use Rattle.mw_position.specs.Variables.{is_in, place, AreDistinct}

pub member_in : (x : Variable) (xs : List Variable) → Member x xs → is_in x xs ≡ true
member_in x [] m = absurd m
member_in x (y ∷ ys) (inl e) = rw (ap (λ z. same_variable z x) e ∙ same_variable-refl x) refl
member_in x (y ∷ ys) (inr m) = or_right (same_variable y x) (is_in x ys) (member_in x ys m)

-- a variable stands at its place
pub at_its_place : (x : Variable) (xs : List Variable) → is_in x xs ≡ true → slice_get xs (place x xs) ≡ Some x
at_its_place x [] h = absurd (both_ways false refl h)
at_its_place x (y ∷ ys) h = of (at_its_place x ys) (same_variable y x) refl h
  where
    of : (is_in x ys ≡ true → slice_get ys (place x ys) ≡ Some x) → (b : Bool) → same_variable y x ≡ b → (b || is_in x ys) ≡ true → slice_get (y ∷ ys) (cond b 0 (suc (place x ys))) ≡ Some x
    of r true e h = ap Some (same_variable-is y x e)
    of r false e h = r h

-- the variables without the first x
abbrev without : Variable → List Variable → List Variable
without x [] = []
without x (y ∷ ys) = cond (same_variable y x) ys (y ∷ without x ys)

one_less : (x : Variable) (ys : List Variable) → is_in x ys ≡ true → length ys ≡ suc (length (without x ys))
one_less x [] h = absurd (both_ways false refl h)
one_less x (y ∷ ys) h = of (one_less x ys) (same_variable y x) h
  where
    of : (is_in x ys ≡ true → length ys ≡ suc (length (without x ys))) → (b : Bool) → (b || is_in x ys) ≡ true → suc (length ys) ≡ suc (length (cond b ys (y ∷ without x ys)))
    of r true h = refl
    of r false h = ap suc (r h)

others_stay : (x z : Variable) (ys : List Variable) → same_variable x z ≡ false → is_in z ys ≡ true → is_in z (without x ys) ≡ true
others_stay x z [] n h = h
others_stay x z (y ∷ ys) n h = of (others_stay x z ys n) (same_variable y x) refl (same_variable y z) refl h
  where
    of : (is_in z ys ≡ true → is_in z (without x ys) ≡ true) → (b : Bool) → same_variable y x ≡ b → (c : Bool) → same_variable y z ≡ c → (c || is_in z ys) ≡ true → is_in z (cond b ys (y ∷ without x ys)) ≡ true
    of r true e true f h = absurd (both_ways _ n (subst (λ w. same_variable w z ≡ true) (same_variable-is y x e) f))
    of r true e false f h = h
    of r false e true f h = rw f refl
    of r false e false f h = rw f (r h)

pub no_more : (xs ys : List Variable) → AreDistinct xs → ((x : Variable) → is_in x xs ≡ true → is_in x ys ≡ true) → length xs ≤ length ys
no_more [] ys d h = omega arith
no_more (x ∷ xs) ys d h =
    let here : is_in x ys ≡ true = h x (rw (same_variable-refl x) refl) in
    let l = no_more xs (without x ys) d.1 (λ z i. others_stay x z ys (apart z i) (h z (or_right (same_variable x z) (is_in z xs) i))) in
    let n = one_less x ys here in
    omega (arith, l, n)
  where
    apart : (z : Variable) → is_in z xs ≡ true → same_variable x z ≡ false
    apart z i = of (same_variable x z) refl
      where
        of : (b : Bool) → same_variable x z ≡ b → b ≡ false
        of false e = refl
        of true e = absurd (both_ways _ d.0 (let k : x ≡ z = same_variable-is x z e in rw k i))

pub as_many : (xs ys : List Variable) → AreDistinct xs → AreDistinct ys → ((x : Variable) → is_in x xs ≡ is_in x ys) → length xs ≡ length ys
as_many xs ys d e h =
    let a = no_more xs ys d (λ x i. sym (h x) ∙ i) in
    let b = no_more ys xs e (λ x i. h x ∙ i) in
    omega (arith, a, b)

pub of_slice : (z : Variable) (xs : List Variable) (i : ℕ) → slice_get xs i ≡ Some z → Member z xs
of_slice z [] i e = absurd (none-some z e)
of_slice z (w ∷ ws) zero e = inl (let k : w ≡ z = cc in k)
of_slice z (w ∷ ws) (suc i) e = inr (of_slice z ws i e)

-- as many variables, each at its own place, are in the same order
pub same_order : (ys xs : List Variable) → length ys ≡ length xs → ((x : Variable) → Member x xs → IsTrue (is_in x ys)) → ((i : ℕ) (x : Variable) → slice_get xs i ≡ Some x → place x ys ≡ i) → ys ≡ xs
same_order [] [] l h k = refl
same_order [] (x ∷ xs) l h k = absurd (omega (arith, l))
same_order (y ∷ ys) [] l h k = absurd (omega (arith, l))
same_order (y ∷ ys) (x ∷ xs) l h k =
    let rest : ys ≡ xs = same_order ys xs (omega (arith, l)) (λ z m. (later z (in_slice z xs m)).0) (λ i z e. at_later i z e) in
    ap (λ z. z ∷ ys) (first (same_variable y x) refl (k 0 x refl)) ∙ ap (λ zs. x ∷ zs) rest
  where
    first : (b : Bool) → same_variable y x ≡ b → cond b 0 (suc (place x ys)) ≡ 0 → y ≡ x
    first true e p = same_variable-is y x e
    first false e p = absurd (omega (arith, p))

    in_slice : (z : Variable) (xs : List Variable) → Member z xs → (i : ℕ) × (slice_get xs i ≡ Some z)
    in_slice z [] m = absurd m
    in_slice z (w ∷ ws) (inl e) = (0, ap Some e)
    in_slice z (w ∷ ws) (inr m) = let (i, g) = in_slice z ws m in (suc i, g)

    by_test : (z : Variable) (i : ℕ) (b : Bool) → (b || is_in z ys) ≡ true → cond b 0 (suc (place z ys)) ≡ suc i → (is_in z ys ≡ true) × (place z ys ≡ i)
    by_test z i true a p = absurd (omega (arith, p))
    by_test z i false a p = (a, omega (arith, p))

    later : (z : Variable) → (i : ℕ) × (slice_get xs i ≡ Some z) → (is_in z ys ≡ true) × ((i : ℕ) × (place z ys ≡ i))
    later z (i, e) = let r = by_test z i (same_variable y z) (h z (inr (of_slice z xs i e))) (k (suc i) z e) in (r.0, (i, r.1))

    at_later : (i : ℕ) (z : Variable) → slice_get xs i ≡ Some z → place z ys ≡ i
    at_later i z e = (by_test z i (same_variable y z) (h z (inr (of_slice z xs i e))) (k (suc i) z e)).1
