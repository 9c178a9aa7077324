-- Membership in lists, and the sorts directly above one.
use Rattle.std.specs.Prelude.{Bool, true, false, cond, nat_eq, All}
use Rattle.std.proofs.Common.{◌≡◌, ◌⊎◌, ℕ, zero, suc, ◌<◌, List, [], ◌∷◌, ◌++◌, length, refl, ap, ◌∙◌, inl, inr, arith, get_or, subst, take, drop}
use Rattle.std.proofs.lemmas.List.{take_all, take-append-le}
use Rattle.std.proofs.lemmas.Bool.{eqb-true, eq-eqb}
use Rattle.mw_logic.specs.Signature.{Member}
use Rattle.mw_logic.proofs.Members.{member-right, member-append}
use Rattle.mw_poset.specs.Tables.{supersorts}

pub no_items : {X : Type 0} (xs : List X) → length xs ≡ 0 → xs ≡ []
no_items [] e = refl
no_items (x ∷ xs) e = absurd (omega arith)

-- a list's last
pub member-last : {X : Type 0} (x : X) (xs : List X) → Member x (xs ++ x ∷ [])
member-last x xs = member-right x xs (x ∷ []) (inl refl)

-- in a list with one more at its end: in the list, or that one
pub member-push : {X : Type 0} (x y : X) (xs : List X) → Member x (xs ++ y ∷ []) → Member x xs ⊎ (y ≡ x)
member-push x y xs m = elim (member-append x xs (y ∷ []) m) [ inl k ↦ inl k | inr k ↦ elim k [ inl e ↦ inr e | inr f ↦ absurd f ] ]

-- what stands at a place
pub member-at : {X : Type 0} (xs : List X) (k : ℕ) (d : X) → k < length xs → Member (get_or xs k d) xs
member-at [] k d h = absurd (omega arith)
member-at (x ∷ xs) zero d h = inl refl
member-at (x ∷ xs) (suc k) d h = inr (member-at xs k d (omega arith))

-- what holds of each place holds of each member
pub member-all : {X : Type 0} (P : X → Type 0) (xs : List X) → All P xs → (x : X) → Member x xs → P x
member-all P [] a x m = absurd m
member-all P (y ∷ xs) a x (inl e) = subst P e (a 0 y (omega arith))
member-all P (y ∷ xs) a x (inr m) = member-all P xs (λ k d h. a (suc k) d (omega arith)) x m

pair_is : (p : ℕ × ℕ) (S T : ℕ) → p.0 ≡ S → p.1 ≡ T → p ≡ (S, T)
pair_is p S T e h = ap (λ (x : ℕ). (x, p.1)) e ∙ ap (λ (y : ℕ). (S, y)) h

pub supersorts-member : (ps : List (ℕ × ℕ)) (S T : ℕ) → Member T (supersorts ps S) → Member (S, T) ps
supersorts-member [] S T m = absurd m
supersorts-member (p ∷ ps) S T m = by_test (nat_eq p.0 S) refl m (supersorts-member ps S T)
  where
    by_test : (b : Bool) → nat_eq p.0 S ≡ b → Member T (cond b (p.1 ∷ supersorts ps S) (supersorts ps S)) → (Member T (supersorts ps S) → Member (S, T) ps) → Member (S, T) (p ∷ ps)
    by_test true e (inl h) rest = inl (pair_is p S T (eqb-true _ _ e) h)
    by_test true e (inr k) rest = inr (rest k)
    by_test false e k rest = inr (rest k)

pub member-supersorts : (ps : List (ℕ × ℕ)) (S T : ℕ) → Member (S, T) ps → Member T (supersorts ps S)
member-supersorts [] S T m = absurd m
member-supersorts (p ∷ ps) S T (inl e) = rw (eq-eqb p.0 S (ap (λ (q : ℕ × ℕ). q.0) e)) (inl (ap (λ (q : ℕ × ℕ). q.1) e))
member-supersorts (p ∷ ps) S T (inr m) = by_test (nat_eq p.0 S) (member-supersorts ps S T m)
  where
    by_test : (b : Bool) → Member T (supersorts ps S) → Member T (cond b (p.1 ∷ supersorts ps S) (supersorts ps S))
    by_test true k = inr k
    by_test false k = k

-- one more pair
pub supersorts-push_same : (ps : List (ℕ × ℕ)) (S T : ℕ) → supersorts (ps ++ (S, T) ∷ []) S ≡ supersorts ps S ++ T ∷ []
supersorts-push_same [] S T = rw (eq-eqb S S refl) refl
supersorts-push_same (p ∷ ps) S T = by_test (nat_eq p.0 S) (supersorts-push_same ps S T)
  where
    by_test : (b : Bool) → supersorts (ps ++ (S, T) ∷ []) S ≡ supersorts ps S ++ T ∷ []
        → cond b (p.1 ∷ supersorts (ps ++ (S, T) ∷ []) S) (supersorts (ps ++ (S, T) ∷ []) S) ≡ cond b (p.1 ∷ supersorts ps S) (supersorts ps S) ++ T ∷ []
    by_test true e = ap (λ l. p.1 ∷ l) e
    by_test false e = e

pub supersorts-push_other : (ps : List (ℕ × ℕ)) (S T U : ℕ) → nat_eq S U ≡ false → supersorts (ps ++ (S, T) ∷ []) U ≡ supersorts ps U
supersorts-push_other [] S T U h = rw h refl
supersorts-push_other (p ∷ ps) S T U h = by_test (nat_eq p.0 U) (supersorts-push_other ps S T U h)
  where
    by_test : (b : Bool) → supersorts (ps ++ (S, T) ∷ []) U ≡ supersorts ps U
        → cond b (p.1 ∷ supersorts (ps ++ (S, T) ∷ []) U) (supersorts (ps ++ (S, T) ∷ []) U) ≡ cond b (p.1 ∷ supersorts ps U) (supersorts ps U)
    by_test true e = ap (λ l. p.1 ∷ l) e
    by_test false e = e

-- a slice of the whole list was written
pub written : (n : ℕ) (old lent new : List ℕ) → lent ≡ old → n ≡ length old → length new ≡ length lent → take n (new ++ drop (length new) old) ≡ new
written n old lent new e en l =
    let same : length new ≡ length old = l ∙ ap (λ (xs : List ℕ). length xs) e in
    take-append-le n new (drop (length new) old) (omega arith) ∙ take_all n new (omega arith)
