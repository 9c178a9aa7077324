-- Variables in the order in which they are first met, and their positions.
use Rattle.std.specs.Prelude.{◌≡◌, ◌<◌, ◌≤◌, ℕ, zero, suc, max, get_or, List, [], ◌∷◌, ◌++◌, length, Bool, true, false, ◌||◌, cond, refl}
use Rattle.std.proofs.Common.{sym, ap, ◌∙◌, arith, append_assoc, append-nil, length-append}
use Rattle.std.proofs.lemmas.Bool.{both_ways}
use Rattle.mw_logic.specs.Term.{Variable, RawTerm, numeral, quoted, variable, apply, RawTerms, nil, cons}
use Rattle.mw_logic.specs.Substitution.{same_variable, occurs, occurs_in}
use Rattle.mw_position.specs.Positions.{counted, counted_all, IsNumbered, AreNumbered, IsWithin, AreWithin}
use Rattle.mw_position.specs.Variables.{is_in, met, all_met, AreDistinct, place, placed, all_placed}
use Rattle.mw_logic.proofs.SameConditions.{same_variable-is, same_variable-refl}

pub same_turned : (x y : Variable) → same_variable x y ≡ false → same_variable y x ≡ false
same_turned x y h = of (same_variable y x) refl
  where
    of : (b : Bool) → same_variable y x ≡ b → b ≡ false
    of false e = refl
    of true e = absurd (both_ways _ h (let k : y ≡ x = same_variable-is y x e in rw k (same_variable-refl x)))

or_assoc : (a b c : Bool) → ((a || b) || c) ≡ (a || (b || c))
or_assoc true b c = refl
or_assoc false b c = refl

pub or_none : (a : Bool) → (a || false) ≡ a
or_none true = refl
or_none false = refl

pub neither : (a b : Bool) → (a || b) ≡ false → (a ≡ false) × (b ≡ false)
neither true b h = absurd (both_ways _ h refl)
neither false b h = (refl, h)

pub is_in-append : (x : Variable) (xs ys : List Variable) → is_in x (xs ++ ys) ≡ (is_in x xs || is_in x ys)
is_in-append x [] ys = refl
is_in-append x (y ∷ xs) ys = ap (λ b. same_variable y x || b) (is_in-append x xs ys) ∙ sym (or_assoc (same_variable y x) (is_in x xs) (is_in x ys))

mutual
  -- a variable is met where it occurs
  pub is_in-met : (x : Variable) (xs : List Variable) (t : RawTerm) → is_in x (met xs t) ≡ (is_in x xs || occurs x t)
  is_in-met x xs (numeral n) = sym (or_none (is_in x xs))
  is_in-met x xs (quoted q) = sym (or_none (is_in x xs))
  is_in-met x xs (variable y) = of (is_in y xs) refl
    where
      again : (b : Bool) → same_variable y x ≡ b → is_in y xs ≡ true → is_in x xs ≡ (is_in x xs || b)
      again false e h = sym (or_none (is_in x xs))
      again true e h = let k : y ≡ x = same_variable-is y x e in let i : is_in x xs ≡ true = rw k at h in rw i refl

      of : (b : Bool) → is_in y xs ≡ b → is_in x (cond b xs (xs ++ y ∷ [])) ≡ (is_in x xs || same_variable y x)
      of true e = again (same_variable y x) refl e
      of false e = is_in-append x xs (y ∷ []) ∙ ap (λ b. is_in x xs || b) (or_none (same_variable y x))
  is_in-met x xs (apply f ts) = is_in-all_met x xs ts

  pub is_in-all_met : (x : Variable) (xs : List Variable) (ts : RawTerms) → is_in x (all_met xs ts) ≡ (is_in x xs || occurs_in x ts)
  is_in-all_met x xs nil = sym (or_none (is_in x xs))
  is_in-all_met x xs (cons t ts) = is_in-all_met x (met xs t) ts ∙ ap (λ b. b || occurs_in x ts) (is_in-met x xs t) ∙ or_assoc (is_in x xs) (occurs x t) (occurs_in x ts)

AreDistinct-put : (xs : List Variable) (x : Variable) → AreDistinct xs → is_in x xs ≡ false → AreDistinct (xs ++ x ∷ [])
AreDistinct-put [] x d h = (refl, tt)
AreDistinct-put (y ∷ ys) x d h =
    let p = neither _ _ h in let s = same_turned y x p.0 in
    (is_in-append y ys (x ∷ []) ∙ rw (d.0, s) refl, AreDistinct-put ys x d.1 p.1)

mutual
  pub AreDistinct-met : (xs : List Variable) (t : RawTerm) → AreDistinct xs → AreDistinct (met xs t)
  AreDistinct-met xs (numeral n) d = d
  AreDistinct-met xs (quoted q) d = d
  AreDistinct-met xs (variable x) d = of (is_in x xs) refl
    where
      of : (b : Bool) → is_in x xs ≡ b → AreDistinct (cond b xs (xs ++ x ∷ []))
      of true e = d
      of false e = AreDistinct-put xs x d e
  AreDistinct-met xs (apply f ts) d = AreDistinct-all_met xs ts d

  AreDistinct-all_met : (xs : List Variable) (ts : RawTerms) → AreDistinct xs → AreDistinct (all_met xs ts)
  AreDistinct-all_met xs nil d = d
  AreDistinct-all_met xs (cons t ts) d = AreDistinct-all_met (met xs t) ts (AreDistinct-met xs t d)

mutual
  pub met_grows : (xs : List Variable) (t : RawTerm) → (zs : List Variable) × (met xs t ≡ xs ++ zs)
  met_grows xs (numeral n) = ([], sym (append-nil xs))
  met_grows xs (quoted q) = ([], sym (append-nil xs))
  met_grows xs (variable x) = of (is_in x xs)
    where
      of : (b : Bool) → (zs : List Variable) × (cond b xs (xs ++ x ∷ []) ≡ xs ++ zs)
      of true = ([], sym (append-nil xs))
      of false = (x ∷ [], refl)
  met_grows xs (apply f ts) = all_met_grows xs ts

  all_met_grows : (xs : List Variable) (ts : RawTerms) → (zs : List Variable) × (all_met xs ts ≡ xs ++ zs)
  all_met_grows xs nil = ([], sym (append-nil xs))
  all_met_grows xs (cons t ts) =
      let a = met_grows xs t in let b = all_met_grows (met xs t) ts in
      (a.0 ++ b.0, b.1 ∙ ap (λ ys. ys ++ b.0) a.1 ∙ append_assoc xs a.0 b.0)

-- positions
pub place-within : (x : Variable) (xs : List Variable) → is_in x xs ≡ true → place x xs < length xs
place-within x [] h = absurd (both_ways false refl h)
place-within x (y ∷ ys) h = of (place-within x ys) (same_variable y x) h
  where
    of : (is_in x ys ≡ true → place x ys < length ys) → (b : Bool) → (b || is_in x ys) ≡ true → cond b 0 (suc (place x ys)) < suc (length ys)
    of r true e = omega arith
    of r false e = let k = r e in omega (arith, k)

pub place-append : (x : Variable) (xs ys : List Variable) → is_in x xs ≡ true → place x (xs ++ ys) ≡ place x xs
place-append x [] ys h = absurd (both_ways false refl h)
place-append x (y ∷ xs) ys h = of (place-append x xs ys) (same_variable y x) h
  where
    of : (is_in x xs ≡ true → place x (xs ++ ys) ≡ place x xs) → (b : Bool) → (b || is_in x xs) ≡ true → cond b 0 (suc (place x (xs ++ ys))) ≡ cond b 0 (suc (place x xs))
    of r true e = refl
    of r false e = ap suc (r e)

pub place-put : (x : Variable) (xs ys : List Variable) → is_in x xs ≡ false → place x (xs ++ x ∷ ys) ≡ length xs
place-put x [] ys h = rw (same_variable-refl x) refl
place-put x (y ∷ xs) ys h = let p = neither (same_variable y x) (is_in x xs) h in rw (p.0) (ap suc (place-put x xs ys p.1))

in_at : (xs : List Variable) (i : ℕ) (x : Variable) → i < length xs → x ≡ get_or xs i x → is_in x xs ≡ true
in_at [] i x h e = absurd (omega (arith, h))
in_at (y ∷ ys) zero x h e = let k : y ≡ x = sym e in rw k (let s = same_variable-refl x in rw s refl)
in_at (y ∷ ys) (suc i) x h e = of (same_variable y x) (in_at ys i x (omega (arith, h)) e)
  where
    of : (b : Bool) → is_in x ys ≡ true → (b || is_in x ys) ≡ true
    of true r = refl
    of false r = r

-- the variable at a position
pub place_at : (xs : List Variable) (i : ℕ) (x : Variable) → AreDistinct xs → i < length xs → x ≡ get_or xs i x → place x xs ≡ i
place_at [] i x d h e = absurd (omega (arith, h))
place_at (y ∷ ys) zero x d h e = let k : y ≡ x = sym e in rw k (let s = same_variable-refl x in rw s refl)
place_at (y ∷ ys) (suc i) x d h e = of (same_variable y x) refl (place_at ys i x d.1 (omega (arith, h)) e) (in_at ys i x (omega (arith, h)) e)
  where
    of : (b : Bool) → same_variable y x ≡ b → place x ys ≡ i → is_in x ys ≡ true → cond b 0 (suc (place x ys)) ≡ suc i
    of false s r k = ap suc r
    of true s r k = absurd (both_ways _ d.0 (let w : y ≡ x = same_variable-is y x s in rw w k))

mutual
  -- where the positions are those of first mention, patterns are numbered as the matcher wants them
  pub numbered_met : (ys : List Variable) (t : RawTerm) (zs xs : List Variable) → xs ≡ met ys t ++ zs → IsNumbered (length ys) (placed xs t) × (counted (length ys) (placed xs t) ≡ length (met ys t))
  numbered_met ys (numeral n) zs xs e = (tt, refl)
  numbered_met ys (quoted q) zs xs e = (tt, refl)
  numbered_met ys (variable x) zs xs e = of (is_in x ys) refl e
    where
      of : (b : Bool) → is_in x ys ≡ b → xs ≡ cond b ys (ys ++ x ∷ []) ++ zs → (place x xs ≤ length ys) × (max (length ys) (suc (place x xs)) ≡ length (cond b ys (ys ++ x ∷ [])))
      of true i h =
          let p : place x xs ≡ place x ys = ap (place x) h ∙ place-append x ys zs i in let w = place-within x ys i in (omega (arith, p, w), omega (arith, p, w))
      of false i h =
          let p : place x xs ≡ length ys = ap (place x) (h ∙ append_assoc ys (x ∷ []) zs) ∙ place-put x ys zs i in
          let l = length-append ys (x ∷ []) in (omega (arith, p), omega (arith, p, l))
  numbered_met ys (apply f ts) zs xs e = numbered_all_met ys ts zs xs e

  pub numbered_all_met : (ys : List Variable) (ts : RawTerms) (zs xs : List Variable) → xs ≡ all_met ys ts ++ zs → AreNumbered (length ys) (all_placed xs ts) × (counted_all (length ys) (all_placed xs ts) ≡ length (all_met ys ts))
  numbered_all_met ys nil zs xs e = (tt, refl)
  numbered_all_met ys (cons t ts) zs xs e =
      let g = all_met_grows (met ys t) ts in
      let a = numbered_met ys t (g.0 ++ zs) xs (e ∙ ap (λ ws. ws ++ zs) g.1 ∙ append_assoc (met ys t) g.0 zs) in
      let b = numbered_all_met (met ys t) ts zs xs e in rw (a.1) ((a.0, b.0), b.1)
