-- Variables whose positions are numbered as they are met stand in the order in which they are met.
use Rattle.std.specs.Prelude.{◌≡◌, ◌≤◌, ◌+◌, suc, List, [], ◌∷◌, ◌++◌, length, Bool, true, false, cond, IsTrue, refl}
use Rattle.std.proofs.Common.{sym, ap, subst, ◌∙◌, arith, append_assoc, append-nil, length-append}
use Rattle.std.proofs.lemmas.Bool.{both_ways, or_left, or_right}
use Rattle.mw_logic.specs.Term.{Variable, RawTerm, numeral, quoted, variable, apply, RawTerms, nil, cons}
use Rattle.mw_logic.specs.Substitution.{same_variable, occurs, occurs_in}
use Rattle.mw_logic.proofs.SameConditions.{same_variable-is, same_variable-refl}
use Rattle.mw_position.specs.Positions.{IsNumbered, AreNumbered, counted}
use Rattle.mw_position.specs.Variables.{is_in, met, all_met, place, placed, all_placed}
use Rattle.mw_position.proofs.Meeting.{neither, is_in-append, numbered_met}

place_behind : (x : Variable) (ys zs : List Variable) → is_in x ys ≡ false → place x (ys ++ zs) ≡ length ys + place x zs
place_behind x [] zs h = sym (omega arith)
place_behind x (y ∷ ys) zs h =
    let k = neither (same_variable y x) (is_in x ys) h in
    let r = place_behind x ys zs k.1 in
    rw (k.0) (omega (arith, r))

module _ (xs : List Variable) where
  -- what was met stands in front of the others
  abbrev Front : List Variable → Type 0
  Front ys = (zs : List Variable) × (xs ≡ ys ++ zs)

  next_variable : (ys : List Variable) (x : Variable) → Front ys → is_in x xs ≡ true → place x xs ≤ length ys → (b : Bool) → is_in x ys ≡ b → Front (cond b ys (ys ++ x ∷ []))
  next_variable ys x f i l true e = f
  next_variable ys x ([], w) i l false e =
      let n : is_in x xs ≡ false = ap (is_in x) w ∙ is_in-append x ys [] ∙ rw (e) refl in absurd (both_ways _ n i)
  next_variable ys x (z ∷ zs, w) i l false e =
      let p : place x xs ≡ length ys + place x (z ∷ zs) = ap (place x) w ∙ place_behind x ys (z ∷ zs) e in
      (zs, w ∙ ap (λ y. ys ++ y ∷ zs) (by_test (same_variable z x) refl p) ∙ sym (append_assoc ys (x ∷ []) zs))
    where
      by_test : (b : Bool) → same_variable z x ≡ b → place x xs ≡ length ys + cond b 0 (suc (place x zs)) → z ≡ x
      by_test true s p = same_variable-is z x s
      by_test false s p = absurd (omega (arith, p, l))

  mutual
    front_met : (ys : List Variable) (t : RawTerm) → Front ys → ((x : Variable) → IsTrue (occurs x t) → IsTrue (is_in x xs)) → IsNumbered (length ys) (placed xs t) → Front (met ys t)
    front_met ys (numeral n) f h k = f
    front_met ys (quoted q) f h k = f
    front_met ys (variable x) f h k = next_variable ys x f (h x (same_variable-refl x)) k (is_in x ys) refl
    front_met ys (apply g ts) f h k = front_all_met ys ts f h k

    front_all_met : (ys : List Variable) (ts : RawTerms) → Front ys → ((x : Variable) → IsTrue (occurs_in x ts) → IsTrue (is_in x xs)) → AreNumbered (length ys) (all_placed xs ts) → Front (all_met ys ts)
    front_all_met ys nil f h k = f
    front_all_met ys (cons t ts) f h k =
        let g = front_met ys t f (λ x o. h x (or_left (occurs x t) (occurs_in x ts) o)) k.0 in
        let n = (numbered_met ys t g.0 xs g.1).1 in
        front_all_met (met ys t) ts g (λ x o. h x (or_right (occurs x t) (occurs_in x ts) o)) (subst (λ n. AreNumbered n (all_placed xs ts)) n k.1)

  -- all of them
  pub all_are_met : (t : RawTerm) → ((x : Variable) → IsTrue (occurs x t) → IsTrue (is_in x xs)) → IsNumbered 0 (placed xs t) → counted 0 (placed xs t) ≡ length xs → xs ≡ met [] t
  all_are_met t h k c =
      let (zs, w) = front_met [] t (xs, refl) h k in
      let n : counted 0 (placed xs t) ≡ length (met [] t) = (numbered_met [] t zs xs w).1 in
      let l : length xs ≡ length (met [] t) + length zs = ap (λ (ys : List Variable). length ys) w ∙ length-append (met [] t) zs in
      w ∙ nothing_behind zs (omega (arith, n, l, c))
    where
      nothing_behind : (zs : List Variable) → length zs ≡ 0 → met [] t ++ zs ≡ met [] t
      nothing_behind [] e = append-nil (met [] t)
      nothing_behind (z ∷ zs) e = absurd (omega (arith, e))
