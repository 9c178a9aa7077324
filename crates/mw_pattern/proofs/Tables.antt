-- The table of variables, entry by entry.
use Rattle.std.specs.Prelude.{◌≡◌, ◌<◌, ◌+◌, ℕ, List, [], ◌∷◌, ◌++◌, length, take, drop, get_or, Bool, true, false, ◌||◌, cond, Option, Some, None, is_some, refl}
use Rattle.std.proofs.Common.{sym, ap, ◌∙◌, arith, length-take-le}
use Rattle.std.proofs.lemmas.List.{take_more, map-append, take-append-drop}
use denote.Ref.{Bor}
use Rattle.mw_logic.specs.Term.{Variable, variable}
use Rattle.mw_logic.specs.Substitution.{same_variable}
use Rattle.mw_position.specs.Variables.{is_in, met, AreDistinct, place}
use Rattle.mw_position.proofs.Meeting.{or_none, is_in-append, place-append, place-put, place-within, place_at}
use Rattle.mw_pattern.specs.Tables.{Key, same_key, variable_of, pointed, position_in}
use Rattle.mw_logic.proofs.SameConditions.{same_variable-is, same_variable-refl}

pub none_some : (i : ℕ) → None ≡ Some i → ⊥
none_some i h = cc

pub some_parts : (i j : ℕ) → Some i ≡ Some j → i ≡ j
some_parts i j h = cc

pub found_in : (x : Variable) (xs : List Variable) → is_in x xs ≡ true → position_in x xs ≡ Some (place x xs)
found_in x xs h = rw h refl

pub is_found : (x : Variable) (xs : List Variable) → is_some (position_in x xs) ≡ is_in x xs
is_found x xs = of (is_in x xs)
  where
    of : (b : Bool) → is_some (cond b (Some (place x xs)) None) ≡ b
    of true = refl
    of false = refl

pub met_again : (xs : List Variable) (x : Variable) → is_in x xs ≡ true → xs ≡ met xs (variable x)
met_again xs x h = rw h refl

-- the positions with one more variable behind
position_more : (xs : List Variable) (x q : Variable) → is_in x xs ≡ false → position_in q (xs ++ x ∷ []) ≡ cond (same_variable x q) (Some (length xs)) (position_in q xs)
position_more xs x q h = of (same_variable x q) refl
  where
    member : is_in q (xs ++ x ∷ []) ≡ (is_in q xs || same_variable x q)
    member = is_in-append q xs (x ∷ []) ∙ ap (λ b. is_in q xs || b) (or_none (same_variable x q))

    old : same_variable x q ≡ false → (b : Bool) → is_in q xs ≡ b → cond (is_in q (xs ++ x ∷ [])) (Some (place q (xs ++ x ∷ []))) None ≡ cond b (Some (place q xs)) None
    old s true e = let m : is_in q (xs ++ x ∷ []) ≡ true = member ∙ rw e refl in rw m (ap Some (place-append q xs (x ∷ []) e))
    old s false e = let m : is_in q (xs ++ x ∷ []) ≡ false = member ∙ rw (e, s) refl in rw m refl

    of : (b : Bool) → same_variable x q ≡ b → position_in q (xs ++ x ∷ []) ≡ cond b (Some (length xs)) (position_in q xs)
    of true s =
        let k : x ≡ q = same_variable-is x q s in
        let m : is_in x (xs ++ x ∷ []) ≡ true = is_in-append x xs (x ∷ []) ∙ rw (h, same_variable-refl x) refl in
        ap (λ z. position_in z (xs ++ x ∷ [])) (sym k) ∙ rw m (ap Some (place-put x xs [] h))
    of false s = old s (is_in q xs) refl

pub table_met : (xs : List Variable) (k : Key) → is_in (variable_of k) xs ≡ false → (old new : Key → Option ℕ)
    → ((q : Key) → new q ≡ cond (same_key k q) (Some (length xs)) (old q)) → ((q : Key) → old q ≡ position_in (variable_of q) xs)
    → (q : Key) → new q ≡ position_in (variable_of q) (xs ++ variable_of k ∷ [])
table_met xs k h old new u o q = u q ∙ ap (λ z. cond (same_key k q) (Some (length xs)) z) (o q) ∙ sym (position_more xs (variable_of k) (variable_of q) h)

pub pointed_more : (xs : List (Bor Variable)) (x : Bor Variable) → pointed (xs ++ x ∷ []) ≡ pointed xs ++ x.now ∷ []
pointed_more xs x = map-append (λ x. x.now) xs (x ∷ [])

-- distinct variables, met one by one
pub met_next : (xs : List Variable) (i : ℕ) (x : Variable) → i < length xs → x ≡ get_or xs i x → AreDistinct xs → met (take i xs) (variable x) ≡ take (i + 1) xs
met_next xs i x h e d =
    rw (not_before (is_in x (take i xs)) refl) (sym (take_more xs i x h ∙ ap (λ y. take i xs ++ y ∷ []) (sym e)))
  where
    not_before : (b : Bool) → is_in x (take i xs) ≡ b → is_in x (take i xs) ≡ false
    not_before false k = k
    not_before true k =
        let a : place x xs ≡ place x (take i xs) = ap (place x) (sym (take-append-drop i xs)) ∙ place-append x (take i xs) (drop i xs) k in
        let w = place-within x (take i xs) k in
        let l = length-take-le i xs (omega (arith, h)) in
        let p = place_at xs i x d h e in absurd (omega (arith, a, w, l, p))
