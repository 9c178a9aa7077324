-- Values by position are those of a substitution's variables in order.
use Rattle.std.specs.Prelude.{◌≡◌, suc, List, [], ◌∷◌, length, map, Bool, true, false, ◌||◌, cond, Option, Some, unwrap_or, is_some, slice_get, refl}
use Rattle.std.specs.List.{zip}
use Rattle.std.proofs.Common.{sym, ap, ◌∙◌, arith}
use Rattle.std.proofs.lemmas.Bool.{both_ways}
use Rattle.std.proofs.lemmas.List.{length-map}
use Rattle.mw_logic.specs.Term.{Variable, RawTerm, variable}
use Rattle.mw_logic.specs.Signature.{Signature}
use Rattle.mw_logic.specs.Substitution.{Substitution, same_variable, value, is_bound, IsSubstitution}
use Rattle.mw_position.specs.Variables.{is_in, AreDistinct, place, bound_variables, bound_values}
use Rattle.mw_position.proofs.Meeting.{same_turned, neither}
use Rattle.mw_logic.proofs.SameConditions.{same_variable-is, same_variable-refl}

-- the values of variables in order
abbrev pub value_of : Substitution → Variable → RawTerm
value_of s x = unwrap_or (value s x) (variable x)

abbrev pub values_of : Substitution → List Variable → List RawTerm
values_of s xs = map (value_of s) xs

pub at_place : (s : Substitution) (xs : List Variable) (x : Variable) → is_in x xs ≡ true → slice_get (values_of s xs) (place x xs) ≡ Some (value_of s x)
at_place s [] x h = absurd (both_ways false refl h)
at_place s (y ∷ ys) x h = of (at_place s ys x) (same_variable y x) refl h
  where
    of : (is_in x ys ≡ true → slice_get (values_of s ys) (place x ys) ≡ Some (value_of s x)) → (b : Bool) → same_variable y x ≡ b → (b || is_in x ys) ≡ true
        → slice_get (value_of s y ∷ values_of s ys) (cond b 0 (suc (place x ys))) ≡ Some (value_of s x)
    of r true e h = ap (λ z. Some (value_of s z)) (same_variable-is y x e)
    of r false e h = r h

-- values in order, as a substitution
values_skip : (x : Variable) (v : RawTerm) (s : Substitution) (ys : List Variable) → is_in x ys ≡ false → values_of ((x, v) ∷ s) ys ≡ values_of s ys
values_skip x v s [] h = refl
values_skip x v s (y ∷ ys) h = let p = neither (same_variable y x) (is_in x ys) h in rw (same_turned y x p.0, values_skip x v s ys p.1) refl

pub values_zip : (xs : List Variable) (vs : List RawTerm) → AreDistinct xs → length vs ≡ length xs → values_of (zip xs vs) xs ≡ vs
values_zip [] [] d l = refl
values_zip [] (v ∷ vs) d l = absurd (omega (arith, l))
values_zip (x ∷ xs) [] d l = absurd (omega (arith, l))
values_zip (x ∷ xs) (v ∷ vs) d l = rw (same_variable-refl x, values_skip x v (zip xs vs) xs d.0, values_zip xs vs d.1 (omega (arith, l))) refl

pub bound_zip : (xs : List Variable) (vs : List RawTerm) (x : Variable) → length vs ≡ length xs → is_bound (zip xs vs) x ≡ is_in x xs
bound_zip [] vs x l = refl
bound_zip (y ∷ ys) [] x l = absurd (omega (arith, l))
bound_zip (y ∷ ys) (v ∷ vs) x l = of (bound_zip ys vs x (omega (arith, l))) (same_variable y x)
  where
    of : is_some (value (zip ys vs) x) ≡ is_in x ys → (b : Bool) → is_some (cond b (Some v) (value (zip ys vs) x)) ≡ (b || is_in x ys)
    of r true = refl
    of r false = r

-- a substitution's variables and values stand in the same order
pub is_bound_in : (s : Substitution) (x : Variable) → is_bound s x ≡ is_in x (bound_variables s)
is_bound_in [] x = refl
is_bound_in (b ∷ s) x = of (is_bound_in s x) (same_variable b.0 x)
  where
    of : is_some (value s x) ≡ is_in x (bound_variables s) → (c : Bool) → is_some (cond c (Some b.1) (value s x)) ≡ (c || is_in x (bound_variables s))
    of r true = refl
    of r false = r

pub same_length : (s : Substitution) → length (bound_values s) ≡ length (bound_variables s)
same_length s = length-map s (λ b. b.1) ∙ sym (length-map s (λ b. b.0))

pub distinct_variables : (sig : Signature) (s : Substitution) → IsSubstitution sig s → AreDistinct (bound_variables s)
distinct_variables sig [] h = tt
distinct_variables sig (b ∷ s) h = (sym (is_bound_in s b.0) ∙ h.0, distinct_variables sig s h.4)
