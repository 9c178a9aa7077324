-- What calls answer, as the definitions say it.
use Rattle.std.specs.Prelude.{◌≡◌, ◌+◌, ◌-◌, ◌≤◌, ℕ, zero, suc, List, [], ◌∷◌, ◌++◌, take, drop, length, get_or, reverse, true, Some, None, option_map, unwrap_or, IfOk, OnOk}
use Rattle.std.specs.Prelude.{Result, Ok, Err}
use Rattle.std.proofs.Common.{ap, sym, subst, ◌∙◌, arith}
use Rattle.std.proofs.lemmas.Bool.{and_from, eq-eqb}
use Rattle.std.proofs.lemmas.List.{take_more, reverse-append}
use Rattle.std.proofs.Math.Seq.{take-length}
use Rattle.mw_logic.specs.Term.{RawTerm, apply}
use Rattle.mw_logic.specs.Terms.{terms_of, list_of, args_of}
use Rattle.mw_logic.specs.Signature.{Signature, at_number}
use Rattle.mw_logic.specs.Parts.{is_assoc}
use Rattle.mw_logic.specs.NormalForm.{applied_in}
use Rattle.mw_term.proofs.Terms.{list_of-terms_of}
use Rattle.mw_deduction.specs.Standing.{Open, filled}
use Rattle.mw_spot.specs.Spots.{number_of, stands_on, is_spread}
use Rattle.mw_spot.specs.Walks.{level_of}
use Rattle.mw_spot.proofs.Levels.{with_one}

pub if_ok : {T E : Type 0} (r : Result T E) (P Q : T → Type 0) → ((t : T) → P t → Q t) → IfOk r P → IfOk r Q
if_ok (Ok t) P Q w h = w t h
if_ok (Err e) P Q w h = tt

pub on_ok : {T E : Type 0} (r : Result T E) (P Q : Type 0) → (P → Q) → OnOk r P → OnOk r Q
on_ok (Ok t) P Q w h = w h
on_ok (Err e) P Q w h = tt

-- the last of a list
pub last_first : {A : Type 0} (xs : List A) (x : A) → 1 ≤ length xs → x ≡ get_or xs (length xs - 1) x → reverse xs ≡ x ∷ reverse (take (length xs - 1) xs)
last_first xs x l e =
    let n : ℕ = length xs - 1 in
    let z : n + 1 ≡ length xs = omega (arith, l) in
    let w : xs ≡ take n xs ++ (x ∷ []) = sym (ap (λ m. take m xs) z ∙ take-length xs) ∙ take_more xs n x (omega (arith, l)) ∙ ap (λ y. take n xs ++ (y ∷ [])) (sym e) in
    ap reverse w ∙ reverse-append (take n xs) (x ∷ [])

-- one more behind
pub pushed_first : {A : Type 0} (xs ys : List A) (x : A) → ys ≡ xs ++ (x ∷ []) → reverse ys ≡ x ∷ reverse xs
pushed_first xs ys x e = ap reverse e ∙ reverse-append xs (x ∷ [])

-- a level's operator with a term in the hole
pub filled_is : (sig : Signature) (f at : ℕ) (xs ys : List RawTerm) (t : RawTerm) (o : Open) → level_of f at xs ≡ o → ys ≡ take at xs ++ (t ∷ drop at xs) → applied_in sig f (terms_of ys) ≡ filled sig o t
filled_is sig f at xs ys t o e w = subst (λ o. applied_in sig f (terms_of ys) ≡ filled sig o t) e (ap (λ zs. applied_in sig f (terms_of zs)) w ∙ ap (applied_in sig f) (with_one at xs t))

-- one of the terms has a number among them, or none has it
pub number_found : (at : RawTerm → ℕ) (ts : List RawTerm) (j p : ℕ) (t : RawTerm) → at_number ts j ≡ Some t → p ≡ at t → p + (j - 1 + 1) ≡ number_of at (terms_of ts) j
number_found at ts zero p t e q = cc
number_found at ts (suc j) p t e q =
    let z : suc j - 1 + 1 ≡ suc j = omega arith in
    ap (λ n. p + n) z ∙ ap (λ p. p + suc j) q ∙ sym (ap (λ us. unwrap_or (option_map (λ e. at e + suc j) (at_number us (suc j))) (suc j)) (list_of-terms_of ts) ∙ ap (λ x. unwrap_or (option_map (λ e. at e + suc j) x) (suc j)) e)

pub number_missing : (at : RawTerm → ℕ) (ts : List RawTerm) (j : ℕ) → at_number ts j ≡ None → j ≡ number_of at (terms_of ts) j
number_missing at ts j e = sym (ap (λ us. unwrap_or (option_map (λ e. at e + j) (at_number us j)) j) (list_of-terms_of ts) ∙ ap (λ x. unwrap_or (option_map (λ e. at e + j) x) j) e)

-- a term that comes as its arguments
pub spread_is : (sig : Signature) (o : Open) (t : RawTerm) (f : ℕ) (args : List RawTerm) → is_assoc sig o.operator ≡ true → f ≡ o.operator → t ≡ apply f (terms_of args) → 1 ≤ length args
    → (is_spread sig o t ≡ true) × (terms_of args ≡ args_of t)
spread_is sig o t f [] h e q l = absurd (omega (arith, l))
spread_is sig o t f (a ∷ args) h e q l =
    let s : stands_on o.operator (apply f (terms_of (a ∷ args))) ≡ true = eq-eqb o.operator f (sym e) in
    (ap (is_spread sig o) q ∙ and_from (is_assoc sig o.operator) (stands_on o.operator (apply f (terms_of (a ∷ args)))) h s, sym (ap args_of q))

-- lists are the same as lists of terms
pub same_list : (xs ys : List RawTerm) → terms_of xs ≡ terms_of ys → xs ≡ ys
same_list xs ys e = sym (list_of-terms_of xs) ∙ ap list_of e ∙ list_of-terms_of ys
