-- Lists that are gone through.
use Rattle.std.proofs.Common.{◌≡◌, ◌∙◌, ◌<◌, ◌+◌, ℕ, length, get_or, drop, drop-cons, add-one, List, [], ◌∷◌, ◌++◌, map, refl, sym, ap, append_assoc}
use Rattle.std.specs.Prelude.{Some, slice_get}
use Rattle.std.proofs.lemmas.Option.{slice_get-get_or}
use Rattle.mw_logic.specs.Term.{RawTerm, cons, binary}
use Rattle.mw_logic.specs.Signature.{Signature}
use Rattle.mw_logic.specs.Terms.{terms_of}
use Rattle.mw_logic.specs.NormalForm.{normal_form, normal_forms}
use Rattle.mw_term.specs.declared.raw.Raw.{Raw}
use Rattle.mw_term.specs.Raws.{raw_term, raw_terms}
use Rattle.mw_omod.specs.Objects.{joined_before}
use Rattle.mw_omod.specs.Seen.{forms_of}

pub map-append : {X Y : Type 0} (f : X → Y) (xs ys : List X) → map f (xs ++ ys) ≡ map f xs ++ map f ys
map-append f [] ys = refl
map-append f (x ∷ xs) ys = ap (λ zs. f x ∷ zs) (map-append f xs ys)

-- one more is done
pub moved : {X Y : Type 0} (f : X → Y) (done : List X) (x : X) (y : Y) (rest all : List Y) → f x ≡ y → map f done ++ y ∷ rest ≡ all → map f (done ++ x ∷ []) ++ rest ≡ all
moved f done x y rest all e h =
    ap (λ zs. zs ++ rest) (map-append f done (x ∷ []) ∙ ap (λ z. map f done ++ z ∷ []) e) ∙ append_assoc (map f done) (y ∷ []) rest ∙ h

-- terms that are the same one by one are the same arguments
pub same_terms : (ts us : List Raw) → map raw_term ts ≡ map raw_term us → raw_terms ts ≡ raw_terms us
same_terms [] [] e = refl
same_terms [] (u ∷ us) e = cc
same_terms (t ∷ ts) [] e = cc
same_terms (t ∷ ts) (u ∷ us) e = let a : raw_term t ≡ raw_term u = cc in let b : map raw_term ts ≡ map raw_term us = cc in ap (λ v. cons v (raw_terms ts)) a ∙ ap (cons (raw_term u)) (same_terms ts us b)

-- the canonical forms of terms
pub forms_told : (sig : Signature) (ts : List Raw) → terms_of (forms_of sig ts) ≡ normal_forms sig (raw_terms ts)
forms_told sig [] = refl
forms_told sig (t ∷ ts) = ap (cons (normal_form sig (raw_term t))) (forms_told sig ts)

-- terms without the last one, which is joined
joined_push : (f : ℕ) (ts : List RawTerm) (t u : RawTerm) → joined_before f (ts ++ t ∷ []) u ≡ joined_before f ts (binary f t u)
joined_push f [] t u = refl
joined_push f (x ∷ ts) t u = ap (binary f x) (joined_push f ts t u)

pub popped : (f : ℕ) (ts us : List Raw) (t : Raw) (u : RawTerm) → ts ≡ us ++ t ∷ [] → joined_before f (map raw_term ts) u ≡ joined_before f (map raw_term us) (binary f (raw_term t) u)
popped f ts us t u e = ap (λ xs. joined_before f xs u) (ap (map raw_term) e ∙ map-append raw_term us (t ∷ [])) ∙ joined_push f (map raw_term us) (raw_term t) u

pub drop_at : {A : Type 0} (xs : List A) (i : ℕ) (x : A) → i < length xs → x ≡ get_or xs i x → drop i xs ≡ x ∷ drop (i + 1) xs
drop_at xs i x h e = drop-cons xs i x h ∙ rw (← e, add-one) refl

pub got : {A : Type 0} (xs : List A) (k : ℕ) (x : A) → k < length xs → x ≡ get_or xs k x → slice_get xs k ≡ Some x
got xs k x h e = slice_get-get_or xs k x h ∙ ap Some (sym e)
