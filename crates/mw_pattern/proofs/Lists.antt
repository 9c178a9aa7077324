-- Lists item by item.
use Rattle.std.specs.Prelude.{Some, slice_get, take}
use Rattle.std.proofs.Common.{◌≡◌, ℕ, zero, suc, ◌+◌, ◌<◌, ◌≤◌, List, [], ◌∷◌, ◌++◌, length, get_or, drop, ap, sym, ◌∙◌, refl, arith, drop-cons, add-one}
use Rattle.std.proofs.lemmas.List.{take_more, map-append}
use Rattle.std.proofs.lemmas.Option.{same_Some, slice_get-get_or}
use Rattle.mw_logic.specs.Term.{Variable}
use Rattle.mw_logic.specs.NormalForm.{height, highest}
use Rattle.mw_position.specs.Variables.{sorts_of}
use Rattle.mw_term.specs.Raws.{raw_term, raw_terms}
use Rattle.mw_term.specs.declared.raw.Raw.{Raw}

pub drop_at : {A : Type 0} (xs : List A) (i : ℕ) (x : A) → i < length xs → x ≡ get_or xs i x → drop i xs ≡ x ∷ drop (i + 1) xs
drop_at xs i x h e = drop-cons xs i x h ∙ rw (← e, add-one) refl

-- no argument is higher than the highest
pub raw_element : (ts : List Raw) (i : ℕ) (r : Raw) → i < length ts → r ≡ get_or ts i r → height (raw_term r) ≤ highest (raw_terms ts)
raw_element [] i r h e = absurd (omega (arith, h))
raw_element (t ∷ ts) zero r h e = let k : height (raw_term r) ≡ height (raw_term t) = ap (λ x. height (raw_term x)) e in omega (arith, k)
raw_element (t ∷ ts) (suc i) r h e = let k = raw_element ts i r (omega (arith, h)) e in omega (arith, k)

pub got : {A : Type 0} (xs : List A) (k : ℕ) (x : A) → k < length xs → x ≡ get_or xs k x → slice_get xs k ≡ Some x
got xs k x h e = slice_get-get_or xs k x h ∙ ap Some (sym e)

-- a variable more, and its sort
pub sorts_more : (xs : List Variable) (i : ℕ) (x : Variable) (old new : List ℕ) → i < length xs → slice_get xs i ≡ Some x → new ≡ old ++ x.sort ∷ [] → old ≡ sorts_of (take i xs) → new ≡ sorts_of (take (i + 1) xs)
sorts_more xs i x old new h e n o =
    let same : get_or xs i x ≡ x = same_Some _ _ (sym (slice_get-get_or xs i x h) ∙ e) in
    let t : take (i + 1) xs ≡ take i xs ++ x ∷ [] = take_more xs i x h ∙ ap (λ y. take i xs ++ y ∷ []) same in
    n ∙ ap (λ l. l ++ x.sort ∷ []) o ∙ sym (map-append (λ (y : Variable). y.sort) (take i xs) (x ∷ [])) ∙ ap sorts_of (sym t)
