-- Lists of terms, item by item.
use Rattle.std.proofs.Common.{◌≡◌, ◌∙◌, ℕ, zero, suc, ◌<◌, ◌≤◌, List, [], ◌∷◌, length, get_or, arith, ap, sym, refl}
use Rattle.mw_logic.specs.Term.{RawTerm}
use Rattle.mw_logic.specs.NormalForm.{height, highest}
use Rattle.mw_logic.specs.Terms.{terms_of, list_of}

-- no element is higher than the highest
pub element : (ts : List RawTerm) (i : ℕ) (d : RawTerm) → i < length ts → height (get_or ts i d) ≤ highest (terms_of ts)
element [] i d h = absurd (omega arith)
element (t ∷ ts) zero d h = omega arith
element (t ∷ ts) (suc i) d h = omega (arith, element ts i d (omega arith))

pub list_of-terms_of : (ts : List RawTerm) → list_of (terms_of ts) ≡ ts
list_of-terms_of [] = refl
list_of-terms_of (t ∷ ts) = ap (λ us. t ∷ us) (list_of-terms_of ts)

pub same_length : (xs ys : List RawTerm) → terms_of xs ≡ terms_of ys → length xs ≡ length ys
same_length xs ys e = ap length (sym (list_of-terms_of xs) ∙ ap list_of e ∙ list_of-terms_of ys)
