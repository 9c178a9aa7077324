-- Lists of terms as they are written, item by item.
use Rattle.std.proofs.Common.{◌≡◌, ◌∙◌, ℕ, zero, suc, ◌+◌, ◌<◌, ◌≤◌, List, [], ◌∷◌, length, get_or, drop, arith, ap, refl, add-one, drop-cons, drop_of_length-le}
use Rattle.mw_logic.specs.Term.{nil, cons}
use Rattle.mw_logic.specs.NormalForm.{height, highest}
use Rattle.mw_term.specs.declared.raw.Raw.{Raw}
use Rattle.mw_term.specs.Raws.{raw_term, raw_terms}

-- no element is higher than the highest
pub raw_element : (rs : List Raw) (i : ℕ) (d : Raw) → i < length rs → height (raw_term (get_or rs i d)) ≤ highest (raw_terms rs)
raw_element [] i d h = absurd (omega arith)
raw_element (r ∷ rs) zero d h = omega arith
raw_element (r ∷ rs) (suc i) d h = omega (arith, raw_element rs i d (omega arith))

-- the element of a number, and those behind it
pub raws_at : (rs : List Raw) (i : ℕ) (r : Raw) → i < length rs → r ≡ get_or rs i r → raw_terms (drop i rs) ≡ cons (raw_term r) (raw_terms (drop (i + 1) rs))
raws_at rs i r h e = ap raw_terms (drop-cons rs i r h) ∙ rw (← e, add-one) refl

pub raws_past : (rs : List Raw) (i : ℕ) → length rs ≤ i → raw_terms (drop i rs) ≡ nil
raws_past rs i h = ap raw_terms (drop_of_length-le rs h)
