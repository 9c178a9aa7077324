-- Whether two terms without variables are one, by cases.
use Rattle.std.specs.Prelude.{◌==◌, ◌&&◌, Bool, true, false}
use Rattle.std.specs.Str.{bytes_eq}
use Rattle.mw_logic.specs.Term.{RawTerm, numeral, quoted, apply, RawTerms, nil, cons}

abbrev mutual
  pub same_term : RawTerm → RawTerm → Bool
  same_term (numeral m) (numeral n) = m == n
  same_term (quoted p) (quoted q) = bytes_eq p q
  same_term (apply f ts) (apply g us) = f == g && same_terms ts us
  same_term t u = false

  pub same_terms : RawTerms → RawTerms → Bool
  same_terms nil nil = true
  same_terms nil (cons u us) = false
  same_terms (cons t ts) nil = false
  same_terms (cons t ts) (cons u us) = same_term t u && same_terms ts us
