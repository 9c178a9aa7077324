-- What the test of two terms says.
use Rattle.std.proofs.Common.{◌≡◌, ◌<◌, List, [], ◌∷◌, length, true, ◌==◌, refl, ap, arith}
use Rattle.std.proofs.lemmas.Bool.{and_parts, and_from, eqb-true, eq-eqb, ne_eqb}
use Rattle.std.proofs.lemmas.Slice.Eq.{bytes_eq-Decides}
use Rattle.mw_logic.specs.Term.{RawTerm, numeral, quoted, variable, apply, RawTerms, nil, cons}
use Rattle.mw_logic.specs.Terms.{terms_of}
use Rattle.mw_term.specs.declared.raw.Raw.{Raw}
use Rattle.mw_term.specs.Raws.{raw_terms}
use Rattle.mw_print.specs.PrefixLaws.{IsTold, AreTold}
use Rattle.mw_proofread.specs.Same.{same_term, same_terms}

mutual
  pub same_one : (t u : RawTerm) → same_term t u ≡ true → t ≡ u
  same_one (numeral m) (numeral n) h = ap numeral (eqb-true m n h)
  same_one (numeral m) (quoted q) h = cc
  same_one (numeral m) (variable x) h = cc
  same_one (numeral m) (apply g us) h = cc
  same_one (quoted p) (numeral n) h = cc
  same_one (quoted p) (quoted q) h = ap quoted ((bytes_eq-Decides p q).0 h)
  same_one (quoted p) (variable x) h = cc
  same_one (quoted p) (apply g us) h = cc
  same_one (variable x) (numeral n) h = cc
  same_one (variable x) (quoted q) h = cc
  same_one (variable x) (variable y) h = cc
  same_one (variable x) (apply g us) h = cc
  same_one (apply f ts) (numeral n) h = cc
  same_one (apply f ts) (quoted q) h = cc
  same_one (apply f ts) (variable x) h = cc
  same_one (apply f ts) (apply g us) h =
      let p = and_parts (f == g) (same_terms ts us) h in
      let i : f ≡ g = eqb-true f g p.0 in
      let j : ts ≡ us = same_all ts us p.1 in
      cc

  same_all : (ts us : RawTerms) → same_terms ts us ≡ true → ts ≡ us
  same_all nil nil h = refl
  same_all nil (cons u us) h = cc
  same_all (cons t ts) nil h = cc
  same_all (cons t ts) (cons u us) h =
      let p = and_parts (same_term t u) (same_terms ts us) h in
      let i : t ≡ u = same_one t u p.0 in
      let j : ts ≡ us = same_all ts us p.1 in
      cc

mutual
  pub told_same : (t : RawTerm) → IsTold t → same_term t t ≡ true
  told_same (numeral n) h = eq-eqb n n refl
  told_same (quoted q) h = (bytes_eq-Decides q q).1 refl
  told_same (variable x) h = absurd h
  told_same (apply f ts) h = and_from (f == f) (same_terms ts ts) (eq-eqb f f refl) (all_same ts h.1)

  all_same : (ts : RawTerms) → AreTold ts → same_terms ts ts ≡ true
  all_same nil h = refl
  all_same (cons t ts) h = and_from (same_term t t) (same_terms ts ts) (told_same t h.0) (all_same ts h.1)

-- where no term is left on one side
pub same_end : (rs : List Raw) (ts : List RawTerm) → length rs < 1 → (length ts == 0) ≡ same_terms (raw_terms rs) (terms_of ts)
same_end [] [] h = refl
same_end [] (t ∷ ts) h = ne_eqb (length (t ∷ ts)) 0 (λ e. absurd (omega (arith, e)))
same_end (r ∷ rs) ts h = absurd (omega (arith, h))
