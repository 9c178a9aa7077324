-- What is made of terms as they are written, and in which order.
use Rattle.std.specs.Prelude.{ℕ, List, [], ◌∷◌, cond, nat_eq}
use denote.Ref.{Bor}
use Rattle.mw_logic.specs.Term.{RawTerm, numeral, quoted, variable, apply, RawTerms, nil, cons, join}
use Rattle.mw_logic.specs.Signature.{Signature}
use Rattle.mw_logic.specs.Parts.{nested, all_nested}
use Rattle.mw_logic.specs.NormalForm.{normal_form, normal_forms}
use Rattle.mw_logic.specs.Substitution.{Substitution, instance, instances}
use Rattle.mw_term.specs.declared.raw.Raw.{Raw}
use Rattle.mw_term.specs.Raws.{raw_term}
use Rattle.mw_canon.specs.Canonical.{meant}

-- the normal form of the instance that a written term means
abbrev pub made : Signature → Substitution → RawTerm → RawTerm
made sig s t = normal_form sig (instance (meant sig s) (nested sig t))

abbrev pub all_made : Signature → Substitution → RawTerms → RawTerms
all_made sig s ts = normal_forms sig (instances (meant sig s) (all_nested sig ts))

-- a term, or its arguments where f stands on top of it, and so on in these
abbrev mutual
  pub entered : ℕ → RawTerm → RawTerms
  entered f (numeral n) = cons (numeral n) nil
  entered f (quoted q) = cons (quoted q) nil
  entered f (variable x) = cons (variable x) nil
  entered f (apply g nil) = cons (apply g nil) nil
  entered f (apply g (cons t ts)) = cond (nat_eq f g) (join (entered f t) (all_entered f ts)) (cons (apply g (cons t ts)) nil)

  pub all_entered : ℕ → RawTerms → RawTerms
  all_entered f nil = nil
  all_entered f (cons t ts) = join (entered f t) (all_entered f ts)

-- what references to written terms see
abbrev pub seen_terms : List (Bor Raw) → RawTerms
seen_terms [] = nil
seen_terms (r ∷ rs) = cons (raw_term r.now) (seen_terms rs)
