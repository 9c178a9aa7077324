-- The instance by canonical values is the normal form of the instance by what they mean.
use Rattle.std.specs.Prelude.{◌≡◌, true, ℕ, List, map, Bool, false, Option, Some, None, slice_get, unwrap_or, option_map, refl}
use Rattle.std.proofs.Common.{ap, ◌∙◌}
use Rattle.std.proofs.lemmas.Option.{slice_get-map}
use Rattle.mw_logic.specs.Term.{RawTerm, numeral, quoted, variable, apply, RawTerms, nil, cons}
use Rattle.mw_logic.specs.Signature.{Signature}
use Rattle.mw_logic.specs.Accepted.{IsAccepted}
use Rattle.mw_logic.specs.Parts.{is_assoc, nested, all_nested, nest, chain}
use Rattle.mw_logic.specs.NormalForm.{applied_in, normal_form, normal_forms}
use Rattle.mw_logic.proofs.Canonical.{IsCanonical}
use Rattle.mw_logic.proofs.CanonicalTerms.{fixed, normal_form-chain}
use Rattle.mw_position.specs.Positions.{fill, fill_all}
use Rattle.mw_matching.specs.Matches.{evaluated, evaluated_all}

module _ (sig : Signature) (ok : IsAccepted sig) where
  -- what the values mean
  fill_chain : (vs : List RawTerm) (f : ℕ) (t : RawTerm) (ts : RawTerms) → fill vs (chain f t ts) ≡ chain f (fill vs t) (fill_all vs ts)
  fill_chain vs f t nil = refl
  fill_chain vs f t (cons u us) = ap (λ w. apply f (cons (fill vs t) (cons w nil))) (fill_chain vs f u us)

  module _ (us : List RawTerm) (good : (i : ℕ) (u : RawTerm) → slice_get us i ≡ Some u → IsCanonical sig u) where
    abbrev meant : List RawTerm
    meant = map (nested sig) us

    get_meant : (i : ℕ) (o : Option RawTerm) → slice_get us i ≡ o → slice_get meant i ≡ option_map (nested sig) o
    get_meant i o e = slice_get-map (nested sig) us i ∙ ap (option_map (nested sig)) e

    mutual
      pub evaluated_is : (p : RawTerm) → normal_form sig (fill meant (nested sig p)) ≡ evaluated sig us p
      evaluated_is (numeral n) = refl
      evaluated_is (quoted q) = refl
      evaluated_is (variable x) = of (slice_get us x.sort) refl
        where
          of : (o : Option RawTerm) → slice_get us x.sort ≡ o → normal_form sig (unwrap_or (slice_get meant x.sort) (variable x)) ≡ unwrap_or (slice_get us x.sort) (variable x)
          of None e = rw (get_meant x.sort None e, e) refl
          of (Some u) e = rw (get_meant x.sort (Some u) e, e) (fixed sig ok u (good x.sort u e))
      evaluated_is (apply f ts) = by_assoc (all_evaluated_are ts) (is_assoc sig f) refl
        where
          by_assoc : normal_forms sig (fill_all meant (all_nested sig ts)) ≡ evaluated_all sig us ts → (b : Bool) → is_assoc sig f ≡ b → normal_form sig (fill meant (nest b f (all_nested sig ts))) ≡ applied_in sig f (evaluated_all sig us ts)
          by_assoc r false h = ap (applied_in sig f) r
          by_assoc r true h = by_list ts r
            where
              by_list : (ts : RawTerms) → normal_forms sig (fill_all meant (all_nested sig ts)) ≡ evaluated_all sig us ts → normal_form sig (fill meant (nest true f (all_nested sig ts))) ≡ applied_in sig f (evaluated_all sig us ts)
              by_list nil r = refl
              by_list (cons t ts) r = ap (normal_form sig) (fill_chain meant f (nested sig t) (all_nested sig ts)) ∙ normal_form-chain sig ok f h (fill meant (nested sig t)) (fill_all meant (all_nested sig ts)) ∙ ap (applied_in sig f) r

      all_evaluated_are : (ps : RawTerms) → normal_forms sig (fill_all meant (all_nested sig ps)) ≡ evaluated_all sig us ps
      all_evaluated_are nil = refl
      all_evaluated_are (cons p ps) = rw (evaluated_is p, all_evaluated_are ps) refl
