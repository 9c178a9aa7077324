-- Operators without axioms, and the values of patterns that are compared.
use Rattle.std.specs.Prelude.{◌≡◌, ◌<◌, ℕ, List, Bool, false, Some, slice_get, refl}
use Rattle.std.proofs.Common.{subst, arith, ⊎_elim}
use Rattle.std.proofs.lemmas.Bool.{cases_order}
use Rattle.mw_logic.specs.Term.{RawTerm, numeral, quoted, variable, apply, RawTerms, nil, cons}
use Rattle.mw_logic.specs.Kinds.{is_successor}
use Rattle.mw_logic.specs.Signature.{Signature}
use Rattle.mw_logic.specs.NormalForm.{counted as counted_up, applied_in}
use Rattle.mw_logic.proofs.Canonical.{IsCanonical, AreCanonical}
use Rattle.mw_position.specs.Positions.{IsNumbered, AreNumbered, counted, counted_all}
use Rattle.mw_canon.specs.Axioms.{HasAxioms}
use Rattle.mw_canon.specs.declared.axioms.Axioms.TheVariants.{Plain}
use Rattle.mw_matching.specs.Matches.{evaluated, evaluated_all}
use Rattle.mw_match.specs.Straight.{IsStraight, AreStraight}
use Rattle.mw_match.proofs.Straight.{straight_applied}

pub uncounted : (f : ℕ) (ts : RawTerms) → counted_up false f ts ≡ apply f ts
uncounted f nil = refl
uncounted f (cons (numeral n) nil) = refl
uncounted f (cons (quoted q) nil) = refl
uncounted f (cons (variable x) nil) = refl
uncounted f (cons (apply g us) nil) = refl
uncounted f (cons t (cons u us)) = refl

module _ (sig : Signature) where
  pub plain_applied : (f : ℕ) (ts : RawTerms) → HasAxioms sig f Plain → applied_in sig f ts ≡ apply f ts
  plain_applied f ts (a, c, s) = rw (a, c, s) (uncounted f ts)

  -- a numeral is canonical, and so is the one before
  counted_arguments : (s : Bool) (f : ℕ) (ts : RawTerms) → IsCanonical sig (counted_up s f ts) → AreCanonical sig ts
  counted_arguments s f nil h = tt
  counted_arguments s f (cons (numeral n) nil) h = (tt, tt)
  counted_arguments s f (cons (quoted q) nil) h = (tt, tt)
  counted_arguments s f (cons (variable x) nil) h = (tt, tt)
  counted_arguments s f (cons (apply g us) nil) h = h.0
  counted_arguments s f (cons t (cons u us)) h = h.0

  abbrev AreCanonicalTo : List RawTerm → ℕ → Type 0
  AreCanonicalTo vs n = (i : ℕ) → i < n → (v : RawTerm) → slice_get vs i ≡ Some v → IsCanonical sig v

  -- the values that make a canonical instance are canonical
  mutual
    values_canonical : (vs : List RawTerm) (n : ℕ) (p : RawTerm) → IsStraight sig p → IsNumbered n p → IsCanonical sig (evaluated sig vs p) → AreCanonicalTo vs n → AreCanonicalTo vs (counted n p)
    values_canonical vs n (numeral m) s a h b = b
    values_canonical vs n (quoted q) s a h b = b
    values_canonical vs n (variable x) s a h b = λ i l v k.
        let last : (i ≡ x.sort) → IsCanonical sig v = λ e. let k' : slice_get vs x.sort ≡ Some v = rw (← e) k in rw k' at h in
        ⊎_elim (λ (e : i ≡ n). last (omega (arith, a, l, e))) (λ o. ⊎_elim (λ (d : i < n). b i d v k) (λ (d : n < i). last (omega (arith, a, l, d))) o) (cases_order i n)
    values_canonical vs n (apply f ps) s a h b =
        all_values_canonical vs n ps s.2 a (counted_arguments (is_successor sig f) f (evaluated_all sig vs ps) (subst (IsCanonical sig) (straight_applied sig f (evaluated_all sig vs ps) s.0 s.1) h)) b

    all_values_canonical : (vs : List RawTerm) (n : ℕ) (ps : RawTerms) → AreStraight sig ps → AreNumbered n ps → AreCanonical sig (evaluated_all sig vs ps) → AreCanonicalTo vs n → AreCanonicalTo vs (counted_all n ps)
    all_values_canonical vs n nil s a h b = b
    all_values_canonical vs n (cons p ps) s a h b = all_values_canonical vs (counted n p) ps s.1 a.1 h.1 (values_canonical vs n p s.0 a.0 h.0 b)

  pub values_each : (vs : List RawTerm) (ps : RawTerms) → AreStraight sig ps → AreNumbered 0 ps → AreCanonical sig (evaluated_all sig vs ps) → AreCanonicalTo vs (counted_all 0 ps)
  values_each vs ps s a h = all_values_canonical vs 0 ps s a h (λ i l. absurd (omega (arith, l)))
