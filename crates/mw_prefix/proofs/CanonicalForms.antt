-- Canonical terms have forms.
use Rattle.std.specs.Prelude.{◌≡◌, ◌≤◌, ℕ, List, Bool, true, false, refl}
use Rattle.std.proofs.Common.{ap, sym, subst, ◌∙◌, arith}
use Rattle.std.proofs.lemmas.Bool.{both_ways}
use Rattle.mw_logic.specs.Term.{RawTerm, numeral, quoted, variable, apply, RawTerms, nil, cons}
use Rattle.mw_logic.specs.Signature.{Signature, IsRawTerm, an_operator, AreRawTerms, end, next, of_operator, same}
use Rattle.mw_logic.specs.Accepted.{IsAccepted}
use Rattle.mw_logic.specs.Parts.{is_assoc, nested, all_nested, number_of_terms}
use Rattle.mw_logic.specs.NormalForm.{height, is_comm, identity_of, flattened, applied_in}
use Rattle.mw_logic.proofs.Canonical.{IsCanonical, AreCanonical, Each, assoc_operator, flattened-elements, arranged-one, no_arguments, canonical}
use Rattle.mw_logic.proofs.RawArguments.{IsTermOf}
use Rattle.mw_print.proofs.CanonicalTold.{canonical_told}
use Rattle.mw_print.proofs.PrefixOpen.{prefix_shallow}
use Rattle.mw_prefix.specs.Forms.{HasSeveral, HaveSeveral, CanonicalHasForm}
use Rattle.mw_prefix.proofs.Fitting.{AreRaw, raw_chain, nested_chain, nested_plain}

-- a term isn't its own argument
not_inside : (f : ℕ) (t : RawTerm) → t ≡ apply f (cons t nil) → ⊥
not_inside f t e = let h = ap height e in omega (arith, h)

module _ (sig : Signature) (ok : IsAccepted sig) where
  -- an associative operator that stands on one argument is that argument
  not_single : (f : ℕ) (t : RawTerm) → is_assoc sig f ≡ true → IsCanonical sig (apply f (cons t nil)) → ⊥
  not_single f t e k =
      let flat : flattened (identity_of sig f) f (cons t nil) ≡ cons t nil = flattened-elements (identity_of sig f) f (cons t nil) (k.2 e) in
      let made : applied_in sig f (cons t nil) ≡ t = rw (e, flat, arranged-one (is_comm sig f) t) refl in
      not_inside f t (sym made ∙ k.1)

  several : (f : ℕ) (ts : RawTerms) → IsCanonical sig (apply f ts) → IsRawTerm sig (nested sig (apply f ts)) → is_assoc sig f ≡ true → 2 ≤ number_of_terms ts
  several f nil k r e = let n : nested sig (apply f nil) ≡ apply f nil = rw e refl in absurd (both_ways _ (no_arguments sig ok f (subst (IsRawTerm sig) n r)) e)
  several f (cons t nil) k r e = absurd (not_single f t e k)
  several f (cons t (cons u us)) k r e = omega arith

  -- the arguments of raw terms are raw
  args_raw : (Ks : List ℕ) (ts : RawTerms) → AreRawTerms sig (all_nested sig ts) Ks → AreRaw sig ok ts
  args_raw Ks nil end = tt
  args_raw Ks (cons t ts) (next {Ks = Ls} r k rest) = (r, args_raw Ls ts rest)

  plain_raw : (f : ℕ) (ts : RawTerms) → IsRawTerm sig (apply f (all_nested sig ts)) → AreRaw sig ok ts
  plain_raw f ts (an_operator o is args) = args_raw o.args ts args

  each_raw : (K : ℕ) (ts : RawTerms) → Each (IsTermOf sig K) ts → AreRaw sig ok ts
  each_raw K nil g = tt
  each_raw K (cons t ts) g = (g.0.0, each_raw K ts g.1)

  chained_raw : (f : ℕ) (ts : RawTerms) → is_assoc sig f ≡ true → 2 ≤ number_of_terms ts → IsRawTerm sig (nested sig (apply f ts)) → AreRaw sig ok ts
  chained_raw f nil e n r = tt
  chained_raw f (cons t nil) e n r = absurd (omega (arith, n))
  chained_raw f (cons t (cons u us)) e n r =
      let (o, is, a) = assoc_operator sig f e in
      each_raw o.result (cons t (cons u us)) (raw_chain sig ok f o is a t (cons u us) (subst (IsRawTerm sig) (nested_chain sig ok f o is a t u us) r, of_operator o is same))

  arguments_raw : (f : ℕ) (ts : RawTerms) → (is_assoc sig f ≡ true → 2 ≤ number_of_terms ts) → IsRawTerm sig (nested sig (apply f ts)) → AreRaw sig ok ts
  arguments_raw f ts s r = of (is_assoc sig f) refl
    where
      of : (b : Bool) → is_assoc sig f ≡ b → AreRaw sig ok ts
      of true e = chained_raw f ts e (s e) r
      of false e = plain_raw f ts (subst (IsRawTerm sig) (nested_plain sig ok f ts e) r)

  mutual
    canonical_several : (t : RawTerm) → IsCanonical sig t → IsRawTerm sig (nested sig t) → HasSeveral sig t
    canonical_several (numeral n) k r = tt
    canonical_several (quoted q) k r = tt
    canonical_several (variable x) k r = tt
    canonical_several (apply f ts) k r = let s = several f ts k r in (s, all_several ts k.0 (arguments_raw f ts s r))

    all_several : (ts : RawTerms) → AreCanonical sig ts → AreRaw sig ok ts → HaveSeveral sig ts
    all_several nil k r = tt
    all_several (cons t ts) k r = (canonical_several t k.0 r.0, all_several ts k.1 r.1)

pub canonical_form : CanonicalHasForm
canonical_form sig t ok few raw fixed ground identifiers low =
    let told = canonical_told sig t few raw ground identifiers in
    let open_in = prefix_shallow sig t told in record {
      form = refl;
      told = told;
      raw = raw;
      several = canonical_several sig ok t (subst (IsCanonical sig) fixed (canonical sig ok (nested sig t))) raw;
      shallow = omega (arith, open_in, low);
    }
