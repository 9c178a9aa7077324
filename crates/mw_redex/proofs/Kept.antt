-- A canonical term with a canonical term at a place is canonical.
use Rattle.std.specs.Prelude.{◌≡◌, ℕ, zero, suc, List, [], ◌∷◌, Bool, true, false, cond, nat_eq, Option, Some, None, option_map, unwrap_or, slice_get, refl}
use Rattle.std.proofs.Common.{subst}
use Rattle.mw_logic.specs.Term.{RawTerm, numeral, quoted, variable, apply, RawTerms, nil, cons}
use Rattle.mw_logic.specs.Terms.{list_of}
use Rattle.mw_logic.specs.Signature.{Signature}
use Rattle.mw_logic.specs.Accepted.{IsAccepted}
use Rattle.mw_logic.specs.Parts.{nested}
use Rattle.mw_logic.specs.NormalForm.{normal_form}
use Rattle.mw_logic.proofs.Canonical.{Each, IsCanonical, AreCanonical, each_canonical, all_canonical, applied_canonical, canonical}
use Rattle.mw_logic.proofs.CanonicalTerms.{fixed}
use Rattle.mw_arguments.specs.Places.{others}
use Rattle.mw_canon.specs.Canonical.{IsAdmittedTerm}
use Rattle.mw_redex.specs.Replaced.{exchanged, put_in, replaced_here, replaced_at}

others_each : (P : RawTerm → Type 0) (i : ℕ) (ks : List ℕ) (ts : RawTerms) → Each P ts → Each P (others i ks ts)
others_each P i [] ts h = h
others_each P i (k ∷ ks) nil h = tt
others_each P i (k ∷ ks) (cons t ts) h = by_test (nat_eq i k) (others_each P (suc i) ks ts h.1) (others_each P (suc i) (k ∷ ks) ts h.1)
  where
    by_test : (b : Bool) → Each P (others (suc i) ks ts) → Each P (others (suc i) (k ∷ ks) ts) → Each P (cond b (others (suc i) ks ts) (cons t (others (suc i) (k ∷ ks) ts)))
    by_test true r s = r
    by_test false r s = (h.0, s)

exchanged_each : (P : RawTerm → Type 0) (i k : ℕ) (ks : List ℕ) (x : RawTerm) (ts : RawTerms) → P x → Each P ts → Each P (exchanged i k ks x ts)
exchanged_each P i k ks x nil p h = (p, tt)
exchanged_each P i k ks x (cons t ts) p h = by_test (nat_eq i k) (exchanged_each P (suc i) k ks x ts p h.1)
  where
    by_test : (b : Bool) → Each P (exchanged (suc i) k ks x ts) → Each P (cond b (cons x (others (suc i) ks ts)) (cons t (exchanged (suc i) k ks x ts)))
    by_test true r = (p, others_each P (suc i) ks ts h.1)
    by_test false r = (h.0, r)

module _ (sig : Signature) (ok : IsAccepted sig) where
  argument_canonical : (ts : RawTerms) (k : ℕ) (u : RawTerm) → AreCanonical sig ts → slice_get (list_of ts) k ≡ Some u → IsCanonical sig u
  argument_canonical nil k u h e = cc
  argument_canonical (cons t ts) zero u h e = let w : t ≡ u = cc in subst (IsCanonical sig) w h.0
  argument_canonical (cons t ts) (suc k) u h e = argument_canonical ts k u h.1 e

  put_canonical : (k : ℕ) (ks : List ℕ) (x v : RawTerm) → IsCanonical sig x → IsCanonical sig v → IsCanonical sig (put_in sig k ks x v)
  put_canonical k ks x (numeral n) p q = p
  put_canonical k ks x (quoted n) p q = p
  put_canonical k ks x (variable n) p q = p
  put_canonical k ks x (apply f ts) p q = applied_canonical sig ok f (exchanged 1 k ks x ts) (all_canonical sig (exchanged 1 k ks x ts) (exchanged_each (IsCanonical sig) 1 k ks x ts p (each_canonical sig ts q.0)))

  here_canonical : (take : Option (List ℕ)) (x v : RawTerm) → IsCanonical sig x → IsCanonical sig v → IsCanonical sig (replaced_here sig take x v)
  here_canonical None x v p q = p
  here_canonical (Some []) x v p q = p
  here_canonical (Some (k ∷ ks)) x v p q = put_canonical k ks x v p q

  at_canonical : (path : List ℕ) (take : Option (List ℕ)) (x v : RawTerm) → IsCanonical sig x → IsCanonical sig v → IsCanonical sig (replaced_at sig path take x v)
  at_canonical [] take x v p q = here_canonical take x v p q
  at_canonical (zero ∷ path) take x v p q = q
  at_canonical (suc k ∷ path) take x (numeral n) p q = q
  at_canonical (suc k ∷ path) take x (quoted n) p q = q
  at_canonical (suc k ∷ path) take x (variable n) p q = q
  at_canonical (suc k ∷ path) take x (apply f ts) p q = by_option (λ u. at_canonical path take x u p) (slice_get (list_of ts) k) (λ u e. argument_canonical ts k u q.0 e)
    where
      by_option : ((u : RawTerm) → IsCanonical sig u → IsCanonical sig (replaced_at sig path take x u)) → (o : Option RawTerm) → ((u : RawTerm) → o ≡ Some u → IsCanonical sig u)
          → IsCanonical sig (unwrap_or (option_map (λ u. put_in sig (suc k) [] (replaced_at sig path take x u) (apply f ts)) o) (apply f ts))
      by_option r None h = q
      by_option r (Some u) h = put_canonical (suc k) [] (replaced_at sig path take x u) (apply f ts) (r u (h u refl)) q

  pub replaced_canonical : (path : List ℕ) (take : Option (List ℕ)) (x v : RawTerm) → IsAdmittedTerm sig x → IsAdmittedTerm sig v → normal_form sig (nested sig (replaced_at sig path take x v)) ≡ replaced_at sig path take x v
  replaced_canonical path take x v p q = fixed sig ok (replaced_at sig path take x v) (at_canonical path take x v (of x p) (of v q))
    where
      of : (t : RawTerm) → IsAdmittedTerm sig t → IsCanonical sig t
      of t h = subst (IsCanonical sig) h.canonical (canonical sig ok (nested sig t))
