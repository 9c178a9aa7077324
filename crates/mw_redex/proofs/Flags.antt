-- Where the successor of the largest numeral comes to stand.
use Rattle.std.specs.Prelude.{◌≡◌, ◌-◌, ◌<◌, ◌^◌, ◌||◌, ℕ, zero, suc, List, [], ◌∷◌, Bool, true, false, cond, nat_eq, nat_lt, Option, Some, slice_get, refl}
use Rattle.std.proofs.Common.{ap, sym, subst, ◌∙◌, arith}
use Rattle.std.proofs.lemmas.Bool.{ltb-true}
use Rattle.std.proofs.Math.Bool.{or-false, or_assoc}
use Rattle.mw_logic.specs.Term.{RawTerm, numeral, quoted, variable, apply, RawTerms, nil, cons, join}
use Rattle.mw_logic.specs.Terms.{list_of, args_of}
use Rattle.mw_logic.specs.Signature.{Signature, Identity, at_number}
use Rattle.mw_logic.specs.Accepted.{IsAccepted}
use Rattle.mw_logic.specs.Parts.{is_assoc}
use Rattle.mw_logic.specs.TermOrder.{sorted_terms}
use Rattle.mw_logic.specs.Kinds.{is_successor}
use Rattle.mw_logic.specs.NormalForm.{is_comm, identity_of, elements, flattened, arranged, counted, applied_in, is_largest, has_largest, some_largest}
use Rattle.mw_logic.proofs.Admitted.{admitted-iff}
use Rattle.mw_arguments.specs.Places.{others}
use Rattle.mw_canon.specs.Axioms.{HasAxioms}
use Rattle.mw_canon.specs.Canonical.{IsAdmittedTerm}
use Rattle.mw_canon.specs.declared.axioms.Axioms.{Axioms}
use Rattle.mw_canon.specs.declared.axioms.Axioms.TheVariants.{Plain, Commutative, Successor, Associative}
use Rattle.mw_canon.proofs.Largest.{plain_largest, some_largest-sorted, some_largest-arranged, rebuilt_largest, elements_largest}
use Rattle.mw_redex.specs.Largest.{counts_past}
use Rattle.mw_redex.specs.Replaced.{exchanged}
use Rattle.mw_redex.proofs.Middles.{apart}

both_false : (a b : Bool) → (a || b) ≡ false → (a ≡ false) × (b ≡ false)
both_false true b e = cc
both_false false b e = (refl, e)

module _ (sig : Signature) where
  -- an argument of a term without one has none
  pub argument_small : (t : RawTerm) (k : ℕ) (u : RawTerm) → has_largest sig t ≡ false → slice_get (list_of (args_of t)) k ≡ Some u → has_largest sig u ≡ false
  argument_small (numeral n) k u h e = cc
  argument_small (quoted q) k u h e = cc
  argument_small (variable x) k u h e = cc
  argument_small (apply f ts) k u h e = among ts k (both_false _ _ h).1 e
    where
      among : (ts : RawTerms) (k : ℕ) → some_largest sig ts ≡ false → slice_get (list_of ts) k ≡ Some u → has_largest sig u ≡ false
      among nil k h e = cc
      among (cons t ts) zero h e = let w : t ≡ u = cc in subst (λ v. has_largest sig v ≡ false) w (both_false _ _ h).0
      among (cons t ts) (suc k) h e = among ts k (both_false _ _ h).1 e

  -- the same by the argument's number
  pub numbered_small : (t : RawTerm) (n : ℕ) (u : RawTerm) → has_largest sig t ≡ false → at_number (list_of (args_of t)) n ≡ Some u → has_largest sig u ≡ false
  numbered_small t zero u h e = cc
  numbered_small t (suc k) u h e = argument_small t k u h e

  pub args_small : (f : ℕ) (ts : RawTerms) → has_largest sig (apply f ts) ≡ false → some_largest sig ts ≡ false
  args_small f ts h = (both_false _ _ h).1

  -- others are some of the terms
  others_small : (i : ℕ) (ks : List ℕ) (ts : RawTerms) → some_largest sig ts ≡ false → some_largest sig (others i ks ts) ≡ false
  others_small i [] ts h = h
  others_small i (k ∷ ks) nil h = refl
  others_small i (k ∷ ks) (cons t ts) h = by_test (nat_eq i k) (others_small (suc i) ks ts (both_false _ _ h).1) (others_small (suc i) (k ∷ ks) ts (both_false _ _ h).1)
    where
      by_test : (b : Bool) → some_largest sig (others (suc i) ks ts) ≡ false → some_largest sig (others (suc i) (k ∷ ks) ts) ≡ false →
          some_largest sig (cond b (others (suc i) ks ts) (cons t (others (suc i) (k ∷ ks) ts))) ≡ false
      by_test true r s = r
      by_test false r s = ap (λ b. b || some_largest sig (others (suc i) (k ∷ ks) ts)) (both_false (has_largest sig t) (some_largest sig ts) h).0 ∙ s

  -- where it stands in another term only
  pub exchanged_largest : (i k : ℕ) (ks : List ℕ) (x : RawTerm) (ts : RawTerms) → some_largest sig ts ≡ false → some_largest sig (exchanged i k ks x ts) ≡ has_largest sig x
  exchanged_largest i k ks x nil h = or-false (has_largest sig x)
  exchanged_largest i k ks x (cons t ts) h = by_test (nat_eq i k) (exchanged_largest (suc i) k ks x ts (both_false _ _ h).1)
    where
      by_test : (b : Bool) → some_largest sig (exchanged (suc i) k ks x ts) ≡ has_largest sig x →
          some_largest sig (cond b (cons x (others (suc i) ks ts)) (cons t (exchanged (suc i) k ks x ts))) ≡ has_largest sig x
      by_test true r = ap (λ b. has_largest sig x || b) (others_small (suc i) ks ts (both_false (has_largest sig t) (some_largest sig ts) h).1) ∙ or-false (has_largest sig x)
      by_test false r = ap (λ b. b || some_largest sig (exchanged (suc i) k ks x ts)) (both_false (has_largest sig t) (some_largest sig ts) h).0 ∙ r

  some_largest-join : (ts us : RawTerms) → some_largest sig (join ts us) ≡ (some_largest sig ts || some_largest sig us)
  some_largest-join nil us = refl
  some_largest-join (cons t ts) us = ap (λ b. has_largest sig t || b) (some_largest-join ts us) ∙ sym (or_assoc (has_largest sig t) (some_largest sig ts) (some_largest sig us))

  uncounted : (f : ℕ) (ts : RawTerms) → counted false f ts ≡ apply f ts
  uncounted f nil = refl
  uncounted f (cons (numeral n) nil) = refl
  uncounted f (cons (quoted q) nil) = refl
  uncounted f (cons (variable x) nil) = refl
  uncounted f (cons (apply g us) nil) = refl
  uncounted f (cons t (cons u us)) = refl

or_turned : (a b : Bool) → (a || b) ≡ (b || a)
or_turned true true = refl
or_turned true false = refl
or_turned false true = refl
or_turned false false = refl

module _ (sig : Signature) (ok : IsAccepted sig) where
  flattened_largest : (f : ℕ) → is_assoc sig f ≡ true → (e : Option Identity) (ts : RawTerms) → some_largest sig (flattened e f ts) ≡ some_largest sig ts
  flattened_largest f h e nil = refl
  flattened_largest f h e (cons t ts) =
      some_largest-join sig (elements e f t) (flattened e f ts) ∙ ap (λ b. b || some_largest sig (flattened e f ts)) (elements_largest sig ok f h e t) ∙ ap (λ b. has_largest sig t || b) (flattened_largest f h e ts)

  -- the successor of numbers on its arguments
  successor_largest : (f : ℕ) (ts : RawTerms) → is_successor sig f ≡ true → has_largest sig (counted true f ts) ≡ (some_largest sig ts || is_largest ts)
  successor_largest f nil s = rw s refl
  successor_largest f (cons (quoted q) nil) s = rw s refl
  successor_largest f (cons (variable x) nil) s = rw s refl
  successor_largest f (cons (apply g us) nil) s = rw s (or_turned false (has_largest sig (apply g us) || false))
  successor_largest f (cons t (cons u us)) s = rw s (or_turned (is_largest (cons t (cons u us))) (some_largest sig (cons t (cons u us))))
  successor_largest f (cons (numeral n) nil) s = by_test (nat_lt (suc n) (2 ^ 128)) refl
    where
      by_test : (b : Bool) → nat_lt (suc n) (2 ^ 128) ≡ b → has_largest sig (cond b (numeral (suc n)) (apply f (cons (numeral n) nil))) ≡ nat_eq n (2 ^ 128 - 1)
      by_test true e = let l : suc n < 2 ^ 128 = ltb-true (suc n) (2 ^ 128) e in sym (apart n (2 ^ 128 - 1) (omega arith))
      by_test false e = rw s (or-false (nat_eq n (2 ^ 128 - 1)))

  -- an operator stands on its arguments: it has one where they have one, or where it counts past the largest
  pub applied_largest : (f : ℕ) (ts : RawTerms) (a : Axioms) → HasAxioms sig f a → has_largest sig (applied_in sig f ts) ≡ (some_largest sig ts || counts_past a ts)
  applied_largest f ts Plain h =
      rw (h.0, h.1, h.2) (ap (has_largest sig) (uncounted sig f ts) ∙ plain_largest sig f ts h.2 ∙ sym (or-false (some_largest sig ts)))
  applied_largest f ts Commutative h =
      rw (h.0, h.1, h.2) (ap (has_largest sig) (uncounted sig f (sorted_terms ts)) ∙ plain_largest sig f (sorted_terms ts) h.2 ∙ some_largest-sorted sig ts ∙ sym (or-false (some_largest sig ts)))
  applied_largest f ts Successor h = rw (h.0, h.1, h.2) (successor_largest f ts h.2)
  applied_largest f ts (Associative c e) h =
      rw h.0 (rebuilt_largest sig ok f h.0 (identity_of sig f) (arranged (is_comm sig f) (flattened (identity_of sig f) f ts)) ∙ some_largest-arranged sig (is_comm sig f) (flattened (identity_of sig f) f ts)
      ∙ flattened_largest f h.0 (identity_of sig f) ts ∙ sym (or-false (some_largest sig ts)))

-- an admitted term has none
pub admitted_small : (sig : Signature) → IsAccepted sig → (t : RawTerm) → IsAdmittedTerm sig t → has_largest sig t ≡ false
admitted_small sig ok t h = subst (λ u. has_largest sig u ≡ false) h.canonical (((admitted-iff sig ok h.raw).0 h.admitted).2)

-- a flag that is up already, or is put up
pub flag_up : (old new some past : Bool) → old ≡ some → old ≡ true → new ≡ true → new ≡ (some || past)
flag_up old new some past e f g = g ∙ ap (λ b. b || past) (sym f ∙ e)

pub flag_put : (old new some past : Bool) → old ≡ some → old ≡ false → new ≡ past → new ≡ (some || past)
flag_put old new some past e f g = g ∙ ap (λ b. b || past) (sym f ∙ e)
