-- Which arguments may be taken.
use Rattle.std.specs.Prelude.{◌≡◌, ◌≤◌, ◌<◌, ℕ, suc, List, [], ◌∷◌, length, ◌+◌, Bool, false, true, cond, nat_eq, Option, Some, None, MatchOption, IfOk, Result, Ok, Err, refl}
use Rattle.std.proofs.Common.{ap, sym, subst, ◌∙◌, arith}
use Rattle.std.proofs.lemmas.Bool.{eqb-true, both_ways, eq-eqb}
use Rattle.mw_logic.specs.Term.{RawTerm, apply, RawTerms, nil, cons}
use Rattle.mw_logic.specs.Terms.{terms_of}
use Rattle.mw_logic.specs.Signature.{Signature}
use Rattle.mw_logic.specs.Accepted.{IsAccepted}
use Rattle.mw_logic.specs.Parts.{is_assoc, number_of_terms}
use Rattle.mw_logic.specs.NormalForm.{is_comm}
use Rattle.mw_logic.specs.CanonicalPart.{AreSeveral}
use Rattle.mw_logic.proofs.Inside.{associative}
use Rattle.mw_arguments.specs.Places.{chosen, Rise, Takes}
use Rattle.mw_logic.proofs.Soundness.{IsLong}
use Rattle.mw_redex.specs.Paths.{at_path}
use Rattle.mw_check.specs.Parts.{StandsAt, TakesSeveral, MayBeTaken}

same_operator : {f g : ℕ} {ts us : RawTerms} → apply f ts ≡ apply g us → f ≡ g
same_operator e = cc

same_arguments : {f g : ℕ} {ts us : RawTerms} → apply f ts ≡ apply g us → ts ≡ us
same_arguments e = cc

number-terms_of : (ts : List RawTerm) → number_of_terms (terms_of ts) ≡ length ts
number-terms_of [] = refl
number-terms_of (t ∷ ts) = ap suc (number-terms_of ts)

same_some : {x y : RawTerm} → Some x ≡ Some y → x ≡ y
same_some e = cc

same_list : {xs ys : List ℕ} → Some xs ≡ Some ys → xs ≡ ys
same_list e = cc

-- a later number
later : (a k : ℕ) (ks : List ℕ) (us : RawTerms) → Rise a (a + suc (number_of_terms us)) (k ∷ ks) → (a ≡ k → ⊥) → Rise (suc a) (suc a + number_of_terms us) (k ∷ ks)
later a k ks us h d =
    let l = h.0 in
    let m = h.1 in
    let z : a + suc (number_of_terms us) ≡ suc a + number_of_terms us = omega arith in
    (omega (arith, l, d), omega (arith, m), subst (λ n. Rise (suc k) n ks) z h.2)

-- a number chooses one
one_chosen : (a k : ℕ) (ks : List ℕ) (ts : RawTerms) → Rise a (a + number_of_terms ts) (k ∷ ks) → IsLong (chosen a (k ∷ ks) ts)
one_chosen a k ks nil h = let l = h.0 in let m = h.1 in absurd (omega (arith, l, m))
one_chosen a k ks (cons u us) h = by_test (nat_eq a k) refl (λ r. one_chosen (suc a) k ks us r)
  where
    by_test : (b : Bool) → nat_eq a k ≡ b → (Rise (suc a) (suc a + number_of_terms us) (k ∷ ks) → IsLong (chosen (suc a) (k ∷ ks) us)) → IsLong (cond b (cons u (chosen (suc a) ks us)) (chosen (suc a) (k ∷ ks) us))
    by_test true z next = tt
    by_test false z next = next (later a k ks us h (λ s. both_ways _ z (eq-eqb a k s)))

several_long : (t : RawTerm) (ts : RawTerms) → IsLong ts → AreSeveral (cons t ts)
several_long t nil l = absurd l
several_long t (cons u us) l = tt

-- two choose several
two_chosen : (a k m : ℕ) (ks : List ℕ) (ts : RawTerms) → Rise a (a + number_of_terms ts) (k ∷ m ∷ ks) → AreSeveral (chosen a (k ∷ m ∷ ks) ts)
two_chosen a k m ks nil h = let l = h.0 in let n = h.1 in absurd (omega (arith, l, n))
two_chosen a k m ks (cons u us) h = by_test (nat_eq a k) refl (λ r. two_chosen (suc a) k m ks us r)
  where
    z : a + suc (number_of_terms us) ≡ suc a + number_of_terms us
    z = omega arith

    by_test : (b : Bool) → nat_eq a k ≡ b → (Rise (suc a) (suc a + number_of_terms us) (k ∷ m ∷ ks) → AreSeveral (chosen (suc a) (k ∷ m ∷ ks) us))
        → AreSeveral (cond b (cons u (chosen (suc a) (m ∷ ks) us)) (chosen (suc a) (k ∷ m ∷ ks) us))
    by_test true e next =
        let s : a ≡ k = eqb-true a k e in
        several_long u (chosen (suc a) (m ∷ ks) us) (one_chosen (suc a) m ks us (subst (λ n. Rise (suc a) n (m ∷ ks)) z (subst (λ j. Rise (suc j) (a + suc (number_of_terms us)) (m ∷ ks)) (sym s) h.2)))
    by_test false e next =
        let l = h.0 in
        let n = h.1 in
        let d : a ≡ k → ⊥ = λ s. both_ways _ e (eq-eqb a k s) in
        next (omega (arith, l, d), omega (arith, n), subst (λ n. Rise (suc k) n (m ∷ ks)) z h.2)

-- one number chooses one at most
one_at_most : (i k : ℕ) (ts : RawTerms) → AreSeveral (chosen i (k ∷ []) ts) → ⊥
one_at_most i k nil l = l
one_at_most i k (cons u us) l = by_test (nat_eq i k) (one_at_most (suc i) k us) l
  where
    by_test : (b : Bool) → (AreSeveral (chosen (suc i) (k ∷ []) us) → ⊥) → AreSeveral (cond b (cons u nil) (chosen (suc i) (k ∷ []) us)) → ⊥
    by_test true next l = l
    by_test false next l = next l

module _ (sig : Signature) (ok : IsAccepted sig) (f : ℕ) (args : List RawTerm) (t : RawTerm) (is : t ≡ apply f (terms_of args)) (ks : List ℕ) (comm : Bool) (commutes : is_comm sig f ≡ comm) where
  size : number_of_terms (terms_of args) ≡ length args
  size = number-terms_of args

  pub not_taken : (MayBeTaken comm (length args) ks → ⊥) → (w : RawTerm) → TakesSeveral sig ks t w → ⊥
  not_taken deny w h =
      let e : apply f (terms_of args) ≡ apply h.takes.operator h.takes.args = sym is ∙ h.takes.term in
      let same : h.takes.args ≡ terms_of args = sym (same_arguments e) in
      let count : number_of_terms h.takes.args ≡ length args = ap number_of_terms same ∙ size in
      deny (record {
        two = two ks h.takes.args h.takes.several;
        some = subst (λ n. length ks < n) size (h.some f (terms_of args) is);
        rise = subst (λ n. Rise 1 (suc n) ks) count h.takes.rise;
        follow = λ c. h.takes.follow (ap (is_comm sig) (sym (same_operator e)) ∙ commutes ∙ c);
      })
    where
      two : (ks : List ℕ) (ts : RawTerms) → AreSeveral (chosen 1 ks ts) → 2 ≤ length ks
      two [] ts l = absurd l
      two (k ∷ []) ts l = absurd (one_at_most 1 k ts l)
      two (k ∷ m ∷ ks) ts l = omega arith

  pub is_taken : is_assoc sig f ≡ true → MayBeTaken comm (length args) ks → (part : RawTerms) → part ≡ chosen 1 ks (terms_of args) → TakesSeveral sig ks t (apply f part)
  is_taken h may part e = record {
    takes = record {
      operator = f;
      args = terms_of args;
      term = is;
      assoc = associative sig ok f h;
      rise = rise;
      several = several ks may.two rise;
      follow = λ c. may.follow (sym commutes ∙ c);
      part = ap (apply f) e;
    };
    some = λ g ts p. subst (λ us. length ks < number_of_terms us) (same_arguments (sym is ∙ p)) (subst (λ n. length ks < n) (sym size) may.some);
  }
    where
      rise : Rise 1 (suc (number_of_terms (terms_of args))) ks
      rise = subst (λ n. Rise 1 (suc n) ks) (sym size) may.rise

      several : (ks : List ℕ) → 2 ≤ length ks → Rise 1 (suc (number_of_terms (terms_of args))) ks → AreSeveral (chosen 1 ks (terms_of args))
      several [] l r = absurd (omega (arith, l))
      several (k ∷ []) l r = absurd (omega (arith, l))
      several (k ∷ m ∷ ks) l r = two_chosen 1 k m ks (terms_of args) (subst (λ n. Rise 1 n (k ∷ m ∷ ks)) (omega arith) r)

-- what is taken at the end of a path
pub at_place : (sig : Signature) (path ks : List ℕ) (t end : RawTerm) (part : Option RawTerm) → at_path t path ≡ Some end → MatchOption part ((w : RawTerm) → TakesSeveral sig ks end w → ⊥) (TakesSeveral sig ks end)
    → MatchOption part ((w : RawTerm) → StandsAt sig (record { path = path; take = Some ks }) t w → ⊥) (StandsAt sig (record { path = path; take = Some ks }) t)
at_place sig path ks t end None e no_part = λ w h.
    let same : h.part.end ≡ end = same_some (sym h.part.there ∙ e) in
    no_part w (record { takes = subst (λ u. Takes sig ks u w) same h.part.taken; some = λ f ts p. h.some ks f ts refl (e ∙ ap Some p) })
at_place sig path ks t end (Some w) e h = record {
  part = record { end = end; there = e; taken = h.takes };
  some = λ ls f ts q p. subst (λ ls. length ls < number_of_terms ts) (same_list q) (h.some f ts (same_some (sym e ∙ p)));
}

pub if_ok : {T E : Type 0} (r : Result T E) (P Q : T → Type 0) → ((t : T) → P t → Q t) → IfOk r P → IfOk r Q
if_ok (Ok t) P Q w h = w t h
if_ok (Err e) P Q w h = tt
