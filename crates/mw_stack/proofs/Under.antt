-- Operators by their axioms, and what stands under them.
use Rattle.std.specs.Prelude.{◌≡◌, ◌⊎◌, ◌<◌, ◌≤◌, ◌-◌, ◌^◌, ◌==◌, ◌↔◌, take, drop, ℕ, suc, List, [], ◌∷◌, length, Bool, true, false, nat_lt, cond, refl, Option, None, IsTrue}
use Rattle.std.proofs.Common.{ap, sym, subst, ◌∙◌, inl, inr, arith}
use Rattle.std.proofs.lemmas.Bool.{both_ways, ltb-true, lt-ltb}
use Rattle.mw_logic.specs.Term.{RawTerm, numeral, nil, cons, join}
use Rattle.mw_logic.specs.Terms.{terms_of}
use Rattle.mw_logic.specs.Signature.{Signature, Identity}
use Rattle.mw_logic.specs.Accepted.{IsAccepted}
use Rattle.mw_logic.specs.Parts.{is_assoc}
use Rattle.mw_logic.specs.TermOrder.{sorted_terms}
use Rattle.mw_logic.specs.Kinds.{is_successor}
use Rattle.mw_logic.specs.NormalForm.{is_comm, identity_of, is_identity, own_arguments, elements, arranged}
use Rattle.mw_logic.proofs.Canonical.{Backed, own_arguments-backed}
use Rattle.mw_logic.proofs.Invariance.{successor_not_assoc}
use Rattle.mw_logic.proofs.Successor.{is_successor-true, is_successor-sound}
use Rattle.mw_canon.specs.Axioms.{HasAxioms}
use Rattle.mw_canon.specs.declared.axioms.Axioms.{Axioms}
use Rattle.mw_canon.specs.declared.axioms.Axioms.TheVariants.{Plain, Commutative, Successor}
use Rattle.mw_stack.specs.Own.{own, spread, IsOrdered}
use Rattle.mw_stack.specs.Hidden.{IsHidden}
use Rattle.mw_stack.proofs.Piles.{longer, own_behind, first_part, second_part}

-- an operator without axioms, or the successor
pub keeps_order : (sig : Signature) (f : ℕ) (a : Axioms) → HasAxioms sig f a → (a ≡ Plain) ⊎ (a ≡ Successor) → (is_assoc sig f ≡ false) × (is_comm sig f ≡ false)
keeps_order sig f a h (inl e) = let k : HasAxioms sig f Plain = subst (HasAxioms sig f) e h in (k.0, k.1)
keeps_order sig f a h (inr e) = let k : HasAxioms sig f Successor = subst (HasAxioms sig f) e h in (k.0, k.1)

-- or a commutative one, or none
pub counts_nothing : (sig : Signature) (f : ℕ) (a : Axioms) → HasAxioms sig f a → (a ≡ Plain) ⊎ (a ≡ Commutative) → (is_assoc sig f ≡ false) × (is_successor sig f ≡ false)
counts_nothing sig f a h (inl e) = let k : HasAxioms sig f Plain = subst (HasAxioms sig f) e h in (k.0, k.2)
counts_nothing sig f a h (inr e) = let k : HasAxioms sig f Commutative = subst (HasAxioms sig f) e h in (k.0, k.2)

pub spread_alone : (sig : Signature) (f : ℕ) (t : RawTerm) → is_assoc sig f ≡ false → spread sig f t ≡ cons t nil
spread_alone sig f t h = rw h refl

pub spread_elements : (sig : Signature) (f : ℕ) (t : RawTerm) (e : Option Identity) → is_assoc sig f ≡ true → identity_of sig f ≡ e → spread sig f t ≡ elements e f t
spread_elements sig f t e h i = rw (h, i) refl

-- what a term's elements make of an operator's own arguments that are in order, where they stand behind these
module _ (sig : Signature) (f : ℕ) (t : RawTerm) (xs ys : List RawTerm) (from : ℕ) (e : Option Identity) (assoc : is_assoc sig f ≡ true) (identity : identity_of sig f ≡ e) (told : terms_of ys ≡ join (terms_of xs) (elements e f t)) (l : from ≤ length xs) where
  pub put_at_end : is_comm sig f ≡ false → own from ys ≡ arranged (is_comm sig f) (join (own from xs) (spread sig f t))
  put_at_end m = own_behind xs ys (elements e f t) from told l ∙ rw (m, spread_elements sig f t e assoc identity) refl

  pub put_merged : (at : ℕ) → at ≡ length xs → is_comm sig f ≡ true → IsOrdered sig f (own from xs) → IsOrdered sig f (spread sig f t)
      → (from ≤ at) × (at ≤ length ys) × (sorted_terms (terms_of (take (at - from) (drop from ys))) ≡ terms_of (take (at - from) (drop from ys))) × (sorted_terms (own at ys) ≡ own at ys)
      × (sorted_terms (own from ys) ≡ arranged (is_comm sig f) (join (own from xs) (spread sig f t)))
  put_merged at a m o p =
      let s : spread sig f t ≡ elements e f t = spread_elements sig f t e assoc identity in
      let front : take (at - from) (drop from ys) ≡ drop from xs = ap (λ n. take (n - from) (drop from ys)) a ∙ first_part xs ys (elements e f t) from told l in
      let back : own at ys ≡ elements e f t = ap (λ n. own n ys) a ∙ second_part xs ys (elements e f t) told in
      let o' : sorted_terms (own from xs) ≡ own from xs = subst (λ b. arranged b (own from xs) ≡ own from xs) m o in
      let p' : sorted_terms (elements e f t) ≡ elements e f t = subst (λ ts. sorted_terms ts ≡ ts) s (subst (λ b. arranged b (spread sig f t) ≡ spread sig f t) m p) in (
        omega (arith, l, a),
        omega (arith, a, longer xs ys (elements e f t) told),
        subst (λ zs. sorted_terms (terms_of zs) ≡ terms_of zs) (sym front) o',
        subst (λ ts. sorted_terms ts ≡ ts) (sym back) p',
        ap sorted_terms (own_behind xs ys (elements e f t) from told l) ∙ rw (m, s) refl,
      )

-- what isn't associative, nor the successor, hides nothing
pub none_hidden : (sig : Signature) (f : ℕ) (t : RawTerm) → is_assoc sig f ≡ false → is_successor sig f ≡ false → IsHidden sig f t → ⊥
none_hidden sig f t n s (inl h) = both_ways _ n h.0
none_hidden sig f t n s (inr h) = both_ways _ s (is_successor-true sig f h.successor)

-- a numeral under the successor is hidden but for the largest
pub numeral_hidden : (sig : Signature) (f : ℕ) (t : RawTerm) (n m : ℕ) → is_assoc sig f ≡ false → is_successor sig f ≡ true → t ≡ numeral n → suc m ≡ 2 ^ 128 → IsTrue (nat_lt n m) ↔ IsHidden sig f t
numeral_hidden sig f t n m h s e top = (there, back)
  where
    there : nat_lt n m ≡ true → IsHidden sig f t
    there k = inr (record { number = n; is = e; successor = is_successor-sound sig f s; folds = subst (λ x. suc n < x) top (omega (arith, ltb-true n m k)) })

    back : IsHidden sig f t → nat_lt n m ≡ true
    back (inl k) = absurd (both_ways _ h k.0)
    back (inr k) =
        let same : n ≡ k.number = of_numerals (sym e ∙ k.is) in
        let l : suc k.number < suc m = subst (λ x. suc k.number < x) (sym top) k.folds in
        lt-ltb n m (omega (arith, l, same))
      where
        of_numerals : {a b : ℕ} → numeral a ≡ numeral b → a ≡ b
        of_numerals e = cc

-- an associative operator hides what has no elements under it
module _ (sig : Signature) (ok : IsAccepted sig) (f : ℕ) (t : RawTerm) (assoc : is_assoc sig f ≡ true) where
  without_elements : (ps : List RawTerm) → terms_of ps ≡ elements (identity_of sig f) f t → (length ps == 0) ≡ is_identity (identity_of sig f) t
  without_elements ps e = by_test (is_identity (identity_of sig f) t) ps e
    where
      by_test : (b : Bool) (ps : List RawTerm) → terms_of ps ≡ cond b nil (own_arguments f t) → (length ps == 0) ≡ b
      by_test true [] e = refl
      by_test true (p ∷ ps) e = cc
      by_test false [] e = absurd (both_ways _ refl (subst (Backed None) (sym e) (own_arguments-backed None f t)))
      by_test false (p ∷ ps) e = grind arith

  pub identity_hidden : (ps : List RawTerm) (b : Bool) → terms_of ps ≡ elements (identity_of sig f) f t → b ≡ (length ps == 0) → IsTrue b ↔ IsHidden sig f t
  identity_hidden ps b e k = (λ h. inl (assoc, sym (k ∙ without_elements ps e) ∙ h), back)
    where
      back : IsHidden sig f t → b ≡ true
      back (inl h) = k ∙ without_elements ps e ∙ h.1
      back (inr h) = absurd (both_ways _ (successor_not_assoc sig ok f h.successor) assoc)
