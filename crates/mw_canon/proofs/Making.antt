-- What is made of written terms and their instances, operator by operator.
use Rattle.std.specs.Prelude.{◌≡◌, ℕ, [], ◌∷◌, Bool, true, false, nat_eq, Option, Some, unwrap_or, cond, refl}
use Rattle.std.proofs.Common.{ap, sym, subst, ◌∙◌}
use Rattle.std.proofs.lemmas.Bool.{eqb-true}
use Rattle.mw_logic.specs.Term.{Variable, RawTerm, numeral, quoted, variable, apply, RawTerms, nil, cons, join}
use Rattle.mw_logic.specs.Signature.{Signature, Identity}
use Rattle.mw_logic.specs.Accepted.{IsAccepted}
use Rattle.mw_logic.specs.Parts.{is_assoc, nested, all_nested, nest, chain}
use Rattle.mw_logic.specs.NormalForm.{is_comm, identity_of, elements, flattened, rebuilt, arranged, applied_in, normal_form, has_largest}
use Rattle.mw_logic.specs.Substitution.{Substitution, value, same_variable, instance, instances}
use Rattle.mw_logic.proofs.SortLaws.{join-nil}
use Rattle.mw_logic.proofs.Canonical.{all_are, arranged-left, arranged-right, arranged-twice}
use Rattle.mw_logic.proofs.CanonicalTerms.{normal_form-chain, elements-applied, flattened-backed}
use Rattle.mw_logic.proofs.Replacing.{flattened-join}
use Rattle.mw_logic.proofs.Admitted.{admitted-iff}
use Rattle.mw_canon.specs.Canonical.{HasAdmittedValues, meant}
use Rattle.mw_canon.specs.Made.{made, all_made, entered, all_entered}

-- an instance of a nesting
instance-chain : (s : Substitution) (f : ℕ) (t : RawTerm) (ts : RawTerms) → instance s (chain f t ts) ≡ chain f (instance s t) (instances s ts)
instance-chain s f t nil = refl
instance-chain s f t (cons u us) = ap (λ v. apply f (cons (instance s t) (cons v nil))) (instance-chain s f u us)

-- no variable is replaced where none has a value
mutual
  pub instance_none : (t : RawTerm) → instance [] t ≡ t
  instance_none (numeral n) = refl
  instance_none (quoted q) = refl
  instance_none (variable x) = refl
  instance_none (apply f ts) = ap (apply f) (instances_none ts)

  instances_none : (ts : RawTerms) → instances [] ts ≡ ts
  instances_none nil = refl
  instances_none (cons t ts) = rw (instance_none t, instances_none ts) refl

module _ (sig : Signature) (s : Substitution) where
  -- what is made of two lists
  all_made-join : (ts us : RawTerms) → all_made sig s (join ts us) ≡ join (all_made sig s ts) (all_made sig s us)
  all_made-join nil us = refl
  all_made-join (cons t ts) us = ap (cons (made sig s t)) (all_made-join ts us)

-- a variable that has a value means it, and the value is its own normal form
pub made_value : (sig : Signature) (s : Substitution) (x : Variable) → HasAdmittedValues sig s → made sig s (variable x) ≡ instance s (variable x)
made_value sig [] x h = refl
made_value sig (b ∷ s) x h = by_test (made_value sig s x h.1) (same_variable b.0 x)
  where
    by_test : made sig s (variable x) ≡ instance s (variable x)
        → (c : Bool) → normal_form sig (unwrap_or (cond c (Some (nested sig b.1)) (value (meant sig s) x)) (variable x)) ≡ unwrap_or (cond c (Some b.1) (value s x)) (variable x)
    by_test rest true = h.0.canonical
    by_test rest false = rest

module _ (sig : Signature) (ok : IsAccepted sig) where
  -- and nothing too large stands in it
  pub value_small : (s : Substitution) (x : Variable) → HasAdmittedValues sig s → has_largest sig (instance s (variable x)) ≡ false
  value_small [] x h = refl
  value_small (b ∷ s) x h = by_test (value_small s x h.1) (same_variable b.0 x)
    where
      by_test : has_largest sig (instance s (variable x)) ≡ false → (c : Bool) → has_largest sig (unwrap_or (cond c (Some b.1) (value s x)) (variable x)) ≡ false
      by_test rest true = subst (λ t. has_largest sig t ≡ false) h.0.canonical (((admitted-iff sig ok h.0.raw).0 h.0.admitted).2)
      by_test rest false = rest

  module _ (s : Substitution) where
    -- an operator is applied to what is made of its arguments
    pub made_apply : (f : ℕ) (ts : RawTerms) → made sig s (apply f ts) ≡ applied_in sig f (all_made sig s ts)
    made_apply f ts = by_assoc (is_assoc sig f) refl ts
      where
        by_assoc : (b : Bool) → is_assoc sig f ≡ b → (ts : RawTerms) → normal_form sig (instance (meant sig s) (nest b f (all_nested sig ts))) ≡ applied_in sig f (all_made sig s ts)
        by_assoc false h ts = refl
        by_assoc true h nil = refl
        by_assoc true h (cons t ts) =
            ap (normal_form sig) (instance-chain (meant sig s) f (nested sig t) (all_nested sig ts)) ∙ normal_form-chain sig ok f h (instance (meant sig s) (nested sig t)) (instances (meant sig s) (all_nested sig ts))

    module _ (f : ℕ) (h : is_assoc sig f ≡ true) where
      -- the elements of one of f's own terms are those of its arguments
      elements_made : (t : RawTerm) (ts : RawTerms) →
          elements (identity_of sig f) f (made sig s (apply f (cons t ts))) ≡ arranged (is_comm sig f) (flattened (identity_of sig f) f (all_made sig s (cons t ts)))
      elements_made t ts =
          ap (elements (identity_of sig f) f) (made_apply f (cons t ts))
          ∙ elements-applied sig ok f h (all_made sig s (cons t ts)) (all_are sig ok (instances (meant sig s) (all_nested sig (cons t ts)))) (flattened-backed sig ok (identity_of sig f) f (made sig s t) (all_made sig s ts))

      -- lists that f arranges to the same, joined
      arranged-join : (ts us ts' us' : RawTerms) → arranged (is_comm sig f) ts ≡ arranged (is_comm sig f) ts' → arranged (is_comm sig f) us ≡ arranged (is_comm sig f) us'
          → arranged (is_comm sig f) (join ts us) ≡ arranged (is_comm sig f) (join ts' us')
      arranged-join ts us ts' us' e g =
          let c : Bool = is_comm sig f in
          sym (arranged-left c ts us) ∙ ap (λ vs. arranged c (join vs us)) e ∙ arranged-left c ts' us ∙ sym (arranged-right c ts' us) ∙ ap (λ vs. arranged c (join ts' vs)) g ∙ arranged-right c ts' us'

      -- entering f's own terms changes no elements
      mutual
        entered_elements : (t : RawTerm) → arranged (is_comm sig f) (flattened (identity_of sig f) f (all_made sig s (entered f t))) ≡ arranged (is_comm sig f) (elements (identity_of sig f) f (made sig s t))
        entered_elements (numeral n) = ap (arranged (is_comm sig f)) (join-nil (elements (identity_of sig f) f (numeral n)))
        entered_elements (quoted q) = ap (arranged (is_comm sig f)) (join-nil (elements (identity_of sig f) f (quoted q)))
        entered_elements (variable x) = ap (arranged (is_comm sig f)) (join-nil (elements (identity_of sig f) f (made sig s (variable x))))
        entered_elements (apply g nil) = ap (arranged (is_comm sig f)) (join-nil (elements (identity_of sig f) f (made sig s (apply g nil))))
        entered_elements (apply g (cons t ts)) = by_test (all_entered_elements (cons t ts)) (nat_eq f g) refl
          where
            by_test : arranged (is_comm sig f) (flattened (identity_of sig f) f (all_made sig s (all_entered f (cons t ts)))) ≡ arranged (is_comm sig f) (flattened (identity_of sig f) f (all_made sig s (cons t ts)))
                → (b : Bool) → nat_eq f g ≡ b
                → arranged (is_comm sig f) (flattened (identity_of sig f) f (all_made sig s (cond b (join (entered f t) (all_entered f ts)) (cons (apply g (cons t ts)) nil))))
                ≡ arranged (is_comm sig f) (elements (identity_of sig f) f (made sig s (apply g (cons t ts))))
            by_test inside false e = ap (arranged (is_comm sig f)) (join-nil (elements (identity_of sig f) f (made sig s (apply g (cons t ts)))))
            by_test inside true e =
                let own : elements (identity_of sig f) f (made sig s (apply g (cons t ts))) ≡ arranged (is_comm sig f) (flattened (identity_of sig f) f (all_made sig s (cons t ts))) =
                subst (λ g. elements (identity_of sig f) f (made sig s (apply g (cons t ts))) ≡ arranged (is_comm sig f) (flattened (identity_of sig f) f (all_made sig s (cons t ts)))) (eqb-true f g e) (elements_made t ts) in
                inside ∙ sym (arranged-twice (is_comm sig f) (flattened (identity_of sig f) f (all_made sig s (cons t ts)))) ∙ ap (arranged (is_comm sig f)) (sym own)

        all_entered_elements : (ts : RawTerms)
            → arranged (is_comm sig f) (flattened (identity_of sig f) f (all_made sig s (all_entered f ts))) ≡ arranged (is_comm sig f) (flattened (identity_of sig f) f (all_made sig s ts))
        all_entered_elements nil = refl
        all_entered_elements (cons t ts) =
            ap (λ us. arranged (is_comm sig f) (flattened (identity_of sig f) f us)) (all_made-join sig s (entered f t) (all_entered f ts))
            ∙ ap (arranged (is_comm sig f)) (flattened-join (identity_of sig f) f (all_made sig s (entered f t)) (all_made sig s (all_entered f ts)))
            ∙ arranged-join _ _ _ _ (entered_elements t) (all_entered_elements ts)

      -- f over the elements of what is entered
      pub joined_made : (c : Bool) (e : Option Identity) (ts : RawTerms) → is_comm sig f ≡ c → identity_of sig f ≡ e
          → rebuilt e f (arranged c (flattened e f (all_made sig s (all_entered f ts)))) ≡ applied_in sig f (all_made sig s ts)
      joined_made c e ts k i = rw (← k, ← i, h) (ap (rebuilt (identity_of sig f) f) (all_entered_elements ts))
