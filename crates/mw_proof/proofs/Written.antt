-- Instances of terms as they are written, and their bindings.
use Rattle.std.specs.Prelude.{◌≡◌, ◌++◌, ℕ, List, [], ◌∷◌, map, reverse, Bool, true, false, Some, option_to_list, refl}
use Rattle.std.proofs.Common.{sym, subst, ap, ◌∙◌, append_assoc}
use Rattle.std.proofs.lemmas.List.{reverse-append, reverse-reverse}
use Rattle.mw_logic.specs.Term.{Variable, RawTerm, numeral, quoted, variable, apply, RawTerms, nil, cons}
use Rattle.mw_logic.specs.Signature.{Signature, Operator, IsRawTerm, an_operator, AreRawTerms, end, next}
use Rattle.mw_logic.specs.Accepted.{IsAccepted, IsWellSorted}
use Rattle.mw_logic.specs.Substitution.{Substitution, instance, IsSubstitution}
use Rattle.mw_logic.specs.Parts.{is_assoc, nested, all_nested, nest, IsAdmitted}
use Rattle.mw_logic.specs.NormalForm.{normal_form}
use Rattle.mw_logic.specs.Module.{Module}
use Rattle.mw_logic.proofs.AxiomLaws.{sym as back}
use Rattle.mw_logic.proofs.Canonical.{assoc_operator, same_operator}
use Rattle.mw_logic.proofs.EqualTerms.{IsAdmitted-equal}
use Rattle.mw_logic.proofs.Soundness.{normal_form-sound}
use Rattle.mw_logic.proofs.SolutionLaws.{instance_raw}
use Rattle.mw_canon.specs.Canonical.{IsAdmittedTerm, meant}
use Rattle.mw_canon.specs.Causes.{HasCause}
use Rattle.mw_canon.specs.declared.CanonError.{CanonError}
use Rattle.mw_canon.specs.declared.CanonError.TheVariants.{Deep, Nat}
use Rattle.mw_deduction.specs.Replay.{Move, begins, ends}
use Rattle.mw_trail.specs.Tracks.{moves}
use Rattle.mw_proof.specs.Deductions.{Deduction}
use Rattle.mw_proof.specs.Replacing.{AreSides, AreMore, value_of, bindings, instance_in}

-- a raw term is its own nesting: an associative operator has two arguments there
module _ (sig : Signature) (ok : IsAccepted sig) where
  two_nested : (f K L : ℕ) (ts : RawTerms) → AreRawTerms sig ts (K ∷ L ∷ []) → nest true f ts ≡ apply f ts
  two_nested f K L (cons t (cons u nil)) (next r h (next s i end)) = refl
  two_nested f K L nil raw = elim raw [ ]
  two_nested f K L (cons t nil) (next r h rest) = elim rest [ ]
  two_nested f K L (cons t (cons u (cons v vs))) (next r h (next s i rest)) = elim rest [ ]

  mutual
    nested_is : (t : RawTerm) → IsRawTerm sig t → nested sig t ≡ t
    nested_is (numeral n) raw = refl
    nested_is (quoted q) raw = refl
    nested_is (variable x) raw = refl
    nested_is (apply f ts) (an_operator o is args) = ap (nest (is_assoc sig f) f) (all_nested_are ts o.args args) ∙ by_assoc (is_assoc sig f) refl
      where
        by_assoc : (b : Bool) → is_assoc sig f ≡ b → nest b f ts ≡ apply f ts
        by_assoc false e = refl
        by_assoc true e =
            let (p, there, a) = assoc_operator sig f e in
            let (K, L, two, k, l) = ok.assoc f p there a in
            two_nested f K L ts (subst (AreRawTerms sig ts) two (subst (λ (q : Operator). AreRawTerms sig ts q.args) (same_operator sig f o p is there) args))

    all_nested_are : (ts : RawTerms) (Ks : List ℕ) → AreRawTerms sig ts Ks → all_nested sig ts ≡ ts
    all_nested_are nil Ks raw = refl
    all_nested_are (cons t ts) Ks (next {Ks = Ls} r h rest) = ap (λ u. cons u (all_nested sig ts)) (nested_is t r) ∙ ap (cons t) (all_nested_are ts Ls rest)

  module _ (sorted : IsWellSorted sig) (s : Substitution) (is : IsSubstitution sig (meant sig s)) (t : RawTerm) (raw : IsRawTerm sig t) where
    pub instance_written : instance (meant sig s) (nested sig t) ≡ instance (meant sig s) t
    instance_written = ap (instance (meant sig s)) (nested_is t raw)

    instance_is_raw : IsRawTerm sig (instance (meant sig s) t)
    instance_is_raw = instance_raw sig ok sorted (meant sig s) is raw

    pub written_raw : (S : Signature) → S ≡ sig → IsRawTerm S (instance (meant S s) (nested S t))
    written_raw S e = subst (λ z. IsRawTerm z (instance (meant z s) (nested z t))) (sym e) (subst (IsRawTerm sig) (sym instance_written) instance_is_raw)

    pub written_normal : (S : Signature) → S ≡ sig → normal_form S (instance (meant S s) (nested S t)) ≡ instance_in sig s t
    written_normal S e = ap (λ z. normal_form z (instance (meant z s) (nested z t))) e ∙ ap (normal_form sig) instance_written

    module _ (admitted : IsAdmittedTerm sig (instance_in sig s t)) where
      instance_admitted : IsAdmitted sig (instance (meant sig s) (nested sig t))
      instance_admitted = subst (IsAdmitted sig) (sym instance_written) (IsAdmitted-equal sig (back (normal_form-sound sig ok instance_is_raw)) admitted.admitted)

      -- so it is neither too deep nor too large
      pub never_deep : (S : Signature) → S ≡ sig → (e : CanonError) → e ≡ Deep → HasCause S (instance (meant S s) (nested S t)) e → ⊥
      never_deep S q e is h = instance_admitted.not_deep (subst (HasCause sig (instance (meant sig s) (nested sig t))) is (subst (λ z. HasCause z (instance (meant z s) (nested z t)) e) q h))

      pub never_large : (S : Signature) → S ≡ sig → (e : CanonError) → e ≡ Nat → HasCause S (instance (meant S s) (nested S t)) e → ⊥
      never_large S q e is h = instance_admitted.not_large (subst (HasCause sig (instance (meant sig s) (nested sig t))) is (subst (λ z. HasCause z (instance (meant z s) (nested z t)) e) q h)).0

-- variables with their values
pub bindings_are : (s : Substitution) (xs : List Variable) → map (λ (x : Variable). let p : Variable × RawTerm = (x, value_of s x) in p) xs ≡ bindings s xs
bindings_are s [] = refl
bindings_are s (x ∷ xs) = let p : Variable × RawTerm = (x, value_of s x) in ap (λ ps. p ∷ ps) (bindings_are s xs)

-- one side more
pub sides_more : (M : Module) (ds : List Deduction) (d : Deduction) (ms ns : List Move) → AreSides M ds ms → AreMore M d ms ns → AreSides M (ds ++ d ∷ []) ns
sides_more M [] d ms ns e (k, kept, is, q) = (k, [], kept, is, q ∙ ap (λ xs. xs ++ (begins d.from ∷ moves M k ++ ends ∷ [])) e, refl)
sides_more M (x ∷ ds) d ms ns (l, rest, held, was, e, more) (k, kept, is, q) =
    let ys : List Move = begins d.from ∷ moves M k ++ ends ∷ [] in
    let zs : List Move = rest ++ ys in
    (l, zs, held, was, q ∙ ap (λ xs. xs ++ ys) e ∙ ap (λ xs. begins x.from ∷ xs) (append_assoc (moves M l) (ends ∷ rest) ys), sides_more M ds d rest zs more (k, kept, is, refl))

-- and one less that waits, at the end of those
pub waits_less : {A : Type 0} (all old new ds : List A) (d : A) → all ≡ old ++ reverse ds → old ≡ new ++ option_to_list (Some d) → all ≡ new ++ reverse (ds ++ d ∷ [])
waits_less all old new ds d e f = e ∙ ap (λ xs. xs ++ reverse ds) f ∙ append_assoc new (d ∷ []) (reverse ds) ∙ ap (λ xs. new ++ xs) (sym (reverse-append ds (d ∷ [])))

pub none_waits : {A : Type 0} (all first old ds : List A) → first ≡ reverse all → old ≡ [] → first ≡ old ++ reverse ds → ds ≡ all
none_waits all first old ds e z h = sym (reverse-reverse ds) ∙ ap reverse (sym (sym e ∙ h ∙ ap (λ xs. xs ++ reverse ds) z)) ∙ reverse-reverse all
