-- What the ends of a fragment's sides are that meet it.
use Rattle.std.specs.Prelude.{◌≡◌, ◌↔◌, ◌<◌, ◌≤◌, ℕ, List, [], ◌∷◌, length, get_or, Bool, true, false, IsTrue, codes, refl}
use Rattle.std.proofs.Common.{ap, sym, subst, ◌∙◌, arith}
use Rattle.std.proofs.lemmas.Bool.{both_ways}
use Rattle.std.proofs.lemmas.Option.{same_Some}
use Rattle.mw_logic.specs.Term.{RawTerm, numeral, quoted, variable, apply, RawTerms, nil, cons, constant}
use Rattle.mw_logic.specs.Signature.{Signature, Operator, at_number, IsRawTerm, an_operator, AreRawTerms, next}
use Rattle.mw_logic.specs.Accepted.{IsAccepted}
use Rattle.mw_logic.specs.Axioms.{EqualModulo, done}
use Rattle.mw_logic.specs.Substitution.{Substitution, instance, instances}
use Rattle.mw_logic.specs.Parts.{is_assoc, nested, all_nested, nest, IsAdmitted}
use Rattle.mw_logic.specs.NormalForm.{normal_form}
use Rattle.mw_logic.specs.Module.{Fragment, equal, IsNamed, IsTruth}
use Rattle.mw_logic.proofs.AxiomLaws.{sym as back}
use Rattle.mw_logic.proofs.Canonical.{assoc_operator, same_operator}
use Rattle.mw_logic.proofs.EqualTerms.{IsAdmitted-equal}
use Rattle.mw_logic.proofs.Invariance.{normal_form-kept}
use Rattle.mw_logic.proofs.Soundness.{normal_form-sound}
use Rattle.mw_builtin.proofs.Giving.{kept_truth, nested_constant}
use Rattle.mw_canon.specs.Canonical.{IsAdmittedTerm, meant}
use Rattle.mw_canon.specs.Causes.{HasCause}
use Rattle.mw_canon.specs.declared.CanonError.{CanonError}
use Rattle.mw_canon.specs.declared.CanonError.TheVariants.{Deep, Nat}
use Rattle.mw_verdict.specs.Checks.{Meets}
use Rattle.mw_check.specs.Answers.{AreAdmittedTerms}

-- a pattern whose instance is a raw term is its own nesting: an associative operator has two arguments there
module _ (sig : Signature) (ok : IsAccepted sig) (s : Substitution) where
  two_nested : (f K L : ℕ) (ts : RawTerms) → AreRawTerms sig (instances s ts) (K ∷ L ∷ []) → nest true f ts ≡ apply f ts
  two_nested f K L nil raw = elim raw [ ]
  two_nested f K L (cons t nil) (next r h rest) = elim rest [ ]
  two_nested f K L (cons t (cons u nil)) raw = refl
  two_nested f K L (cons t (cons u (cons v vs))) (next r h (next q i rest)) = elim rest [ ]

  mutual
    pub pattern_nested : (p : RawTerm) → IsRawTerm sig (instance s p) → nested sig p ≡ p
    pattern_nested (numeral n) raw = refl
    pattern_nested (quoted q) raw = refl
    pattern_nested (variable x) raw = refl
    pattern_nested (apply f ts) (an_operator o is args) = ap (nest (is_assoc sig f) f) (all_nested_are ts o.args args) ∙ by_assoc (is_assoc sig f) refl
      where
        by_assoc : (b : Bool) → is_assoc sig f ≡ b → nest b f ts ≡ apply f ts
        by_assoc false e = refl
        by_assoc true e =
            let (p, there, a) = assoc_operator sig f e in
            let (K, L, two, k, l) = ok.assoc f p there a in
            two_nested f K L ts (subst (AreRawTerms sig (instances s ts)) two (subst (λ (q : Operator). AreRawTerms sig (instances s ts) q.args) (same_operator sig f o p is there) args))

    all_nested_are : (ts : RawTerms) (Ks : List ℕ) → AreRawTerms sig (instances s ts) Ks → all_nested sig ts ≡ ts
    all_nested_are nil Ks raw = refl
    all_nested_are (cons t ts) Ks (next {Ks = Ls} r h rest) = ap (λ u. cons u (all_nested sig ts)) (pattern_nested t r) ∙ ap (cons t) (all_nested_are ts Ls rest)

-- a term isn't both truth values
not_both : (sig : Signature) (a : RawTerm) → IsTruth sig false a → IsTruth sig true a → ⊥
not_both sig a (c, e, n) (d, f, m) = apart c d (sym e ∙ f) n m
  where
    apart : (c d : ℕ) → constant c ≡ constant d → IsNamed sig c (codes "false") [] (codes "Bool") → IsNamed sig d (codes "true") [] (codes "Bool") → ⊥
    apart c d e n m =
        let k : c ≡ d = cc in
        let same : n.operator ≡ m.operator = same_Some n.operator m.operator (sym n.is_there ∙ ap (at_number sig.operators) k ∙ m.is_there) in
        let z : codes "false" ≡ codes "true" = sym n.spelled ∙ ap (λ (o : Operator). o.spelling) same ∙ m.spelled in
        cc

module _ (sig : Signature) (ok : IsAccepted sig) (a : RawTerm) (h : IsAdmittedTerm sig a) where
  -- a truth value is its own nesting
  truth_nested : (b : Bool) → IsTruth sig b a → IsTruth sig b (nested sig a)
  truth_nested b (c, e, named) = (c, ap (nested sig) e ∙ nested_constant sig c, named)

  truth_canonical : (b : Bool) → IsTruth sig b (nested sig a) → IsTruth sig b a
  truth_canonical b (c, e, named) = (c, sym h.canonical ∙ ap (normal_form sig) e ∙ kept_truth sig ok b c named, named)

  pub truth_told : (b : Bool) → IsTruth sig b a → IsTrue b ↔ IsTruth sig true (nested sig a)
  truth_told true t = (λ e. truth_nested true t, λ k. refl)
  truth_told false t = (λ e. absurd (both_ways false refl e), λ k. absurd (not_both sig a t (truth_canonical true k)))

  pub no_truth : ((b : Bool) → IsTruth sig b a → ⊥) → IsTrue false ↔ IsTruth sig true (nested sig a)
  no_truth none = (λ e. absurd (both_ways false refl e), λ k. absurd (none true (truth_canonical true k)))

-- what the pattern's instance is, as it is built, to a canonical term
module _ (sig : Signature) (ok : IsAccepted sig) (values : Substitution) (p : RawTerm) (raw : IsRawTerm sig (instance (meant sig values) p)) (S : Signature) (is : S ≡ sig) where
  abbrev there : RawTerm
  there = instance (meant sig values) p

  abbrev built : RawTerm
  built = instance (meant S values) (nested S p)

  written : instance (meant sig values) (nested sig p) ≡ there
  written = ap (instance (meant sig values)) (pattern_nested sig ok (meant sig values) p raw)

  pub pattern_raw : IsRawTerm S built
  pattern_raw = subst (λ z. IsRawTerm z (instance (meant z values) (nested z p))) (sym is) (subst (IsRawTerm sig) (sym written) raw)

  normal_there : normal_form S built ≡ normal_form sig there
  normal_there = ap (λ z. normal_form z (instance (meant z values) (nested z p))) is ∙ ap (normal_form sig) written

  cause_there : (e : CanonError) → HasCause S built e → HasCause sig there e
  cause_there e h = subst (λ t. HasCause sig t e) written (subst (λ z. HasCause z (instance (meant z values) (nested z p)) e) is h)

  module _ (a : RawTerm) (h : IsAdmittedTerm sig a) where
    -- it is equal to the term exactly where its normal form is that
    pub same_met : (t : RawTerm) (b : Bool) → t ≡ normal_form S built → IsTrue b ↔ (t ≡ a) → IsTrue b ↔ EqualModulo sig there (nested sig a)
    same_met t b e g = (
      λ k. subst (λ c. EqualModulo sig there (nested sig c)) (sym normal_there ∙ sym e ∙ g.0 k) (normal_form-sound sig ok raw),
      λ m. g.1 (e ∙ normal_there ∙ normal_form-kept sig ok m ∙ h.canonical),
    )

    equal_admitted : EqualModulo sig there (nested sig a) → IsAdmitted sig there
    equal_admitted m = IsAdmitted-equal sig (back m) h.admitted

    -- so it is neither too deep nor too large
    pub deep_missed : (e : CanonError) → e ≡ Deep → HasCause S built e → IsTrue false ↔ EqualModulo sig there (nested sig a)
    deep_missed e q d = (λ k. absurd (both_ways false refl k), λ m. absurd ((equal_admitted m).not_deep (subst (HasCause sig there) q (cause_there e d))))

    pub large_missed : (e : CanonError) → e ≡ Nat → HasCause S built e → IsTrue false ↔ EqualModulo sig there (nested sig a)
    large_missed e q d = (λ k. absurd (both_ways false refl k), λ m. absurd ((equal_admitted m).not_large (subst (HasCause sig there) q (cause_there e d)).0))

-- two ends that are one term meet an equation
pub two_met : (sig : Signature) → IsAccepted sig → (s : Substitution) (f : Fragment) (u v : RawTerm) → f ≡ equal u v → (xs : List RawTerm) → 2 ≤ length xs → length xs < 3 → (a b : RawTerm)
    → a ≡ get_or xs 0 a → b ≡ get_or xs 1 b → AreAdmittedTerms sig xs → (r : Bool) → IsTrue r ↔ (a ≡ b) → IsTrue r ↔ Meets sig s f xs
two_met sig ok s f u v e [] l m a b p q h r g = absurd (omega (arith, l))
two_met sig ok s f u v e (x ∷ []) l m a b p q h r g = absurd (omega (arith, l))
two_met sig ok s f u v e (x ∷ y ∷ z ∷ zs) l m a b p q h r g = absurd (omega (arith, m))
two_met sig ok s f u v e (x ∷ y ∷ []) l m a b p q h r g =
    subst (λ k. IsTrue r ↔ Meets sig s k (x ∷ y ∷ [])) (sym e) (
      λ k. subst (λ c. EqualModulo sig (nested sig x) (nested sig c)) (sym p ∙ g.0 k ∙ q) done,
      λ w. g.1 (p ∙ sym h.0.canonical ∙ normal_form-kept sig ok w ∙ h.1.0.canonical ∙ sym q),
    )
