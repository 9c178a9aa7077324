-- Which sorts a term has, by its least one; and that sorts which aren't there stand in no pair.
use Rattle.std.specs.Prelude.{ℕ, ◌≡◌, ◌⊎◌, ◌↔◌, List, [], ◌∷◌, nat_eq, IsTrue, refl}
use Rattle.std.proofs.Common.{inl, inr, sym, subst, ◌∙◌, ⊎_elim}
use Rattle.std.proofs.lemmas.Bool.{eqb-true}
use Rattle.mw_logic.specs.Term.{RawTerm, RawTerms, apply}
use Rattle.mw_logic.specs.Signature.{Signature, Sorted, sort, Operator, IsOperator, IsRawTerm, Declaration, Member}
use Rattle.mw_logic.specs.Sorts.{AtOrBelow, IsBelow, HasSort, IsLeastSort, swapped}
use Rattle.mw_logic.specs.Parts.{nested}
use Rattle.mw_logic.specs.NormalForm.{normal_form}
use Rattle.mw_logic.specs.Preregular.{IsSortOf, HasItsSorts}
use Rattle.mw_logic.proofs.Canonical.{nat_eq-refl, same_operator, IsCanonical, canonical}
use Rattle.mw_logic.proofs.BelowLaws.{IsBelow-trans}
use Rattle.mw_logic.proofs.Invariance.{normal_form-kept}
use Rattle.mw_logic.proofs.RawKept.{raw_kept}
use Rattle.mw_builtin.proofs.Forms.{not_alone}
use Rattle.mw_sorting.specs.ComputedSorts.{IsResultOn, ComputedSort, plain_sort, chain_sort, last, before}
use Rattle.mw_sorting.specs.PreregularModulo.{IsPreregularModulo}
use Rattle.mw_sorting.proofs.Leastness.{lowest}

-- a term has the sorts that its least one is below
pub has_below : (sig : Signature) (t : RawTerm) (L : Sorted) (S : ℕ) → IsLeastSort sig t L → IsBelow sig L (sort S) ↔ HasSort sig t (sort S)
has_below sig t L S h = (
  λ b. record { form = h.has.form; equal = h.has.equal; declared = h.has.declared; is_declared = h.has.is_declared; below = IsBelow-trans sig h.has.declared L (sort S) h.has.below b },
  λ k. h.least (sort S) k,
)

module _ (sig : Signature) (numbers : HasItsSorts sig) where
  there_above : {S T : ℕ} → IsSortOf sig S → AtOrBelow sig.pairs S T → IsSortOf sig T
  there_above h AtOrBelow.same = h
  there_above h (AtOrBelow.above {S} {T} m b) = there_above (numbers.pairs S T m).1 b

  one_or_there : {S T : ℕ} → AtOrBelow sig.pairs S T → (S ≡ T) ⊎ (IsSortOf sig S × IsSortOf sig T)
  one_or_there AtOrBelow.same = inl refl
  one_or_there (AtOrBelow.above {S} {T} m b) = let p = numbers.pairs S T m in inr (p.0, there_above p.1 b)

  -- of sorts that aren't both there one is below the other where they are one
  pub below_elsewhere : (S T : ℕ) → (IsSortOf sig S → IsSortOf sig T → ⊥) → IsTrue (nat_eq S T) ↔ AtOrBelow sig.pairs S T
  below_elsewhere S T n = (
    λ h. subst (AtOrBelow sig.pairs S) (eqb-true S T h) AtOrBelow.same,
    λ b. ⊎_elim (λ (e : S ≡ T). subst (λ U. IsTrue (nat_eq S U)) e (nat_eq-refl S)) (λ (p : IsSortOf sig S × IsSortOf sig T). absurd (n p.0 p.1)) (one_or_there b),
  )

-- a canonical term's sorts are at or above the result of a declaration of the operator on top
module _ (sig : Signature) (ok : IsPreregularModulo sig) where
  declared_by : (o : Operator) (Ss : List Sorted) (R : Sorted) (S : ℕ) → IsResultOn sig o Ss R → IsBelow sig R (sort S) → (d : Declaration) × Member d o.declarations × IsBelow sig d.result (sort S)
  declared_by o Ss R S (inl l) b = ⊎_elim
      (λ m. (record { args = l.takes.args; result = R }, m, b))
      (λ m. (record { args = swapped l.takes.args; result = R }, m.1, b))
      l.takes.declares
  declared_by o Ss R S (inr n) b = absurd (subst (λ (Q : Sorted). IsBelow sig Q (sort S)) n.1 b)

  by_shape : (f : ℕ) (ts : RawTerms) (C : Sorted) (S : ℕ) (o : Operator) → IsOperator sig f o → IsCanonical sig (apply f ts) → ComputedSort sig (apply f ts) C → IsBelow sig C (sort S) → (d : Declaration) × Member d o.declarations × IsBelow sig d.result (sort S)
  by_shape f ts C S o is k (plain_sort {Ss = Ss} p there h ss r) b = declared_by o Ss C S (subst (λ (q : Operator). IsResultOn sig q Ss C) (same_operator sig f p o there is) r) b
  by_shape f ts C S o is k (chain_sort p there h (last {t = t} s)) b = absurd (not_alone sig f t h k)
  by_shape f ts C S o is k (chain_sort p there h (before {S = A} {Q = B} s q r)) b = declared_by o (A ∷ B ∷ []) C S (subst (λ (q : Operator). IsResultOn sig q (A ∷ B ∷ []) C) (same_operator sig f p o there is) r) b

  pub declared_result : (f : ℕ) (ts : RawTerms) (S : ℕ) (o : Operator) → IsOperator sig f o → normal_form sig (nested sig (apply f ts)) ≡ apply f ts → IsRawTerm sig (nested sig (apply f ts)) → HasSort sig (nested sig (apply f ts)) (sort S)
      → (d : Declaration) × Member d o.declarations × IsBelow sig d.result (sort S)
  declared_result f ts S o is fixed raw h =
      let (C, c, b) = lowest sig ok h.form h.declared ((raw_kept sig ok.accepted h.equal).0 raw) h.is_declared in
      let e : normal_form sig h.form ≡ apply f ts = sym (normal_form-kept sig ok.accepted h.equal) ∙ fixed in
      by_shape f ts C S o is (subst (IsCanonical sig) fixed (canonical sig ok.accepted (nested sig (apply f ts)))) (subst (λ t. ComputedSort sig t C) e c) (IsBelow-trans sig C h.declared (sort S) b h.below)
