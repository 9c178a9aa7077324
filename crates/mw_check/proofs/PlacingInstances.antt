-- Canonical instances of the sides of statements.
use Rattle.std.specs.Prelude.{◌≡◌, ℕ, IsTrue, ◌&&◌, refl}
use Rattle.std.proofs.Common.{sym, subst}
use Rattle.std.proofs.lemmas.Bool.{and_parts}
use Rattle.mw_logic.specs.Term.{RawTerm}
use Rattle.mw_logic.specs.Signature.{Signature, HasKind, IsRawTerm, SameKind}
use Rattle.mw_logic.specs.Accepted.{IsAccepted, IsWellSorted}
use Rattle.mw_logic.specs.Axioms.{EqualModulo}
use Rattle.mw_logic.specs.Substitution.{Substitution, instance, binds, IsSubstitution}
use Rattle.mw_logic.specs.Parts.{nested, IsAdmitted, IsTooDeep, IsTooLarge}
use Rattle.mw_logic.specs.NormalForm.{normal_form}
use Rattle.mw_logic.specs.Module.{Statement, binds_fragments, binds_statement}
use Rattle.mw_logic.proofs.Canonical.{canonical}
use Rattle.mw_logic.proofs.CanonicalTerms.{fixed}
use Rattle.mw_logic.proofs.EqualTerms.{IsAdmitted-equal}
use Rattle.mw_logic.proofs.InstanceLaws.{instance_kind}
use Rattle.mw_logic.proofs.RawKept.{raw_kept, kind_unique}
use Rattle.mw_logic.proofs.Restricted.{binds_each, instance_ground}
use Rattle.mw_logic.proofs.SolutionLaws.{instance_raw, substitution_kinds}
use Rattle.mw_logic.proofs.Soundness.{normal_form-sound, HasKind-same}
use Rattle.mw_canon.specs.Canonical.{IsAdmittedTerm, meant}
use Rattle.mw_canon.specs.Causes.{HasCause}
use Rattle.mw_canon.specs.declared.CanonError.{CanonError}
use Rattle.mw_canon.specs.declared.CanonError.TheVariants.{Deep, Nat, Memory}
use Rattle.mw_least.specs.Workable.{AreSides}
use Rattle.mw_proof.proofs.Written.{instance_written}

-- the right side is bound
pub right_bound : (s : Substitution) (st : Statement) → IsTrue (binds_statement s st) → IsTrue (binds s st.right)
right_bound s st h = (and_parts (binds s st.left) (binds s st.right) (and_parts (binds s st.left && binds s st.right) (binds_fragments s st.fragments) h).0).1

module _ (sig : Signature) (ok : IsAccepted sig) (sorted : IsWellSorted sig) where
  -- the sides of a statement have instances of the same kinds
  pub kinds_of_sides : (s : Substitution) → IsSubstitution sig s → (st : Statement) → AreSides sig st → (L : ℕ) → HasKind sig (instance s st.left) L → HasKind sig (instance s st.right) L
  kinds_of_sides s is st sides L h =
      let kinds : _ = substitution_kinds sig ok sorted s is in
      let (K, a, b) = sides.kinds in
      let same : SameKind sig K L = kind_unique sig ok (instance_kind sig s kinds a) h in
      HasKind-same (instance_kind sig s kinds b) same

  module _ (s : Substitution) (is : IsSubstitution sig (meant sig s)) (t : RawTerm) (raw : IsRawTerm sig t) where
    abbrev i : RawTerm
    i = instance (meant sig s) t

    raw_instance : IsRawTerm sig i
    raw_instance = instance_raw sig ok sorted (meant sig s) is raw

    -- in a signature that is this one
    module _ (S : Signature) (e : S ≡ sig) where
      here : (P : Signature → RawTerm → Type 0) → P S (instance (meant S s) (nested S t)) → P sig i
      here P h = subst (P sig) (instance_written sig ok sorted s is t raw) (subst (λ z. P z (instance (meant z s) (nested z t))) e h)

      pub instance_admitted : IsTrue (binds (meant sig s) t) → (u : RawTerm) → u ≡ normal_form S (instance (meant S s) (nested S t)) → (IsTooDeep S (instance (meant S s) (nested S t)) → ⊥) → (IsTooLarge S (instance (meant S s) (nested S t)) → ⊥)
          → (u ≡ normal_form sig i) × IsAdmittedTerm sig u
      instance_admitted bound u is_u low small =
          let made : u ≡ normal_form sig i = here (λ z j. u ≡ normal_form z j) is_u in
          let n : EqualModulo sig i (nested sig (normal_form sig i)) = normal_form-sound sig ok raw_instance in
          let admitted : IsAdmitted sig i = record {
            ground = instance_ground sig (meant sig s) is t (binds_each (meant sig s) t bound);
            not_deep = here (λ z j. IsTooDeep z j → ⊥) low;
            not_large = here (λ z j. IsTooLarge z j → ⊥) small;
          } in
          let canonical_one : IsAdmittedTerm sig (normal_form sig i) = record {
            raw = (raw_kept sig ok n).0 raw_instance;
            canonical = fixed sig ok (normal_form sig i) (canonical sig ok i);
            admitted = IsAdmitted-equal sig n admitted;
          } in
          (made, subst (IsAdmittedTerm sig) (sym made) canonical_one)

      pub instance_not_admitted : (c : CanonError) → (c ≡ Memory → ⊥) → HasCause S (instance (meant S s) (nested S t)) c → IsAdmitted sig i → ⊥
      instance_not_admitted c other h a = by_cause c other (here (λ z j. HasCause z j c) h)
        where
          by_cause : (c : CanonError) → (c ≡ Memory → ⊥) → HasCause sig i c → ⊥
          by_cause Deep other h = a.not_deep h
          by_cause Nat other h = a.not_large h.0
          by_cause Memory other h = other refl
