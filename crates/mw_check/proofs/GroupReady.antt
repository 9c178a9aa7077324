-- The sides of fragments whose variables have admitted values, and where they begin.
use Rattle.std.specs.Prelude.{◌≡◌, List, [], ◌∷◌, true, ◌&&◌, Some, None, refl}
use Rattle.std.proofs.Common.{ap, sym, subst}
use Rattle.std.proofs.lemmas.Bool.{and_parts}
use Rattle.mw_logic.specs.Term.{RawTerm}
use Rattle.mw_logic.specs.Signature.{Signature, IsRawTerm}
use Rattle.mw_logic.specs.Accepted.{IsAccepted, IsWellSorted}
use Rattle.mw_logic.specs.Axioms.{EqualModulo}
use Rattle.mw_logic.specs.Substitution.{Substitution, instance, binds, IsSubstitution}
use Rattle.mw_logic.specs.Parts.{nested, IsAdmitted, IsTooDeep, IsTooLarge}
use Rattle.mw_logic.specs.NormalForm.{normal_form}
use Rattle.mw_logic.specs.Module.{Fragment, equal, matches, has_sort, is_true, Module}
use Rattle.mw_logic.specs.Ends.{by_depth, by_nat}
use Rattle.mw_logic.proofs.Canonical.{canonical}
use Rattle.mw_logic.proofs.CanonicalTerms.{fixed}
use Rattle.mw_logic.proofs.EqualTerms.{IsAdmitted-equal}
use Rattle.mw_logic.proofs.RawKept.{raw_kept}
use Rattle.mw_logic.proofs.Restricted.{binds_each, instance_ground}
use Rattle.mw_logic.proofs.SolutionLaws.{instance_raw}
use Rattle.mw_logic.proofs.Soundness.{normal_form-sound}
use Rattle.mw_canon.specs.Canonical.{IsAdmittedTerm, meant}
use Rattle.mw_canon.specs.Causes.{HasCause}
use Rattle.mw_canon.specs.declared.CanonError.{CanonError}
use Rattle.mw_canon.specs.declared.CanonError.TheVariants.{Deep, Nat, Memory}
use Rattle.mw_least.specs.Workable.{IsWorkable}
use Rattle.mw_proof.proofs.Written.{instance_written, written_raw}
use Rattle.mw_check.specs.Answers.{HasRawPattern}
use Rattle.mw_check.specs.Groups.{AreValues, IsReadySide, AreReady, IsStart}

module _ (sig : Signature) (s : Substitution) where
  -- the first fragment and the others
  pub ready_first : (f : Fragment) (C : List Fragment) → AreReady sig s (f ∷ C) → AreReady sig s (f ∷ []) × AreReady sig s C
  ready_first (equal u v) C h =
      let (a, b) = and_parts (binds s u && binds s v) _ h.bound in (record { raw = (h.raw.0, h.raw.1, tt); bound = ap (λ z. z && true) a }, record { raw = h.raw.2; bound = b })
  ready_first (matches p t) C h =
      let (a, b) = and_parts (binds s p && binds s t) _ h.bound in (record { raw = (h.raw.0, h.raw.1, tt); bound = ap (λ z. z && true) a }, record { raw = h.raw.2; bound = b })
  ready_first (has_sort t S) C h = let (a, b) = and_parts (binds s t) _ h.bound in (record { raw = (h.raw.0, h.raw.1, tt); bound = ap (λ z. z && true) a }, record { raw = h.raw.2; bound = b })
  ready_first (is_true t) C h = let (a, b) = and_parts (binds s t) _ h.bound in (record { raw = (h.raw.0, tt); bound = ap (λ z. z && true) a }, record { raw = h.raw.1; bound = b })

  pub raw_pattern : IsAccepted sig → IsWellSorted sig → IsSubstitution sig s → (f : Fragment) → AreReady sig s (f ∷ []) → HasRawPattern sig s f
  raw_pattern ok sorted is (equal u v) h = tt
  raw_pattern ok sorted is (matches p t) h = instance_raw sig ok sorted s is h.raw.0
  raw_pattern ok sorted is (has_sort t S) h = tt
  raw_pattern ok sorted is (is_true t) h = tt

-- A side's instance.
module _ (M : Module) (work : IsWorkable M) (values : Substitution) (h : AreValues M.signature values) (l : RawTerm) (ready : IsReadySide M.signature (meant M.signature values) l) where
  abbrev sig : Signature
  sig = M.signature

  abbrev side : RawTerm
  side = instance (meant sig values) l

  pub side_raw : IsRawTerm sig side
  side_raw = instance_raw sig work.signature.accepted work.signature.well_sorted (meant sig values) h.sorted ready.raw

  -- what is asked of what is computed of it
  pub start_raw : (S : Signature) → S ≡ sig → IsRawTerm S (instance (meant S values) (nested S l))
  start_raw S e = written_raw sig work.signature.accepted work.signature.well_sorted values h.sorted l ready.raw S e

  abbrev written : RawTerm
  written = instance (meant sig values) (nested sig l)

  same_instance : written ≡ side
  same_instance = instance_written sig work.signature.accepted work.signature.well_sorted values h.sorted l ready.raw

  at_side : (P : Signature → RawTerm → Type 0) (S : Signature) → S ≡ sig → P S (instance (meant S values) (nested S l)) → P sig side
  at_side P S e p = subst (P sig) same_instance (subst (λ z. P z (instance (meant z values) (nested z l))) e p)

  -- it is admitted
  pub starts : (S : Signature) → S ≡ sig → (t : RawTerm) → t ≡ normal_form S (instance (meant S values) (nested S l))
      → ¬ IsTooDeep S (instance (meant S values) (nested S l)) → ¬ IsTooLarge S (instance (meant S values) (nested S l)) → IsStart M side (Some t)
  starts S e t is deep large =
      let a : IsAdmitted sig side = record {
        ground = instance_ground sig (meant sig values) h.sorted l (binds_each (meant sig values) l ready.bound);
        not_deep = at_side (λ z u. ¬ IsTooDeep z u) S e deep;
        not_large = at_side (λ z u. ¬ IsTooLarge z u) S e large;
      } in
      let k : t ≡ normal_form sig side = at_side (λ z u. t ≡ normal_form z u) S e is in
      let m : EqualModulo sig side (nested sig (normal_form sig side)) = normal_form-sound sig work.signature.accepted side_raw in
      let b : IsAdmittedTerm sig (normal_form sig side) = record {
        raw = (raw_kept sig work.signature.accepted m).0 side_raw;
        canonical = fixed sig work.signature.accepted (normal_form sig side) (canonical sig work.signature.accepted side);
        admitted = IsAdmitted-equal sig m a;
      } in
      (k, side_raw, a, subst (IsAdmittedTerm sig) (sym k) b)

  -- or it is not
  pub never_starts : (S : Signature) → S ≡ sig → (c : CanonError) → (c ≡ Memory → ⊥) → HasCause S (instance (meant S values) (nested S l)) c → IsStart M side None
  never_starts S e Deep n h = (by_depth, at_side IsTooDeep S e h)
  never_starts S e Nat n h = (by_nat, at_side (λ z u. IsTooLarge z u × ¬ IsTooDeep z u) S e h)
  never_starts S e Memory n h = absurd (n refl)
