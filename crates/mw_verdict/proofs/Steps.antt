-- A replacement at a place of a canonical term, as a step of a proof.
use Rattle.std.specs.Prelude.{◌≡◌, ℕ, List, Bool, Option, refl}
use Rattle.std.proofs.Common.{sym, subst, ◌∙◌}
use Rattle.mw_logic.specs.Term.{RawTerm, Context, plug}
use Rattle.mw_logic.specs.Signature.{Signature, IsRawTerm}
use Rattle.mw_logic.specs.Axioms.{EqualModulo, done}
use Rattle.mw_logic.specs.Parts.{nested, ReplacesPart}
use Rattle.mw_logic.specs.NormalForm.{normal_form}
use Rattle.mw_logic.specs.CanonicalPart.{ReplacesIn}
use Rattle.mw_logic.specs.Module.{Module}
use Rattle.mw_logic.specs.Proof.{Proof}
use Rattle.mw_logic.specs.Judgements.{Proves}
use Rattle.mw_logic.specs.WellFormed.{IsWellFormed}
use Rattle.mw_logic.proofs.AxiomLaws.{trans, sym as back, in_context}
use Rattle.mw_logic.proofs.Building.{at_place}
use Rattle.mw_logic.proofs.Soundness.{normal_form-sound}
use Rattle.mw_logic.proofs.Invariance.{normal_form-kept}
use Rattle.mw_logic.proofs.RawKept.{raw_kept}
use Rattle.mw_logic.proofs.RawLed.{Proves-raw}
use Rattle.mw_logic.proofs.ReplacingFound.{replacement_found}
use Rattle.mw_canon.specs.Canonical.{IsAdmittedTerm}
use Rattle.mw_redex.specs.Replaced.{ReplacesAt}
use Rattle.mw_redex.proofs.Standing.{place_in_term}

module _ (M : Module) (wf : IsWellFormed M) where
  abbrev sig : Signature
  sig = M.signature

  -- a leaf of a proof, at the place where it replaces W by X
  pub record Stepped (n : ℕ) (leaf : Proof) (W X t v : RawTerm) : Type 0 where
    pub place : Context
    pub proves : Proves M n (at_place place leaf) (nested sig t) (nested sig v)
    pub before : EqualModulo sig (nested sig t) (plug place W)
    pub after : EqualModulo sig (plug place X) (nested sig v)
    pub raw : IsRawTerm sig (nested sig v)
    pub canonical : normal_form sig (nested sig v) ≡ v

  pub stepped : (n : ℕ) (by_rule : Bool) (leaf : Proof) (W X t v : RawTerm) (path : List ℕ) (take : Option (List ℕ))
      → ((U : RawTerm) → (r : ReplacesPart sig by_rule (nested sig t) W X U) → Proves M n (at_place r.place leaf) (nested sig t) U)
      → IsRawTerm sig W → IsAdmittedTerm sig t → ReplacesAt sig by_rule (normal_form sig W) (normal_form sig X) path take t v → Stepped n leaf W X t v
  stepped n by_rule leaf W X t v path take prove raw_part h there =
      let w : RawTerm = normal_form sig W in
      let x : RawTerm = normal_form sig X in
      let p : ReplacesIn sig by_rule w x t v = place_in_term sig wf.accepted by_rule w x t v path take h.canonical there in
      let (C, o, part, g) = replacement_found sig wf.accepted {by_rule = by_rule} {t = nested sig t} w x v h.raw (subst (λ z. ReplacesIn sig by_rule w x z v) (sym h.canonical) p) in
      let same : EqualModulo sig W (nested sig w) = normal_form-sound sig wf.accepted raw_part in
      let at_plug : ReplacesPart sig by_rule (nested sig t) W X (plug C X) = record { place = C; part = nested sig w; for_rules = o; is_part = part; same = same; becomes = done } in
      let raw_plug : IsRawTerm sig (plug C X) = (Proves-raw M wf n (at_place C leaf) (nested sig t) (plug C X) (prove (plug C X) at_plug) h.raw).0 in
      let e : normal_form sig (plug C X) ≡ v = g X refl in
      let after : EqualModulo sig (plug C X) (nested sig v) = subst (λ z. EqualModulo sig (plug C X) (nested sig z)) e (normal_form-sound sig wf.accepted raw_plug) in
      record {
        place = C;
        proves = prove (nested sig v) (record { place = C; part = nested sig w; for_rules = o; is_part = part; same = same; becomes = after });
        before = trans part.equal (in_context C (back same));
        after = after;
        raw = (raw_kept sig wf.accepted after).0 raw_plug;
        canonical = sym (normal_form-kept sig wf.accepted after) ∙ e;
      }
