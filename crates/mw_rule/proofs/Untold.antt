-- What is taken at a part that rules may change, and a rule of which it isn't told whether it applies there.
use Rattle.std.specs.Prelude.{◌≡◌, ℕ, List, true, Option, Some, None, refl}
use Rattle.std.proofs.Common.{sym, subst, ap, ◌∙◌}
use Rattle.mw_logic.specs.Term.{RawTerm, RawTerms, apply}
use Rattle.mw_logic.specs.Signature.{Signature}
use Rattle.mw_logic.specs.Accepted.{IsAccepted}
use Rattle.mw_logic.specs.Parts.{nested}
use Rattle.mw_logic.specs.CanonicalPart.{IsOpen, IsPartOf}
use Rattle.mw_logic.proofs.PartsOfNormalForm.{part_found}
use Rattle.mw_arguments.specs.Places.{chosen}
use Rattle.mw_deduction.specs.Tops as top
use Rattle.mw_deduction.specs.Tops.{IsTop, IsNormalTerm}
use Rattle.mw_logic.specs.Judgements.{admitted_judgements}
use Rattle.mw_proof.specs.declared.reason.Reason.{Reason}
use Rattle.mw_solving.specs.Values.{IsValue}
use Rattle.mw_index.specs.Choices.{IsTaken}
use Rattle.mw_index.proofs.TopParts.{taken_top}
use Rattle.mw_frames.specs.State.{Run, IsRun}
use Rattle.mw_frames.specs.Fires.{IsPartTaken}
use Rattle.mw_index.specs.declared.choices.Choice.{Choice}
use Rattle.mw_reduce.specs.Attempts.{IsHaltingAt}
use Rattle.mw_redexes.specs.Spots.{IsReached, IsOpenTop, whole, several}
use Rattle.mw_redexes.specs.Redexes.{IsFoundAt}
use Rattle.mw_rule.specs.Stepped.{IsUntoldIn}
use Rattle.mw_redexes.proofs.Reaching.{reached_part, open_part_of}
use Rattle.mw_redexes.proofs.Standing.{open_taken}

-- the numbers tell what is taken
pub one_taken_part : (sig : Signature) (take : Option (List ℕ)) (u w v : RawTerm) → IsTaken sig take u w → IsPartTaken sig take u v → v ≡ w
one_taken_part sig None u w v a b = b ∙ sym a
one_taken_part sig (Some ks) u w v a b =
    let x = a.takes in
    let y = b.takes in
    let (f, ts) = same (sym y.term ∙ x.term) in
    y.part ∙ ap (λ g. apply g (chosen 1 ks y.args)) f ∙ ap (λ zs. apply x.operator (chosen 1 ks zs)) ts ∙ sym x.part
  where
    same : {f g : ℕ} {ts us : RawTerms} → apply f ts ≡ apply g us → (f ≡ g) × (ts ≡ us)
    same e = (let z : _ ≡ _ = cc in z, cc)

pub untold : (K : Run) (sig : Signature) → IsRun K sig → (side : ℕ) (t u : RawTerm) → IsNormalTerm K.over (admitted_judgements K.over K.rank).Fails t → IsReached K.over.signature t u → IsValue K.over.signature u
    → (c : Choice) → IsFoundAt K.over u c → (why : Reason) → IsHaltingAt K.over true K.rank side u c.take why → IsUntoldIn K side t why
untold K sig run side t u n reached v c found why h =
    let here : Signature = K.over.signature in
    let w : RawTerm = found.choice.part in
    let same : h.part ≡ w = one_taken_part here c.take u w h.part found.choice.taken h.taken in
    let place : IsOpenTop here u w = open_taken here run.accepted c.take u w v found.choice.taken found.free in
    let p : IsPartOf here true t h.part = subst (IsPartOf here true t) (sym same) (reached_part here t u w reached (open_part_of here u w place)) in
    let (C, clear, part) = part_found here run.accepted {by_rule = true} {t = nested here t} h.part n.raw (subst (λ x. IsPartOf here true x h.part) (sym n.canonical) p) in
    record { context = C; part = nested here h.part; is_part = part; free = clear refl; halting = h.halting }
