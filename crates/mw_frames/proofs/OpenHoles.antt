-- Holes that rules may change: what several arguments stand in is open where the arguments are, and what the whole stands in.
use Rattle.std.specs.Prelude.{◌≡◌, List, ◌∷◌, ℕ, true, ◌||◌, Some, refl}
use Rattle.std.proofs.Common.{subst, sym}
use Rattle.mw_logic.specs.Term.{RawTerm, RawTerms, nil, cons}
use Rattle.mw_logic.specs.Signature.{Signature}
use Rattle.mw_logic.specs.Accepted.{IsAccepted}
use Rattle.mw_logic.specs.Parts.{is_assoc, all_nested, chain, IsFrozenArgument, IsFrozen}
use Rattle.mw_logic.specs.NormalForm.{is_comm}
use Rattle.mw_logic.specs.CanonicalPart.{IsOpen}
use Rattle.mw_logic.proofs.Frozen.{IsUnfrozen, IsOpenContext, open_append, open_hole, open_frame, both_open}
use Rattle.mw_deduction.specs.Places.{frame, context_of}
use Rattle.mw_deduction.specs.Standing.{Open, round}
use Rattle.mw_deduction.specs.Replay.{opened}
use Rattle.mw_frames.specs.declared.job.Job.TheVariants.{Try}
use Rattle.mw_frames.specs.declared.job.Frame.{Frame}
use Rattle.mw_frames.specs.Several.{IsSeveral}
use Rattle.mw_frames.specs.State.{Run, Data, IsRun, InHand}
use Rattle.mw_frames.specs.Redex.{HasOnTop}
use Rattle.mw_frames.specs.Fires.{IsOpenTo}
use Rattle.mw_frames.specs.Taking.{IsPartAsked}

module _ (sig : Signature) (ok : IsAccepted sig) (f : ℕ) (assoc : is_assoc sig f ≡ true) (free : ¬ IsFrozenArgument sig f 1) where
  both : IsUnfrozen sig true f 1 × IsUnfrozen sig true f 2
  both =
      let k : (is_assoc sig f || is_comm sig f) ≡ true = rw assoc refl in
      let p : IsOpen sig true f 1 = rw k (λ t x. free x) in
      both_open sig ok true f 1 assoc p

  holes_open : (b a : RawTerms) → IsOpenContext sig true (context_of true f b a)
  holes_open nil nil = open_hole sig true
  holes_open nil (cons t ts) = open_frame sig true (frame f nil (cons (chain f t ts) nil)) both.0
  holes_open (cons b bs) a = open_append sig true (context_of true f bs a) _ (holes_open bs a) (open_frame sig true (frame f (cons b nil) nil) both.1)

  pub open_inside : (b a : RawTerms) (os : List Open) → ¬ IsFrozen sig (round sig os) → ¬ IsFrozen sig (round sig (opened f b a ∷ os))
  open_inside b a os around = rw assoc (open_append sig true (context_of true f (all_nested sig b) (all_nested sig a)) (round sig os) (holes_open (all_nested sig b) (all_nested sig a)) (λ t x. around x) refl)

-- So several arguments of a term may be changed by a rule where the term is open to one that takes them.
pub open_part : (K : Run) (sig : Signature) → IsRun K sig → (count : ℕ) (m n : Data) (t w : RawTerm) (ks : List ℕ) (f : Frame) (h : InHand K count m (Try t)) → (part : IsPartAsked K count n f w h.stand)
    → IsOpenTo K count m t (Some ks) → IsSeveral K.over.signature ks t w → HasOnTop f.op t → ¬ IsFrozen K.over.signature (round K.over.signature part.asked.holds.stand.opens)
open_part K sig run count m n t w ks f h part clear several on =
    let here : Signature = K.over.signature in
    let taken = several.takes in
    let free : ¬ IsFrozenArgument here f.op 1 = subst (λ g. ¬ IsFrozenArgument here g 1) (on taken.operator taken.args taken.term) (clear.inside ks taken.operator taken.args refl taken.term) in
    subst (λ os. ¬ IsFrozen here (round here os)) (sym part.opens) (open_inside here run.accepted f.op part.assoc free part.before part.after h.stand.opens (clear.around h.stand h.leads))
