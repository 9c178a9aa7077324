-- Whether a right side fits where the machine has a term in hand.
use Rattle.std.specs.Prelude.{◌≡◌, ◌-◌, ◌^◌, min, ℕ, List, [], false, IsTrue}
use Rattle.std.proofs.Common.{sym, subst}
use Rattle.mw_logic.specs.Term.{RawTerm}
use Rattle.mw_logic.specs.Terms.{terms_of}
use Rattle.mw_logic.specs.Signature.{Signature}
use Rattle.mw_logic.specs.NormalForm.{height, has_largest, some_largest}
use Rattle.mw_position.specs.Positions.{fill}
use Rattle.mw_matching.specs.Matches.{evaluated}
use Rattle.mw_pattern.specs.Clean.{clean}
use Rattle.mw_deduction.specs.Standing.{Open, AreClear}
use Rattle.mw_deduction.specs.Replay.{Move}
use Rattle.mw_frames.specs.declared.applying.Applied.{Applied}
use Rattle.mw_frames.specs.declared.job.Job.TheVariants.{Walk}
use Rattle.mw_frames.specs.declared.limits.Fit.{Fit}
use Rattle.mw_canon.specs.Free.{IsFree}
use Rattle.mw_frames.specs.Jobs.{AreOpened}
use Rattle.mw_frames.specs.Larger.{AreSmall, IsFit}
use Rattle.mw_frames.specs.State.{Run, Data, IsRun, InHand}
use Rattle.mw_frames.specs.Fires.{IsApplied}
use Rattle.mw_frames.specs.Redex.{IsRowOf}
use Rattle.mw_frames.proofs.FiringHere.{at_it, small_here}
use Rattle.mw_frames.proofs.RowsMet.{row_small}
use Rattle.mw_frames.proofs.SmallValues.{redex_small}

-- what is told of a right side in any holes
abbrev pub FitsIn : Signature → Data → Applied → List RawTerm → Fit → Type 0
FitsIn sig m by vs fit =
    (os : List Open) → AreClear sig os → AreSmall sig os → AreOpened sig m.values m.frames m.done m.jobs os → some_largest sig (terms_of vs) ≡ false
    → (IsTrue by.free → IsFree sig (clean by.right.now)) → by.levels ≡ min (height (fill [] (clean by.right.now))) (2 ^ 16 - 1) → IsFit sig m.frames os (evaluated sig vs (clean by.right.now)) fit

module _ (K : Run) (sig : Signature) (run : IsRun K sig) (count : ℕ) (m : Data) (w : RawTerm) (h : InHand K count m (Walk w)) where
  pub fits_there : (by : Applied) (ss : List Move) (vs : List RawTerm) → IsApplied K.over K.rank by ss vs w → (fit : Fit) → FitsIn sig m by vs fit → IsFit K.over.signature m.frames h.stand.opens (evaluated K.over.signature vs (clean by.right.now)) fit
  fits_there by ss vs is fit told =
      let (clear, small, own) = small_here K sig run count m w h in
      let k = (at_it K sig run count m w h).canonical in
      subst (λ s. FitsIn s m by vs fit) (sym run.signature) told h.stand.opens clear small h.opened
      (redex_small K.over run.accepted run.sorted K.rank by.number ss vs (clean by.right.now) w is.redex k own) is.free is.levels

abbrev pub RowFitsIn : Signature → Data → RawTerm → Fit → Type 0
RowFitsIn sig m t fit =
    (os : List Open) → AreClear sig os → AreSmall sig os → AreOpened sig m.values m.frames m.done m.jobs os → false ≡ has_largest sig t → IsFit sig m.frames os t fit

module _ (K : Run) (sig : Signature) (run : IsRun K sig) (count : ℕ) (m : Data) (w : RawTerm) (h : InHand K count m (Walk w)) where
  pub row_fits_there : (t : RawTerm) → IsRowOf K.over K.rank w t → (fit : Fit) → RowFitsIn sig m t fit → IsFit K.over.signature m.frames h.stand.opens t fit
  row_fits_there t row fit told =
      let (clear, small, own) = small_here K sig run count m w h in
      subst (λ s. RowFitsIn s m t fit) (sym run.signature) told h.stand.opens clear small h.opened (sym (row_small K.over run.well K.rank w t row own))
