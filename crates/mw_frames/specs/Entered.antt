-- Into an argument of a normal term.
use Rattle.std.specs.Prelude.{◌≡◌, ℕ, Some, true}
use Rattle.mw_logic.specs.Term.{RawTerm, RawTerms, apply}
use Rattle.mw_logic.specs.Terms.{args_of, list_of}
use Rattle.mw_logic.specs.Signature.{at_number}
use Rattle.mw_logic.specs.CanonicalPart.{IsOpen}
use Rattle.mw_frames.specs.declared.job.Job.TheVariants.{Normal}
use Rattle.mw_frames.specs.State.{Run, Data, InHand}
use Rattle.mw_frames.specs.Redex.{IsSeenIn}
use Rattle.mw_frames.specs.Fires.{HasWhole, IsOpenRound}

-- Argument i of the normal term t is in hand, and seen, where t was: the whole is the same. Where rules may change that argument, and what is in t's place, they
-- may change what is in its place.
pub record IsEntered (K : Run) (count : ℕ) (old new : Data) (t : RawTerm) (i : ℕ) (u : RawTerm) : Type 0 where
  pub is : at_number (list_of (args_of t)) i ≡ Some u
  pub holds : InHand K count new (Normal u)
  pub seen : IsSeenIn K.over.signature new.frames u
  pub same : (v : RawTerm) → HasWhole K count old v → HasWhole K count new v
  pub free : (f : ℕ) (ts : RawTerms) → t ≡ apply f ts → IsOpen K.over.signature true f i → IsOpenRound K count old → IsOpenRound K count new
