-- Why it ends where a condition isn't told of.
use Rattle.std.specs.Prelude.{ℕ}
use Rattle.mw_logic.specs.Term.{RawTerm}
use Rattle.mw_proof.specs.declared.reason.Reason.{Reason}
use Rattle.mw_proof.specs.declared.reason.Reason.TheVariants.{Rules, Rewrites, Depth, Nat, Nest, Condition}
use Rattle.mw_frames.specs.State.{Run, Data}
use Rattle.mw_frames.specs.Fires.{IsWhole}
use Rattle.mw_reduce.specs.Driven.{EndsAt, IsHaltedIn}
use Rattle.mw_reduce.specs.declared.drive.Outcome.TheVariants.{Stopped}

pub ends_halted : (K : Run) (count side : ℕ) (d : Data) (t : RawTerm) (why : Reason) → IsWhole K count d t → IsHaltedIn K side t why → EndsAt K count side d t (Stopped why)
ends_halted K count side d t Rules z h = absurd h.2.cause
ends_halted K count side d t Rewrites z h = absurd h.2.cause
ends_halted K count side d t Depth z h = absurd h.2.cause
ends_halted K count side d t Nat z h = absurd h.2.cause
ends_halted K count side d t Nest z h = (z, h)
ends_halted K count side d t Condition z h = (z, h)
