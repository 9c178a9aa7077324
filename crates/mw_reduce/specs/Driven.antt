-- How a run ends.
use Rattle.std.specs.Prelude.{◌≡◌, ◌⊎◌, ◌<◌, ◌≤◌, ◌+◌, ℕ, false}
use Rattle.mw_logic.specs.Term.{RawTerm}
use Rattle.mw_logic.specs.Parts.{nested}
use Rattle.mw_proof.specs.declared.reason.Reason.TheVariants as reason
use Rattle.mw_proof.specs.declared.reason.Reason.{Reason}
use Rattle.mw_frames.specs.State.{Run, Data, Holds}
use Rattle.mw_frames.specs.Steps.{IsEnd}
use Rattle.mw_frames.specs.Fires.{IsWhole, WouldBeTooDeep, WouldBeTooLarge, HasBigPair, HasPart}
use Rattle.mw_reduce.specs.Attempts.{IsHalting}
use Rattle.mw_reduce.specs.declared.drive.Outcome.{Outcome}
use Rattle.mw_reduce.specs.declared.drive.Outcome.TheVariants.{Done, Stopped}
use Rattle.mw_reduce.specs.declared.drive.End.{End}
use Rattle.mw_reduce.specs.declared.drive.Driven.{Driven}
use Rattle.mw_reduce.specs.declared.drive.Next.{Next}
use Rattle.mw_reduce.specs.declared.drive.Next.TheVariants.{Goes, Ends}

-- at a part of the whole t it isn't told whether a condition holds
abbrev pub IsHaltedIn : Run → ℕ → RawTerm → Reason → Type 0
IsHaltedIn K side t why = (w : RawTerm) × HasPart K.over.signature (nested K.over.signature t) w × IsHalting K.over false K.rank side w why

-- Why it goes on no further: the term is normal, or the next step would make the whole too deep, or a number too large, or a condition isn't told of.
abbrev pub EndsAt : Run → ℕ → ℕ → Data → RawTerm → Outcome → Type 0
EndsAt K count side d t Done = IsEnd K count d t
EndsAt K count side d t (Stopped reason.Rewrites) = ⊥
EndsAt K count side d t (Stopped reason.Depth) = IsWhole K count d t × WouldBeTooDeep K.over K.rank false (nested K.over.signature t)
EndsAt K count side d t (Stopped reason.Rules) = ⊥
EndsAt K count side d t (Stopped reason.Nat) = IsWhole K count d t × (WouldBeTooLarge K.over K.rank false (nested K.over.signature t) ⊎ HasBigPair K.over (nested K.over.signature t))
EndsAt K count side d t (Stopped reason.Nest) = IsWhole K count d t × IsHaltedIn K side t reason.Nest
EndsAt K count side d t (Stopped reason.Condition) = IsWhole K count d t × IsHaltedIn K side t reason.Condition

-- what comes of a pause: replacements, one at least and no more than are left, or the end
abbrev pub IsNext : Run → ℕ → ℕ → ℕ → Data → Next → Type 0
IsNext K count side left d (Goes h made) = (0 < made) × (made ≤ left) × Holds K (count + made) d h
IsNext K count side left d (Ends e) = EndsAt K count side d e.term e.outcome

-- After so many replacements, at most as many as the limit: it ends for such a reason below the limit, or the limit is reached.
abbrev pub EndsBy : Run → ℕ → ℕ → ℕ → Data → End → Type 0
EndsBy K limit side count d e = ((count < limit) × EndsAt K count side d e.term e.outcome) ⊎ ((count ≡ limit) × (e.outcome ≡ Stopped reason.Rewrites) × IsWhole K count d e.term)

-- and so many are left to the limit
abbrev pub IsDriven : Run → ℕ → ℕ → Data → Driven → Type 0
IsDriven K limit side d r = (count : ℕ) × (count + r.left ≡ limit) × EndsBy K limit side count d r.end
