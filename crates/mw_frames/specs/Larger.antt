-- Whether what comes for a term may stand where it comes: it has no more than 1,000 levels there, and `s_` stands on the largest numeral nowhere.
use Rattle.std.specs.Prelude.{◌≡◌, ◌⊎◌, ◌≤◌, ◌<◌, ◌+◌, ℕ, List, [], ◌∷◌, Bool, true, false, ◌&&◌, ◌||◌, ⊤}
use Rattle.mw_logic.specs.Term.{RawTerm, cons, join}
use Rattle.mw_logic.specs.Signature.{Signature}
use Rattle.mw_logic.specs.Kinds.{is_successor}
use Rattle.mw_logic.specs.Parts.{is_assoc}
use Rattle.mw_logic.specs.NormalForm.{is_comm, identity_of, is_identity, arranged, height, is_largest, has_largest, some_largest}
use Rattle.mw_deduction.specs.Standing.{Open, filled}
use Rattle.mw_deduction.specs.Replay.{whole}
use Rattle.mw_frames.specs.declared.job.Frame.{Frame}
use Rattle.mw_frames.specs.Redex.{hole_level}
use Rattle.mw_frames.specs.declared.machine.Machine.{Machine}
use Rattle.mw_frames.specs.declared.limits.Around.{Around}
use Rattle.mw_frames.specs.declared.limits.Fit.{Fit}
use Rattle.mw_frames.specs.declared.limits.Fit.TheVariants.{Fits, TooDeep, TooLarge}

-- with t in the hole `s_` stands on the largest numeral right above it, or further out, where the operators between give a numeral again
abbrev pub grows : Signature → List Open → RawTerm → Bool
grows sig [] t = false
grows sig (o ∷ os) t = (is_successor sig o.operator && is_largest (arranged (is_comm sig o.operator) (join o.before (cons t o.after)))) || grows sig os (filled sig o t)

-- beside the holes it does so nowhere
abbrev pub AreSmall : Signature → List Open → Type 0
AreSmall sig [] = ⊤
AreSmall sig (o ∷ os) = (some_largest sig (join o.before o.after) ≡ false) × AreSmall sig os

-- f on t and so many others is an operator on arguments: t isn't a numeral to be counted, nor left out with one other alone beside it
abbrev pub StaysBranch : Signature → ℕ → ℕ → RawTerm → Type 0
StaysBranch sig f others t = ((is_assoc sig f ≡ false) × (is_successor sig f ≡ false)) ⊎ (((is_assoc sig f ≡ true) × (is_identity (identity_of sig f) t ≡ false)) ⊎ (2 ≤ others))

-- the innermost operator has no identity
abbrev pub IsUnfolded : Signature → List Frame → Type 0
IsUnfolded sig [] = ⊤
IsUnfolded sig (f ∷ fs) = is_assoc sig f.op ≡ false

-- v comes into the innermost hole: how the whole is then
abbrev pub IsFit : Signature → List Frame → List Open → RawTerm → Fit → Type 0
IsFit sig fs os v Fits = (hole_level sig fs v + height v ≤ 1000) × (has_largest sig (whole sig os v) ≡ false)
IsFit sig fs os v TooDeep = 1000 < hole_level sig fs v + height v
IsFit sig fs os v TooLarge = (hole_level sig fs v + height v ≤ 1000) × (has_largest sig (whole sig os v) ≡ true)

-- what stands round what is in hand
pub record IsAround (m : Machine) (a : Around) : Type 0 where
  pub values : a.values.now ≡ m.kept.values
  pub frames : a.frames.now ≡ m.frames.items
  pub done : a.done.now ≡ m.done.items
  pub jobs : a.jobs.now ≡ m.jobs.items
