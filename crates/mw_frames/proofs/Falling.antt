-- Less is left than more.
use Rattle.std.proofs.Common.{◌≤◌, ℕ, arith}
use Rattle.mw_logic.specs.Module.{Module}
use Rattle.mw_frames.specs.declared.machine.Machine.{Machine}
use Rattle.mw_frames.specs.declared.looking.Step.{Step}
use Rattle.mw_frames.specs.declared.looking.Step.TheVariants.{Goes, Ended, Asks, Decides}
use Rattle.mw_frames.specs.Steps.{FallsBelow}

pub falls_more : (M : Module) (w v : ℕ) (m : Machine) (s : Step) → w ≤ v → FallsBelow M w m s → FallsBelow M v m s
falls_more M w v m (Goes h) l f = omega (arith, l, f)
falls_more M w v m (Ended t) l f = tt
falls_more M w v m (Asks a) l f = omega (arith, l, f)
falls_more M w v m (Decides g b) l f = tt
