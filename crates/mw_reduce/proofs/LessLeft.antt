-- Turns come to an end.
use Rattle.std.specs.Prelude.{◌<◌, ℕ, suc}
use Rattle.std.proofs.Common.{arith}
use Rattle.mw_logic.specs.Module.{Module}
use Rattle.mw_frames.specs.State.{work_of}
use Rattle.mw_frames.specs.Machines.{data_of}
use Rattle.mw_frames.specs.declared.machine.Machine.{Machine}
use Rattle.mw_reduce.specs.Events.{EventFalls}
use Rattle.mw_reduce.specs.declared.turning.Event.{Event}
use Rattle.mw_reduce.specs.declared.turning.Event.TheVariants.{Goes, Ended, Found, Applies, Met, Big, Decides, Halts}

-- what is left, where it goes on
abbrev pub left_of : Module → Machine → Event → ℕ
left_of M m (Goes h) = suc (work_of M.signature (data_of M m) h)
left_of M m (Ended t) = 0
left_of M m (Found a c) = 0
left_of M m (Applies a c sides) = 0
left_of M m (Met a take to) = 0
left_of M m (Big a take) = 0
left_of M m (Decides f b) = 0
left_of M m (Halts a take why) = 0

-- after a turn it is less
pub less_left : (M : Module) (w : ℕ) (m : Machine) (e : Event) → EventFalls M w m e → left_of M m e < suc w
less_left M w m (Goes h) f = let l : work_of M.signature (data_of M m) h < w = f in omega (arith, l)
less_left M w m (Ended t) f = omega arith
less_left M w m (Found a c) f = omega arith
less_left M w m (Applies a c sides) f = omega arith
less_left M w m (Met a take to) f = omega arith
less_left M w m (Big a take) f = omega arith
less_left M w m (Decides g b) f = omega arith
less_left M w m (Halts a take why) f = omega arith
