use Rattle.std.proofs.Common.{◌↔◌, length}
use Rattle.mw_omod.specs.Seen.{OneHas, IsOfOtherClass}
use Rattle.mw_omod.proofs.faults.one_is_of_other_class.Given as goal

abbrev pub invariant-loop-rest : goal.invariant-loop-rest
invariant-loop-rest l = OneHas (IsOfOtherClass l.object) l.fn.elements ↔ OneHas (IsOfOtherClass l.object) l.rest

abbrev pub decreases-loop-rest : goal.decreases-loop-rest
decreases-loop-rest l = length l.rest
