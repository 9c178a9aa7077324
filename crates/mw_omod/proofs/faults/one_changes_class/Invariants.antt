use Rattle.std.proofs.Common.{◌↔◌, length}
use Rattle.mw_omod.specs.Seen.{OneHas, IsOfOtherClass}
use Rattle.mw_omod.proofs.faults.one_changes_class.Given as goal

abbrev pub invariant-loop-rest : goal.invariant-loop-rest
invariant-loop-rest l = OneHas (λ v. OneHas (IsOfOtherClass v) l.rights) l.fn.lefts ↔ OneHas (λ v. OneHas (IsOfOtherClass v) l.rights) l.rest

abbrev pub decreases-loop-rest : goal.decreases-loop-rest
decreases-loop-rest l = length l.rest
