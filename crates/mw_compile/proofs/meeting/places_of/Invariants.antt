use Rattle.std.proofs.Common.{◌≡◌, take, map}
use Rattle.mw_term.specs.declared.subst.Binding.{Binding}
use Rattle.mw_compile.proofs.meeting.places_of.Given as goal

abbrev pub invariant-loop-pair : goal.invariant-loop-pair
invariant-loop-pair l = l.places ≡ take l.pair-index (map (λ (b : Binding). b.variable) l.pair-items)
