use Rattle.std.proofs.Common.{◌≡◌, take, map}
use Rattle.mw_term.specs.declared.subst.Binding.{Binding}
use Rattle.mw_index.proofs.conditions.given_of.Given as goal

abbrev pub invariant-loop-i : goal.invariant-loop-i
invariant-loop-i l = map (λ (b : Binding). b.variable) l.pairs.items ≡ take l.i l.variables
