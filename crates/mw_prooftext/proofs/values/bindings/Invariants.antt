use Rattle.std.proofs.Common.{◌≡◌, ◌++◌, map, length}
use Rattle.std.specs.List.{zip}
use Rattle.mw_logic.specs.Term.{Variable, RawTerm}
use Rattle.mw_term.specs.declared.subst.Binding.{Binding}
use Rattle.mw_prooftext.proofs.values.bindings.Given as goal

abbrev pub invariant-loop-left : goal.invariant-loop-left
invariant-loop-left l = map (λ (b : Binding). let p : Variable × RawTerm = (b.variable, b.value) in p) l.pairs.items ++ zip l.left l.rest ≡ zip l.variables l.values

abbrev pub decreases-loop-left : goal.decreases-loop-left
decreases-loop-left l = length l.left
