use Rattle.std.proofs.Common.{◌≡◌, map, take}
use Rattle.mw_logic.specs.Term.{Variable, RawTerm}
use Rattle.mw_term.specs.declared.subst.Binding.{Binding}
use Rattle.mw_proof.specs.Replacing.{value_of}
use Rattle.mw_proof.proofs.replacing.bindings_of.Given as goal

abbrev pub invariant-loop-x : goal.invariant-loop-x
invariant-loop-x l = map (λ (b : Binding). let p : Variable × RawTerm = (b.variable, b.value) in p) l.pairs.items ≡ map (λ (x : Variable). let p : Variable × RawTerm = (x, value_of l.values x) in p) (take l.x-index l.variables)
