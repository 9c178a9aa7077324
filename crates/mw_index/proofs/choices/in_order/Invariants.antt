use Rattle.std.proofs.Common.{◌≡◌, ◌++◌, drop, map}
use Rattle.mw_term.specs.declared.subst.Binding.{Binding}
use Rattle.mw_index.specs.Choices.{in_order}
use Rattle.mw_index.proofs.choices.in_order.Given as goal

abbrev pub invariant-loop-place : goal.invariant-loop-place
invariant-loop-place l = l.values.items ++ in_order (map (λ (b : Binding). b.value) l.pairs) (drop l.place-index l.order) ≡ in_order (map (λ (b : Binding). b.value) l.pairs) l.order
