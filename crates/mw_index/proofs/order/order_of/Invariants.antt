use Rattle.std.proofs.Common.{◌≡◌, take, map}
use Rattle.mw_position.specs.Variables.{place}
use Rattle.mw_index.proofs.order.order_of.Given as goal

abbrev pub invariant-loop-i : goal.invariant-loop-i
invariant-loop-i l = l.order.items ≡ map (λ x. place x l.places) (take l.i l.variables)
