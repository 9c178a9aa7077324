use Rattle.std.proofs.Common.{◌≡◌, take}
use Rattle.mw_index.specs.Choices.{in_order}
use Rattle.mw_reduce.proofs.attempts.in_order.Given as goal

abbrev pub invariant-loop-place : goal.invariant-loop-place
invariant-loop-place l = l.values.items ≡ in_order l.terms (take l.place-index l.places)
