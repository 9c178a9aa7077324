use Rattle.std.proofs.Common.{◌≡◌, ◌++◌, ◌+◌, ◌-◌}
use Rattle.mw_declare.specs.Freezing.{counted}
use Rattle.mw_declare.proofs.freezing.all_numbers.Given as goal

abbrev pub invariant-loop-place : goal.invariant-loop-place
invariant-loop-place l = l.numbers.items ++ counted (l.last - l.place) (l.place + 1) ≡ counted l.last 1
