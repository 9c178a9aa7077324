use Rattle.std.proofs.Common.{◌≡◌, ◌+◌, ◌-◌, length}
use Rattle.mw_declare.specs.Operators.{with_kinds}
use Rattle.mw_declare.specs.Built.{kinds_from}
use Rattle.mw_declare.proofs.operators.DeclaredOperators.add_all_built.Given as goal

abbrev pub invariant-loop-place : goal.invariant-loop-place
invariant-loop-place l =
    with_kinds l.truth l.self (kinds_from l.hierarchy (length l.hierarchy.names - l.place) (l.place + 1)) ≡ with_kinds l.truth l.fn.self (kinds_from l.hierarchy (length l.hierarchy.names) 1)
