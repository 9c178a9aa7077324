use Rattle.std.proofs.Common.{◌≡◌, drop}
use Rattle.mw_module.specs.Attributes.{seen_attributes}
use Rattle.mw_declare.specs.Operators.{with_named}
use Rattle.mw_declare.specs.Seen.{seen_rank}
use Rattle.mw_declare.proofs.operators.DeclaredOperators.add_all.Given as goal

abbrev pub invariant-loop-name : goal.invariant-loop-name
invariant-loop-name l =
    with_named l.self (drop l.name-index l.names) (seen_rank l.rank) (seen_attributes l.attributes) ≡ with_named l.fn.self l.names (seen_rank l.rank) (seen_attributes l.attributes)
