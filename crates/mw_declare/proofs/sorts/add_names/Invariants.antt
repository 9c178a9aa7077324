use Rattle.std.proofs.Common.{◌≡◌, drop}
use Rattle.mw_declare.specs.Meaning.{with_names}
use Rattle.mw_declare.proofs.sorts.add_names.Given as goal

abbrev pub invariant-loop-name : goal.invariant-loop-name
invariant-loop-name l = with_names l.sorts (drop l.name-index l.names) ≡ with_names l.fn.sorts l.names
