use Rattle.std.proofs.Common.{◌≡◌, ◌++◌, [], drop}
use Rattle.mw_declare.specs.Hierarchy.{pairs_behind}
use Rattle.mw_declare.proofs.hierarchy.add_groups.Given as goal

abbrev pub invariant-loop-group : goal.invariant-loop-group
invariant-loop-group l = l.pairs.items ++ pairs_behind l.names l.lowers.items (drop l.group-index l.groups) ≡ l.fn.pairs.items ++ pairs_behind l.names [] l.groups
