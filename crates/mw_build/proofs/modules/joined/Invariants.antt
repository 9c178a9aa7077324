use Rattle.std.proofs.Common.{◌≡◌, ◌++◌}
use Rattle.mw_build.proofs.modules.joined.Given as goal

abbrev pub invariant-loop-other : goal.invariant-loop-other
invariant-loop-other l = l.list.items ++ l.other-iterator.rest.items ≡ l.fn.first.items ++ l.fn.others.items
