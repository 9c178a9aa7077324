use Rattle.std.proofs.Common.{◌≡◌, take}
use Rattle.mw_compile.specs.Groups.{pointed}
use Rattle.mw_compile.proofs.reordering.listed.Given as goal

abbrev pub invariant-loop-arg : goal.invariant-loop-arg
invariant-loop-arg l = pointed l.list.items ≡ take l.arg-index l.args
