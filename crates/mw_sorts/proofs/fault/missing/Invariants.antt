use Rattle.std.proofs.Common.{◌≡◌, map, take}
use Rattle.std.specs.Prelude.{is_none}
use Rattle.mw_sorts.proofs.fault.missing.Given as goal

abbrev pub invariant-loop-end : goal.invariant-loop-end
invariant-loop-end l = l.marks.items ≡ map is_none (take l.end-index l.ends)
