use Rattle.std.proofs.Common.{◌-◌, map, drop}
use Rattle.mw_canon.specs.Tables.{pair_of, HasValues}
use Rattle.mw_canon.proofs.values.Values.of.Given as goal

abbrev pub invariant-loop-i : goal.invariant-loop-i
invariant-loop-i l = HasValues (map pair_of (drop (l.n - l.i) l.pairs)) l.table
