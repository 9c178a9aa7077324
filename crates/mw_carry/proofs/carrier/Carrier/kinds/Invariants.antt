use Rattle.std.proofs.Common.{drop}
use Rattle.mw_carry.specs.Profiles.{IsLeastFor}
use Rattle.mw_carry.proofs.Pairs.{IsPaired}
use Rattle.mw_carry.proofs.carrier.Carrier.kinds.Given as goal

abbrev pub invariant-loop-kind : goal.invariant-loop-kind
invariant-loop-kind l = IsPaired (IsLeastFor l.self.from l.self.to) l.kinds (drop l.kind-index l.kinds) l.found.items
