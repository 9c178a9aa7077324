use Rattle.std.proofs.Common.{◌≡◌, drop}
use Rattle.mw_import.specs.Gathering.{gathered}
use Rattle.mw_import.proofs.units.gather.Given as goal

abbrev pub invariant-loop-unit : goal.invariant-loop-unit
invariant-loop-unit l = gathered l.there.keys (drop l.unit-index l.units) ≡ gathered l.fn.there.keys l.units
