use Rattle.std.proofs.Common.{take}
use Rattle.mw_build.specs.Imported.{AreImported, origins_of}
use Rattle.mw_build.proofs.carrying.imported.Given as goal

abbrev pub invariant-loop-number : goal.invariant-loop-number
invariant-loop-number l = AreImported l.facts (origins_of l.modules (take l.number-index l.reached)) l.found.items
