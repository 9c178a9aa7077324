use Rattle.std.proofs.Common.{◌≡◌, ◌++◌, List, length, map}
use Rattle.mw_logic.specs.Module.{Fragment}
use Rattle.mw_term.specs.Statements.{fragment_of}
use Rattle.mw_least.specs.Conditions.{AreRawFragments}
use Rattle.mw_carry.specs.Carried.{AreCarriedFragments}
use Rattle.mw_build.specs.Imported.{HaveSortsAmong}
use Rattle.mw_build.proofs.carrying.fragments.Given as goal

abbrev pub invariant-loop-rest : goal.invariant-loop-rest
invariant-loop-rest l = record {
  same : l.carrier ≡ l.fn.carrier;
  raw : AreRawFragments l.fn.carrier.from (map fragment_of l.rest);
  sorts : HaveSortsAmong l.fn.carrier.from (map fragment_of l.rest);
  carried : (D : List Fragment) → AreCarriedFragments l.fn.carrier.from l.fn.carrier.to (map fragment_of l.rest) D
      → AreCarriedFragments l.fn.carrier.from l.fn.carrier.to (map fragment_of l.fragments) (map fragment_of l.found.items ++ D);
}

abbrev pub decreases-loop-rest : goal.decreases-loop-rest
decreases-loop-rest l = length l.rest
