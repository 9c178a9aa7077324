use Rattle.std.proofs.Common.{◌≡◌, ◌++◌, List, map, take}
use Rattle.mw_logic.specs.Module.{Statement}
use Rattle.mw_build.specs.Imported.{Origin, AreImported}
use Rattle.mw_build.proofs.carrying.add_module.Given as goal

abbrev pub invariant-loop-origin : goal.invariant-loop-origin
invariant-loop-origin l = record {
  from : l.carrier.from ≡ l.other.module.signature;
  to : l.carrier.to ≡ l.facts;
  items : l.origin-items ≡ l.other.own;
  found : (es : List Origin) → AreImported l.facts es l.fn.found.items
      → AreImported l.facts (es ++ map (λ (st : Statement). let o : Origin = record { signature = l.other.module.signature; statement = st } in o) (take l.origin-index l.origin-items)) l.found.items;
}
