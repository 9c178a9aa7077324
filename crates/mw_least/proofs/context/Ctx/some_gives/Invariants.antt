use Rattle.std.specs.Prelude.{length}
use Rattle.mw_logic.specs.Signature.{Declaration, Member, sort}
use Rattle.mw_logic.specs.Sorts.{IsBelow}
use Rattle.mw_least.proofs.context.Ctx.some_gives.Given as goal

abbrev pub invariant-loop-rest : goal.invariant-loop-rest
invariant-loop-rest l = record {
  kept : (d : Declaration) → Member d l.rest → Member d l.declarations;
  ahead : (d : Declaration) → Member d l.declarations → IsBelow l.self.signature d.result (sort l.sort) → Member d l.rest;
}

abbrev pub decreases-loop-rest : goal.decreases-loop-rest
decreases-loop-rest l = length l.rest
