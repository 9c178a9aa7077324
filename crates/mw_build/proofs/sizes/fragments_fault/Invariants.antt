use Rattle.std.proofs.Common.{length, map, All}
use Rattle.mw_term.specs.Statements.{fragment_of}
use Rattle.mw_module.specs.declared.faults.FaultKind.{FaultKind}
use Rattle.mw_least.specs.Conditions.{AreRawFragments}
use Rattle.mw_build.specs.Statements.{FitsIn, FirstOversized, terms_of}
use Rattle.mw_build.proofs.sizes.fragments_fault.Given as goal

abbrev pub invariant-loop-rest : goal.invariant-loop-rest
invariant-loop-rest l = record {
  raw : AreRawFragments l.facts (map fragment_of l.rest);
  fit : All (FitsIn l.facts) (terms_of (map fragment_of l.rest)) → All (FitsIn l.facts) (terms_of (map fragment_of l.fragments));
  first : (kind : FaultKind) → FirstOversized l.facts kind (terms_of (map fragment_of l.rest)) → FirstOversized l.facts kind (terms_of (map fragment_of l.fragments));
}

abbrev pub decreases-loop-rest : goal.decreases-loop-rest
decreases-loop-rest l = length l.rest
