use Rattle.std.proofs.Common.{◌≡◌, ◌++◌, length}
use Rattle.mw_prooftext.specs.Texts.{values_text}
use Rattle.mw_prooftext.specs.Grounds.{AreGround}
use Rattle.mw_prooftext.proofs.lines.write_values.Given as goal

abbrev pub invariant-loop-rest : goal.invariant-loop-rest
invariant-loop-rest l = record {
  ground : AreGround l.rest;
  written : l.text.items ++ values_text l.signature l.rest ≡ l.initial.text.items ++ values_text l.signature l.values;
}

abbrev pub decreases-loop-rest : goal.decreases-loop-rest
decreases-loop-rest l = length l.rest
