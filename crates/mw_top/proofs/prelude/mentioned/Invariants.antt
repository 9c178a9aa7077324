use Rattle.std.proofs.Common.{◌≡◌, length}
use Rattle.mw_module.specs.Words.{texts}
use Rattle.mw_prelude.specs.Mentions.{mentioned_in, mentioned_from}
use Rattle.mw_top.proofs.prelude.mentioned.Given as goal

abbrev pub invariant-loop-rest : goal.invariant-loop-rest
invariant-loop-rest l = mentioned_from l.mentioned (texts l.rest) ≡ mentioned_in (texts l.tokens)

abbrev pub decreases-loop-rest : goal.decreases-loop-rest
decreases-loop-rest l = length l.rest
