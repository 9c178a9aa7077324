use Rattle.std.proofs.Common.{◌≡◌, ◌≤◌, ◌+◌, length}
use Rattle.mw_logic.specs.NormalForm.{height, highest}
use Rattle.mw_term.specs.Raws.{raw_term, raw_terms}
use Rattle.mw_position.specs.Variables.{met, all_met}
use Rattle.mw_omod.proofs.mentions.+meet_all.Given as goal

abbrev pub decreases-meet_all : goal.decreases-meet_all
decreases-meet_all l = height (raw_term l.term.now)

abbrev pub invariant-loop-rest : goal.invariant-loop-rest
invariant-loop-rest l = record {
  met : all_met l.variables (raw_terms l.rest) ≡ met l.fn.variables (raw_term l.term);
  high : highest (raw_terms l.rest) + 1 ≤ height (raw_term l.term);
}

abbrev pub decreases-loop-rest : goal.decreases-loop-rest
decreases-loop-rest l = length l.rest
