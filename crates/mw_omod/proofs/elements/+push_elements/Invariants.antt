use Rattle.std.proofs.Common.{◌≡◌, ◌≤◌, ◌+◌, ◌++◌, length}
use Rattle.mw_logic.specs.Elements.{flat_arguments, all_flat_arguments}
use Rattle.mw_logic.specs.NormalForm.{height, highest}
use Rattle.mw_term.specs.Raws.{raw_term, raw_terms}
use Rattle.mw_omod.specs.Seen.{all_seen}
use Rattle.mw_omod.proofs.elements.+push_elements.Given as goal

abbrev pub decreases-push_elements : goal.decreases-push_elements
decreases-push_elements l = height (raw_term l.term.now)

abbrev pub invariant-loop-rest : goal.invariant-loop-rest
invariant-loop-rest l = record {
  seen : all_seen l.found.items ++ all_flat_arguments l.operator (raw_terms l.rest) ≡ all_seen l.fn.found.items ++ flat_arguments l.operator (raw_term l.term);
  high : highest (raw_terms l.rest) + 1 ≤ height (raw_term l.term);
}

abbrev pub decreases-loop-rest : goal.decreases-loop-rest
decreases-loop-rest l = length l.rest
