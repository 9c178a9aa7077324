use Rattle.std.proofs.Common.{◌≡◌}
use Rattle.mw_logic.specs.Term.{nil, join}
use Rattle.mw_term.specs.Raws.{raw_terms}
use Rattle.mw_canon.specs.Made.{all_entered, seen_terms}
use Rattle.mw_canon.proofs.Waiting.{waiting_before, load}
use Rattle.mw_canon.proofs.entering.written.Given as goal

abbrev pub invariant-loop-next : goal.invariant-loop-next
invariant-loop-next l = join (seen_terms l.found.items) (all_entered l.operator (waiting_before l.waiting.items nil)) ≡ all_entered l.operator (raw_terms l.args)

abbrev pub decreases-loop-next : goal.decreases-loop-next
decreases-loop-next l = load l.waiting.items
