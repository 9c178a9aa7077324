use Rattle.std.proofs.Common.{◌≤◌, drop, length}
use Rattle.mw_grammar.specs.Compiled.{Extends, Leads}
use Rattle.mw_grammar.proofs.compile.lead.Given as goal

-- the state before the parts that are behind
pub record IsLed (l : goal.Live-loop-left) : Type 0 where
  pub within : l.left ≤ length l.parts
  pub steps : Extends l.initial.steps.items l.steps.items
  pub names : Extends l.initial.names l.names
  pub leads : Leads l.steps.items l.names l.state (drop l.left l.parts) l.last

abbrev pub invariant-loop-left : goal.invariant-loop-left
invariant-loop-left l = IsLed l

abbrev pub decreases-loop-left : goal.decreases-loop-left
decreases-loop-left l = l.left
