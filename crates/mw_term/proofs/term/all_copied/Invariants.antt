use Rattle.std.proofs.Common.{◌≡◌, ◌++◌, drop}
use Rattle.mw_term.proofs.term.all_copied.Given as goal

abbrev pub invariant-loop-term : goal.invariant-loop-term
invariant-loop-term l = l.made.items ++ drop l.term-index l.terms ≡ l.terms
