use Rattle.std.proofs.Common.{◌≡◌, ◌++◌, take}
use Rattle.mw_proof.proofs.lifting.copy_all.Given as goal

abbrev pub invariant-loop-term : goal.invariant-loop-term
invariant-loop-term l = l.terms.items ≡ l.fn.terms.items ++ take l.term-index l.more
