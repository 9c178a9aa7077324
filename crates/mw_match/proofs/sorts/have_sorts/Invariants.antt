use Rattle.mw_match.proofs.Sorting.{HaveFirstSorts}
use Rattle.mw_match.proofs.sorts.have_sorts.Given as goal

abbrev pub invariant-loop-i : goal.invariant-loop-i
invariant-loop-i l = HaveFirstSorts l.context.signature l.values l.sorts l.i
