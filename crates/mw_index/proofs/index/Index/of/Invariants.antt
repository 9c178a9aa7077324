use Rattle.mw_index.specs.Sections.{IsIndexUpTo}
use Rattle.mw_index.proofs.index.Index.of.Given as goal

abbrev pub invariant-loop-at : goal.invariant-loop-at
invariant-loop-at l = IsIndexUpTo l.context l.at l.index
