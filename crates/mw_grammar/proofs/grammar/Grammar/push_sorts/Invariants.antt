use Rattle.std.proofs.Common.{take}
use Rattle.mw_grammar.specs.Readable.{kind_in}
use Rattle.mw_grammar.specs.Leaves.{IsOfOne, IsVariableLeaf}
use Rattle.mw_grammar.specs.Worded.{Adds}
use Rattle.mw_grammar.proofs.grammar.Grammar.push_sorts.Given as goal

abbrev pub invariant-loop-sort : goal.invariant-loop-sort
invariant-loop-sort l = Adds l.initial.leaves l.leaves l.initial.found.items l.found.items (IsVariableLeaf (kind_in l.self.kinds) (IsOfOne (take l.sort-index l.sorts) l.name))
