use Rattle.std.proofs.Common.{◌<◌, length}
use Rattle.mw_logic.specs.Term.{Variable}
use Rattle.mw_grammar.specs.Readable.{kind_in}
use Rattle.mw_grammar.specs.Leaves.{IsWithSort, IsVariableLeaf}
use Rattle.mw_grammar.specs.Listing.{IsListed}
use Rattle.mw_grammar.specs.Worded.{Adds}
use Rattle.mw_grammar.proofs.grammar.Grammar.push_with_sorts.Given as goal

abbrev pub invariant-loop-colon : goal.invariant-loop-colon
invariant-loop-colon l =
    Adds l.initial.leaves l.leaves l.initial.found.items l.found.items
    (IsVariableLeaf (kind_in l.self.kinds) (λ (x : Variable). IsWithSort (IsListed l.self.names l.self.named.items) l.token x × (length x.name < l.colon)))
