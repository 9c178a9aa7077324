use Rattle.std.proofs.Common.{◌≡◌, ◌++◌, drop}
use Rattle.mw_grammar.specs.Readable.{kind_in}
use Rattle.mw_grammar.proofs.Going.{arguments_from}
use Rattle.mw_grammar.proofs.parts.push_arguments.Given as goal

abbrev pub invariant-loop-sort : goal.invariant-loop-sort
invariant-loop-sort l =
    l.parts.items ++ arguments_from (kind_in l.kinds) l.is_first (drop l.sort-index l.args) ≡ l.initial.parts.items ++ arguments_from (kind_in l.kinds) l.initial.is_first l.args
