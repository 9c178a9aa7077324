use Rattle.mw_grammar.specs.Readable.{kind_in}
use Rattle.mw_grammar.specs.Compiled.{AddsNotations}
use Rattle.mw_grammar.proofs.Writing.{IsEarly}
use Rattle.mw_grammar.proofs.notations.add_all.Given as goal

-- the notations of the operators so far
abbrev pub invariant-loop-i : goal.invariant-loop-i
invariant-loop-i l = AddsNotations l.initial.making l.making l.initial.names l.names (IsEarly (kind_in l.kinds) l.signature l.i)
