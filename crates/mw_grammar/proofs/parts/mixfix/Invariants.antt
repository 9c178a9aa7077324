use Rattle.std.proofs.Common.{◌≡◌, length, map}
use Rattle.mw_term.specs.Signatures.{gather_of}
use Rattle.mw_text.specs.Names.{items_of}
use Rattle.mw_grammar.specs.Readable.{kind_in}
use Rattle.mw_grammar.specs.Notations.{mixing}
use Rattle.mw_grammar.proofs.parts.mixfix.Given as goal

abbrev pub invariant-loop-item : goal.invariant-loop-item
invariant-loop-item l =
    mixing (kind_in l.kinds) l.precedence (map gather_of l.gather) l.args l.parts.items (items_of l.rest) l.holes
    ≡ mixing (kind_in l.kinds) l.precedence (map gather_of l.gather) l.args l.initial.parts.items (items_of l.name) l.initial.holes

abbrev pub decreases-loop-item : goal.decreases-loop-item
decreases-loop-item l = length l.rest
