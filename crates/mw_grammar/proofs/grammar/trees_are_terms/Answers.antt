use Rattle.mw_grammar.specs.Readable.{kind_in}
use Rattle.mw_grammar.specs.Grammars.{texts}
use Rattle.mw_grammar.proofs.Exactly.{exactly}
use Rattle.mw_grammar.proofs.grammar.trees_are_terms.Goals as goal

pub returns : goal.returns
returns c =
    let g = c.args.grammar.now in
    let w = c.args.words.now in
    let is = c.requires.grammar in
    exactly c.args.signature.now c.args.variables.now (kind_in g.kinds) is.kinds is.readable is.declared g.names g.table is.compiled w.leaves (texts c.args.tokens.now) w.words.items c.requires.words
