use Rattle.std.specs.Prelude.{List}
use Rattle.mw_logic.specs.Term.{Variable}
use Rattle.mw_logic.specs.Signature.{Signature}
use Rattle.mw_grammar.specs.Readable.{kind_in}
use Rattle.mw_grammar.specs.Grammars.{IsGrammarOf, texts}
use Rattle.mw_grammar.proofs.WordByWord.{HasWords}
use Rattle.mw_grammar.proofs.grammar.Grammar.words.Given as goal

abbrev pub invariant-loop-token : goal.invariant-loop-token
invariant-loop-token l = (sig : Signature) (variables : List Variable) → IsGrammarOf sig variables l.self
    → HasWords sig l.self.names variables (kind_in l.self.kinds) l.leaves (texts l.tokens) l.token-index l.words.items
