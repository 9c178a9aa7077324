use Rattle.std.proofs.Common.{◌≡◌, ◌++◌, drop}
use Rattle.mw_module.specs.Words.{texts}
use Rattle.mw_module.proofs.word.add_words.Given as goal

abbrev pub invariant-loop-token : goal.invariant-loop-token
invariant-loop-token l = l.words.items ++ texts (drop l.token-index l.tokens) ≡ l.fn.words.items ++ texts l.tokens
