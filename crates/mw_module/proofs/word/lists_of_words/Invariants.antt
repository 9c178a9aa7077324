use Rattle.std.proofs.Common.{◌≡◌, ◌++◌, drop, map}
use Rattle.mw_module.specs.Words.{texts, seen_lists}
use Rattle.mw_module.proofs.word.lists_of_words.Given as goal

abbrev pub invariant-loop-tokens : goal.invariant-loop-tokens
invariant-loop-tokens l = l.words.items ++ map texts (seen_lists (drop l.tokens-index l.lists)) ≡ map texts (seen_lists l.lists)
