use Rattle.std.proofs.Common.{◌≡◌, ◌++◌, drop}
use Rattle.mw_text.specs.Names.{spelled_behind, items_of_tokens, name_of_tokens}
use Rattle.mw_declare.proofs.spelling.spelling_of.Given as goal

abbrev pub invariant-loop-word : goal.invariant-loop-word
invariant-loop-word l = name_of_tokens l.name ≡ l.spelling.items ++ spelled_behind l.touching (items_of_tokens (drop l.word-index l.name))
