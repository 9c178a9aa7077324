use Rattle.std.proofs.Common.{◌≡◌, ◌++◌, drop}
use Rattle.mw_declare.specs.Meaning.{numbers_of}
use Rattle.mw_declare.proofs.hierarchy.numbers.Given as goal

abbrev pub invariant-loop-word : goal.invariant-loop-word
invariant-loop-word l = l.numbers.items ++ numbers_of l.names (drop l.word-index l.words) ≡ numbers_of l.names l.words
