use Rattle.std.proofs.Common.{◌≡◌, ◌++◌, drop}
use Rattle.mw_declare.specs.Freezing.{places_in}
use Rattle.mw_declare.proofs.freezing.listed_numbers.Given as goal

abbrev pub invariant-loop-word : goal.invariant-loop-word
invariant-loop-word l = l.numbers.items ++ places_in l.arity (drop l.word-index l.words) ≡ places_in l.arity l.words
