use Rattle.std.proofs.Common.{◌≡◌, ◌++◌, drop}
use Rattle.mw_module.proofs.word.add_again.Given as goal

abbrev pub invariant-loop-word : goal.invariant-loop-word
invariant-loop-word l = l.words.items ++ drop l.word-index l.others ≡ l.fn.words.items ++ l.others
