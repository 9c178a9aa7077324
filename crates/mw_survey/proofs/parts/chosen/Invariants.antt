use Rattle.std.proofs.Common.{◌≡◌, take}
use Rattle.mw_logic.specs.Terms.{terms_of}
use Rattle.mw_arguments.specs.Places.{chosen}
use Rattle.mw_survey.proofs.parts.chosen.Given as goal

abbrev pub invariant-loop-number : goal.invariant-loop-number
invariant-loop-number l = terms_of l.made.items ≡ chosen 1 (take l.number-index l.numbers) (terms_of l.args)
