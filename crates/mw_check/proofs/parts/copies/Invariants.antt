use Rattle.std.proofs.Common.{◌≡◌, suc, length, take}
use Rattle.mw_logic.specs.Terms.{terms_of}
use Rattle.mw_arguments.specs.Places.{chosen, Rise}
use Rattle.mw_check.proofs.parts.copies.Given as goal

abbrev pub invariant-loop-number : goal.invariant-loop-number
invariant-loop-number l = Rise 1 (suc (length l.args)) l.numbers → terms_of l.part.items ≡ chosen 1 (take l.number-index l.numbers) (terms_of l.args)
