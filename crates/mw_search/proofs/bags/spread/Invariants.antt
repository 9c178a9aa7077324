use Rattle.std.proofs.Common.{◌≡◌, drop}
use Rattle.mw_logic.specs.Term.{join}
use Rattle.mw_logic.specs.Terms.{terms_of}
use Rattle.mw_arguments.specs.Bags.{spread}
use Rattle.mw_search.proofs.bags.spread.Given as goal

abbrev pub invariant-loop-i : goal.invariant-loop-i
invariant-loop-i l = join (terms_of l.made.items) (spread (drop l.i l.heads) (drop l.i l.numbers)) ≡ spread l.heads l.numbers
