use Rattle.std.proofs.Common.{drop}
use Rattle.mw_logic.specs.Terms.{terms_of}
use Rattle.mw_match.proofs.Taking.{IsNumbering}
use Rattle.mw_match.proofs.takes.numbers_of.Given as goal

abbrev pub invariant-loop-i : goal.invariant-loop-i
invariant-loop-i l = IsNumbering (terms_of l.some) (terms_of l.args) l.made.items l.i (terms_of l.rest) (terms_of (drop l.i l.args))
