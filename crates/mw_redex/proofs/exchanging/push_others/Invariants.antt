use Rattle.std.proofs.Common.{◌≡◌, ◌+◌, drop}
use Rattle.mw_logic.specs.Term.{join}
use Rattle.mw_logic.specs.Terms.{terms_of}
use Rattle.mw_arguments.specs.Places.{others}
use Rattle.mw_redex.proofs.exchanging.push_others.Given as goal

abbrev pub invariant-loop-i : goal.invariant-loop-i
invariant-loop-i l = join (terms_of l.made.items) (others (l.i + 1) l.rest (terms_of (drop l.i l.terms))) ≡ join (terms_of l.fn.made.items) (others (l.from + 1) l.numbers (terms_of (drop l.from l.terms)))
