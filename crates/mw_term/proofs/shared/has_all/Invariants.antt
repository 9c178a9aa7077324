use Rattle.std.proofs.Common.{◌≡◌, drop}
use Rattle.mw_logic.specs.Terms.{terms_of}
use Rattle.mw_term.specs.Facts.{facts_joined, facts_of_all}
use Rattle.mw_term.proofs.shared.has_all.Given as goal

abbrev pub invariant-loop-term : goal.invariant-loop-term
invariant-loop-term l = facts_joined l.all (facts_of_all (terms_of (drop l.term-index l.terms))) ≡ facts_of_all (terms_of l.terms)
