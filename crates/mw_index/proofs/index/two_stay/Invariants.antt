use Rattle.std.proofs.Common.{◌≡◌, true, drop}
use Rattle.mw_logic.specs.Terms.{terms_of}
use Rattle.mw_index.specs.Sections.{OneStays, TwoStay}
use Rattle.mw_index.proofs.index.two_stay.Given as goal

abbrev pub invariant-loop-term : goal.invariant-loop-term
invariant-loop-term l =
    (l.one ≡ true → OneStays l.facts (terms_of (drop l.term-index l.terms)) → TwoStay l.facts (terms_of l.terms))
    × (TwoStay l.facts (terms_of (drop l.term-index l.terms)) → TwoStay l.facts (terms_of l.terms))
