use Rattle.std.proofs.Common.{◌≡◌, ◌-◌}
use Rattle.mw_logic.specs.Terms.{terms_of}
use Rattle.mw_logic.specs.Parts.{number_of_terms}
use Rattle.mw_matching.specs.Multisets.{news}
use Rattle.mw_search.proofs.bags.first_new.Given as goal

abbrev pub invariant-loop-i : goal.invariant-loop-i
invariant-loop-i l = news (terms_of l.elements) l.from (number_of_terms (terms_of l.elements) - l.from) ≡ news (terms_of l.elements) l.i (number_of_terms (terms_of l.elements) - l.i)
