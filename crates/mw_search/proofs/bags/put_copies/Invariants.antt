use Rattle.std.proofs.Common.{◌≡◌}
use Rattle.mw_logic.specs.Term.{RawTerms, join}
use Rattle.mw_logic.specs.Terms.{terms_of}
use Rattle.mw_arguments.specs.Bags.{copies}
use Rattle.mw_search.proofs.bags.put_copies.Given as goal

abbrev pub invariant-loop : goal.invariant-loop
invariant-loop l = (us : RawTerms) → join (terms_of l.made.items) us ≡ join (terms_of l.fn.made.items) (copies l.counter l.term us)
