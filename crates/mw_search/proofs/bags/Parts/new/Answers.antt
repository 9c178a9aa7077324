use Rattle.mw_logic.specs.Terms.{terms_of}
use Rattle.mw_search.proofs.BagLists.{are_runs, spread_runs}
use Rattle.mw_search.proofs.bags.Parts.new.Goals as goal

pub invariant_of-result : goal.invariant_of-result
invariant_of-result c = (are_runs (terms_of c.args.elements.now) c.in_ok-heads.heads.items c.in_ok-heads.numbers.items c.in_ok-heads.ensures.heads c.in_ok-heads.ensures.numbers, c.begin-there.ensures.there)

pub returns-clause-elements : goal.returns-clause-elements
returns-clause-elements c = spread_runs (terms_of c.args.elements.now) c.in_ok-heads.heads.items c.in_ok-heads.numbers.items c.in_ok-heads.ensures.heads c.in_ok-heads.ensures.numbers
