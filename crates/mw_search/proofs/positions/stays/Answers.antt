use Rattle.std.proofs.Common.{nat_lt, ap, sym}
use Rattle.mw_search.proofs.BagLists.{number_terms}
use Rattle.mw_search.proofs.positions.stays.Goals as goal

pub returns-in-None : goal.returns-in-None
returns-in-None c =
    let (a, _, i) = c.in-Associative.ensures in
    rw (a, i, c.in-None.is) (ap (nat_lt 1) (sym (number_terms c.args.args.now)))
