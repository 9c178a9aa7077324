use Rattle.mw_term.proofs.LastTold.{sum_between}
use Rattle.mw_term.proofs.shared.Shared.sum_between.Goals as goal

pub returns : goal.returns
returns c =
    let (b, s) = c.requires.told in
    sum_between b c.args.self.now.terms.items c.args.from c.args.end c.told_from-rest.result c.told_from.result c.requires.ordered (c.told_from-rest.ensures b s) (c.told_from.ensures b s)
