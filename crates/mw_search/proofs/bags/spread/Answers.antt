use Rattle.std.proofs.Common.{◌∙◌, ap, sym, arith}
use Rattle.mw_logic.specs.Term.{join}
use Rattle.mw_logic.specs.Terms.{terms_of}
use Rattle.mw_logic.proofs.SortLaws.{join-nil}
use Rattle.mw_search.proofs.BagLists.{spread_past}
use Rattle.mw_search.proofs.bags.spread.Goals as goal

pub returns : goal.returns
returns c =
    sym (join-nil (terms_of c.loop-i.made.items)) ∙ ap (join (terms_of c.loop-i.made.items)) (sym (spread_past c.args.heads.now c.args.numbers.now c.loop-i.i (omega arith))) ∙ c.loop-i.invariant
