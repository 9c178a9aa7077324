use Rattle.std.proofs.Common.{◌∙◌, sym}
use Rattle.mw_logic.proofs.CompareLaws.{compare_terms-order}
use Rattle.mw_term.proofs.order.compare.Goals as goal

pub returns : goal.returns
returns c = c.ordered.ensures ∙ sym (compare_terms-order c.args.a.now c.args.b.now)
