use Rattle.mw_match.proofs.Straight.{several_stay}
use Rattle.mw_match.proofs.by_position.stays.Goals as goal

pub returns-then-terms-ne1-clause-yes : goal.returns-then-terms-ne1-clause-yes
returns-then-terms-ne1-clause-yes c = λ a t. several_stay _ _ c.args.terms.now c.if-terms-ne1.true
