use Rattle.std.proofs.Common.{◌∙◌, sym}
use Rattle.mw_redex.proofs.Turn.{turned}
use Rattle.mw_redex.proofs.walking.take_first.Goals as goal

pub returns-in-Some-pop_front-clause-ok : goal.returns-in-Some-pop_front-clause-ok
returns-in-Some-pop_front-clause-ok c =
    turned c.args.waiting.now.items c.in_ok-more.more.items c.pop_front.new.self.items c.in-Some.first.now c.in-Some-pop_front.first c.in-Some.ensures.item.3.0 c.in-Some.ensures.lookup c.in_ok-more.ensures
    (sym c.in_ok-append.ensures.items ∙ c.in-Some-pop_front.ensures.items)
