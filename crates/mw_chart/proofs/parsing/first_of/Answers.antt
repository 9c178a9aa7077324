use Rattle.mw_chart.specs.Answer.{IsWanted}
use Rattle.mw_chart.proofs.Lists.{get_item_of}
use Rattle.mw_chart.proofs.Ends.{all_next, all_done}
use Rattle.mw_chart.proofs.parsing.first_of.Goals as goal

pub loop-k-preserved : goal.loop-k-preserved
loop-k-preserved c =
    all_next c.args.listed.now.items c.loop-k.k c.found-item.result (λ x. IsWanted c.args.wanted x.kind → ⊥) c.loop-k.invariant
    (get_item_of _ _ _ _ c.deref-found-items.ensures.value c.loop-k-test.true c.found-item.is)
    (λ m. let bad = c.if-is_wanted.ensures.1 m in let h : ⊥ = (cc) in h)

pub returns-clause-none : goal.returns-clause-none
returns-clause-none c =
    all_done c.args.listed.now.items c.loop-k.k (λ x. IsWanted c.args.wanted x.kind → ⊥)
    (let p = c.deref-found-items.ensures.value in let q = c.loop-k-test.false in rw p at q) c.loop-k.invariant
