use Rattle.std.proofs.Common.{◌≡◌}
use Rattle.mw_chart.specs.Answer.{IsWanted}
use Rattle.mw_chart.proofs.Lists.{get_item_of}
use Rattle.mw_chart.proofs.Ends.{all_next, all_done}
use Rattle.mw_chart.proofs.parsing.other_of.Goals as goal
use Rattle.mw_chart.proofs.parsing.other_of.Goals.{else-is_wanted-via-then-is_wanted+else-not-same, else-is_wanted-via-else-is_wanted}

pub loop-k-preserved : goal.loop-k-preserved
loop-k-preserved c =
    all_next c.args.listed.now.items c.loop-k.k c.found-item.result (λ x. IsWanted c.args.wanted x.kind → x.tree ≡ c.args.first.now) c.loop-k.invariant
    (get_item_of _ _ _ _ c.deref-found-items.ensures.value c.loop-k-test.true c.found-item.is)
    (λ m. elim c.else-is_wanted.branch [
      | else-is_wanted-via-then-is_wanted+else-not-same w ↦ w.same.ensures.0 w.if-not-same.false
      | else-is_wanted-via-else-is_wanted w ↦ let bad = w.if-is_wanted.ensures.1 m in let h : ⊥ = (cc) in absurd h
    ])

pub returns-clause-none : goal.returns-clause-none
returns-clause-none c =
    all_done c.args.listed.now.items c.loop-k.k (λ x. IsWanted c.args.wanted x.kind → x.tree ≡ c.args.first.now)
    (let p = c.deref-found-items.ensures.value in let q = c.loop-k-test.false in rw p at q) c.loop-k.invariant
