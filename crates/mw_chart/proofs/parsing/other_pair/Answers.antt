use Rattle.std.proofs.Common.{◌≡◌, ℕ}
use Rattle.mw_chart.specs.Readings.{IsAt}
use Rattle.mw_chart.specs.declared.reading.Reading.{Reading}
use Rattle.mw_chart.proofs.Lists.{get_item_of}
use Rattle.mw_chart.proofs.Ends.{all_next, all_done}
use Rattle.mw_chart.proofs.parsing.other_pair.Goals as goal

pub loop-left-preserved : goal.loop-left-preserved
loop-left-preserved c =
    all_next c.args.lefts.now.items c.loop-left.left c.found-item.result (λ x. (k : ℕ) (y : Reading) → IsAt c.args.rights.now.items k y → x.kind ≡ y.kind → (x.tree ≡ c.args.first.now.left) × (y.tree ≡ c.args.first.now.right)) c.loop-left.invariant
    (get_item_of _ _ _ _ c.deref-found-items.ensures.value c.loop-left-test.true c.found-item.is)
    (λ k y at same. let both = c.in_default.ensures.none k y at same in (c.same-same.ensures.0 both.0, both.1))

pub returns-clause-none : goal.returns-clause-none
returns-clause-none c = λ p x y (a, b, same).
    all_done c.args.lefts.now.items c.loop-left.left (λ x. (k : ℕ) (y : Reading) → IsAt c.args.rights.now.items k y → x.kind ≡ y.kind → (x.tree ≡ c.args.first.now.left) × (y.tree ≡ c.args.first.now.right))
    (let p = c.deref-found-items.ensures.value in let q = c.loop-left-test.false in rw p at q) c.loop-left.invariant p.left x a p.right y b same
