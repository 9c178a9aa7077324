use Rattle.std.proofs.Common.{◌≡◌, ◌∙◌, ◌∷◌, ◌++◌, [], ap, arith}
use Rattle.mw_search.proofs.BagLists.{without_skipped, without_put, without_done}
use Rattle.mw_search.proofs.bags.without.Goals as goal
use Rattle.mw_search.proofs.bags.without.Goals.{then-i-index+in_ok-copy+in_ok-push, else-i-index}

pub loop-i-preserved : goal.loop-i-preserved
loop-i-preserved c =
    let t = c.index-elements-i.result in
    elim c.if-i-index.branch [
      | then-i-index+in_ok-copy+in_ok-push w ↦
          let p : w.push.new.self.items ≡ c.loop-i.made.items ++ t ∷ [] = w.in_ok-push.ensures.items ∙ ap (λ x. c.loop-i.made.items ++ x ∷ []) w.in_ok-copy.ensures in
          rw (w.made-is, p) (without_put c.args.index c.args.elements.now c.loop-i.made.items c.loop-i.i t (omega arith) c.index-elements-i.is w.if-i-index.true c.loop-i.invariant)
      | else-i-index w ↦ rw w.made-is (without_skipped c.args.index c.args.elements.now c.loop-i.made.items c.loop-i.i (omega arith) w.if-i-index.false c.loop-i.invariant)
    ]

pub returns : goal.returns
returns c = without_done c.args.index c.args.elements.now c.loop-i.made.items c.loop-i.i (omega arith) c.loop-i.invariant
