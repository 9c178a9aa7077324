use Rattle.std.proofs.Common.{◌≡◌, ◌∙◌, ◌∷◌, ◌++◌, [], ap, arith}
use Rattle.mw_logic.specs.Terms.{terms_of}
use Rattle.mw_search.proofs.BagLists.{taken_one, left_one, none_taken, all_taken}
use Rattle.mw_search.proofs.bags.taken_away.Goals as goal
use Rattle.mw_search.proofs.bags.taken_away.Goals.{then-is_at, else-is_at+in_ok-copy+in_ok-push}

pub loop-element-preserved : goal.loop-element-preserved
loop-element-preserved c =
    let xs = c.args.taken.now in
    let ys = c.args.elements.now in
    let y = c.element-item.result in
    elim c.if-is_at.branch [
      | then-is_at w ↦
          let (l, s) = c.is_at.ensures.there w.if-is_at.true in
          rw (w.gone-is, w.left-is) (taken_one (terms_of xs) (terms_of ys) (terms_of c.loop-element.left.items) xs ys c.loop-element.gone c.loop-element.element-index y l c.loop-element-test.true c.element-item.is s c.loop-element.invariant)
      | else-is_at+in_ok-copy+in_ok-push w ↦
          let p : w.push.new.self.items ≡ c.loop-element.left.items ++ y ∷ [] = w.in_ok-push.ensures.items ∙ ap (λ x. c.loop-element.left.items ++ x ∷ []) w.in_ok-copy.ensures in
          rw (w.gone-is, w.left-is, p)
          (left_one (terms_of xs) (terms_of ys) c.loop-element.left.items xs ys c.loop-element.gone c.loop-element.element-index y c.loop-element-test.true c.element-item.is (c.is_at.ensures.other w.if-is_at.false) c.loop-element.invariant)
    ]

pub returns-then-gone-taken : goal.returns-then-gone-taken
returns-then-gone-taken c =
    none_taken (terms_of c.args.taken.now) (terms_of c.args.elements.now) (terms_of c.loop-element.left.items) c.args.taken.now c.args.elements.now c.loop-element.gone c.loop-element.element-index
    (omega arith) (omega arith) c.loop-element.invariant

pub returns : goal.returns
returns c =
    all_taken (terms_of c.args.taken.now) (terms_of c.args.elements.now) (terms_of c.loop-element.left.items) c.args.taken.now c.args.elements.now c.loop-element.gone c.loop-element.element-index
    (omega arith) (omega arith) c.loop-element.invariant
