use Rattle.std.proofs.Common.{arith, ◌∙◌, ℕ, get_or, refl, ap, sym}
use Rattle.mw_sorts.specs.Squares.{product, Agrees}
use Rattle.mw_sorts.proofs.Getting.{read-or}
use Rattle.mw_sorts.proofs.Heads.{heads-all, heads-before, agrees-last, visited-more, visited-all}
use Rattle.mw_sorts.proofs.grouping.search.first_last.Goals as goal

pub returns-then-product : goal.returns-then-product
returns-then-product c =
    let q = c.args.square.now in
    let n = c.loop-last.last-index in
    let at = read-or c.args.lasts.now c.args.lasts.now n 0 refl c.loop-last-test.true in (
      (let s = c.requires.square.size in let w = c.requires.lasts.within n _ at in omega arith),
      λ (a : Agrees q c.args.first c.args.middle (get_or c.args.lasts.now n 0)).
          c.if-product.true (
          c.product.ensures.product
          ∙ ap (λ (x : ℕ). product q x (get_or c.args.lasts.now n 0)) c.product-front.ensures.product
          ∙ a
          ∙ ap (product q c.args.first) (sym c.product-back.ensures.product)
          ∙ sym c.product-in-loop-last.ensures.product
          ),
      heads-before q.columns.items q.columns.items c.args.lasts.now c.requires.lasts (Agrees q c.args.first c.args.middle) (λ i p r e a. agrees-last q c.args.first c.args.middle i p e a) n _ at c.loop-last.invariant,
    )

pub loop-last-preserved : goal.loop-last-preserved
loop-last-preserved c =
    let q = c.args.square.now in
    let n = c.loop-last.last-index in
    let at = read-or c.args.lasts.now c.args.lasts.now n 0 refl c.loop-last-test.true in
    visited-more c.args.lasts.now n _ (Agrees q c.args.first c.args.middle) c.loop-last.invariant at (
    ap (λ (x : ℕ). product q x (get_or c.args.lasts.now n 0)) (sym c.product-front.ensures.product)
    ∙ sym c.product.ensures.product
    ∙ c.if-product.false
    ∙ c.product-in-loop-last.ensures.product
    ∙ ap (product q c.args.first) c.product-back.ensures.product
    )

pub returns : goal.returns
returns c = λ k l.
    let q = c.args.square.now in
    heads-all q.columns.items q.columns.items c.args.lasts.now c.requires.lasts (Agrees q c.args.first c.args.middle) (λ i p r e a. agrees-last q c.args.first c.args.middle i p e a)
    (visited-all c.args.lasts.now c.loop-last.last-index (Agrees q c.args.first c.args.middle) c.loop-last-test.false c.loop-last.invariant) k (let s = c.requires.square.size in omega arith)
