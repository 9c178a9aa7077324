use Rattle.std.proofs.Common.{◌<◌, ℕ, refl}
use Rattle.mw_sorts.specs.Squares.{width, Agrees}
use Rattle.mw_sorts.proofs.Getting.{read-or}
use Rattle.mw_sorts.proofs.Heads.{heads-all, heads-before, agrees-middle, visited-more, visited-all}
use Rattle.mw_sorts.proofs.grouping.search.first_pair.Goals as goal

pub returns-in-Some : goal.returns-in-Some
returns-in-Some c =
    let q = c.args.square.now in
    let n = c.loop-middle.middle-index in
    let at = read-or c.args.middles.now c.args.middles.now n 0 refl c.loop-middle-test.true in (
      c.requires.middles.within n _ at,
      c.in-Some.ensures,
      λ j k l m.
          heads-before q.rows.items q.columns.items c.args.middles.now c.requires.middles (λ (x : ℕ). (y : ℕ) → y < width q → Agrees q c.args.first x y) (λ i p r e a y b. agrees-middle q c.args.first i y p r e (a y b)) n _ at c.loop-middle.invariant j l k m,
    )

pub loop-middle-preserved : goal.loop-middle-preserved
loop-middle-preserved c =
    let q = c.args.square.now in
    let n = c.loop-middle.middle-index in
    let at = read-or c.args.middles.now c.args.middles.now n 0 refl c.loop-middle-test.true in
    visited-more c.args.middles.now n _ (λ (x : ℕ). (y : ℕ) → y < width q → Agrees q c.args.first x y) c.loop-middle.invariant at c.in_default.ensures

pub returns : goal.returns
returns c = λ j k l m.
    let q = c.args.square.now in
    let P : ℕ → Type 0 = λ (x : ℕ). (y : ℕ) → y < width q → Agrees q c.args.first x y in
    heads-all q.rows.items q.columns.items c.args.middles.now c.requires.middles P (λ i p r e a y b. agrees-middle q c.args.first i y p r e (a y b))
    (visited-all c.args.middles.now c.loop-middle.middle-index P c.loop-middle-test.false c.loop-middle.invariant) j l k m
