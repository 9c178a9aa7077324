use Rattle.std.proofs.Common.{arith, ◌<◌, ℕ, refl}
use Rattle.mw_sorts.specs.Squares.{width, Agrees, AreHeads}
use Rattle.mw_sorts.proofs.Getting.{read-or}
use Rattle.mw_sorts.proofs.Heads.{heads-all, heads-before, heads-same, agrees-first, visited-more, visited-all}
use Rattle.mw_sorts.proofs.grouping.search.first_triple.Goals as goal

pub loop-first-init : goal.loop-first-init
loop-first-init c = λ m i l. absurd (omega arith)

pub first_pair-requires-clause-first : goal.first_pair-requires-clause-first
first_pair-requires-clause-first c =
    let q = c.args.square.now in
    let h : AreHeads q.rows.items q.rows.items c.as_slice-first-items.result.now = heads-same c.as_slice-rows.ensures.value c.as_slice-rows.ensures.value c.as_slice-first-items.ensures.value c.in_ok-firsts.ensures in
    h.within c.loop-first.first-index _ (read-or c.as_slice-first-items.result.now c.as_slice-first-items.result.now c.loop-first.first-index 0 refl c.loop-first-test.true)

pub returns-in-Some : goal.returns-in-Some
returns-in-Some c =
    let q = c.args.square.now in
    let n = c.loop-first.first-index in
    let h : AreHeads q.rows.items q.rows.items c.as_slice-first-items.result.now = heads-same c.as_slice-rows.ensures.value c.as_slice-rows.ensures.value c.as_slice-first-items.ensures.value c.in_ok-firsts.ensures in
    let at = read-or c.as_slice-first-items.result.now c.as_slice-first-items.result.now n 0 refl c.loop-first-test.true in (
      h.within n _ at,
      c.in-Some.ensures,
      λ i j k l m o.
          heads-before q.rows.items q.rows.items c.as_slice-first-items.result.now h (λ (x : ℕ). (y z : ℕ) → y < width q → z < width q → Agrees q x y z) (λ x p r e a y z b d. agrees-first q x y z p r (a y z b d)) n _ at c.loop-first.invariant i l j k m o,
    )

pub loop-first-preserved : goal.loop-first-preserved
loop-first-preserved c =
    let q = c.args.square.now in
    let n = c.loop-first.first-index in
    let at = read-or c.as_slice-first-items.result.now c.as_slice-first-items.result.now n 0 refl c.loop-first-test.true in
    visited-more c.as_slice-first-items.result.now n _ (λ (x : ℕ). (y z : ℕ) → y < width q → z < width q → Agrees q x y z) c.loop-first.invariant at c.in_default.ensures

pub returns : goal.returns
returns c = λ i j k l m o.
    let q = c.args.square.now in
    let h : AreHeads q.rows.items q.rows.items c.as_slice-first-items.result.now = heads-same c.as_slice-rows.ensures.value c.as_slice-rows.ensures.value c.as_slice-first-items.ensures.value c.in_ok-firsts.ensures in
    let P : ℕ → Type 0 = λ (x : ℕ). (y z : ℕ) → y < width q → z < width q → Agrees q x y z in
    heads-all q.rows.items q.rows.items c.as_slice-first-items.result.now h P (λ x p r e a y z b d. agrees-first q x y z p r (a y z b d))
    (visited-all c.as_slice-first-items.result.now c.loop-first.first-index P c.loop-first-test.false c.loop-first.invariant) i l j k m o
