use Rattle.std.specs.Prelude.{All}
use Rattle.std.proofs.Common.{◌≡◌, ◌≢◌, replicate, arith, ap, ◌∙◌, ◌+◌, sym, subst, List, ℕ}
use Rattle.mw_poset.proofs.Reading.{KindsSoFar, kinds_done}
use Rattle.mw_poset.proofs.Steps.{kind_free, kinds_begun, kinds_old, kinds_new}
use Rattle.mw_poset.proofs.search.kinds_of.Goals as goal
use Rattle.mw_poset.proofs.search.kinds_of.Goals.{then-index-eq0+in_ok-mark_reached, else-index-eq0}

pub loop-k-init : goal.loop-k-init
loop-k-init c = kinds_begun c.args.links.now c.in_ok-kinds.kinds.items c.sorts-sorts.ensures.within (c.in_ok-kinds.ensures.items_if_clones_equal (λ y h. h) ∙ ap (λ (n : ℕ). replicate n 0) c.sorts-sorts.ensures.sorts)

pub mark_reached-requires-clause-new_mark : goal.mark_reached-requires-clause-new_mark
mark_reached-requires-clause-new_mark c =
    subst (λ (xs : List ℕ). All (λ m. m ≢ c.loop-k.k + 1) xs) (sym c.as_mut_slice.ensures.value) (kind_free c.args.links.now c.loop-k.k c.loop-k.kinds.items c.loop-k.invariant)

pub loop-k-preserved : goal.loop-k-preserved
loop-k-preserved c = elim c.if-index-eq0.branch [
  | then-index-eq0+in_ok-mark_reached w ↦
      subst (λ (xs : List ℕ). KindsSoFar c.args.links.now (c.loop-k.k + 1) xs) (sym (ap (λ v. v.items) w.kinds-is))
      (kinds_new c.args.links.now c.loop-k.k c.loop-k.kinds.len c.loop-k.kinds.items w.as_mut_slice.result.now w.mark_reached.new.marks c.index.result.now
      c.requires (omega (arith, c.loop-k-test.true, c.sorts-sorts.ensures.sorts)) c.loop-k.invariant c.index.ensures w.if-index-eq0.true w.as_mut_slice.ensures.value c.loop-k.kinds.ok.0 w.mark_reached.auto.marks w.in_ok-mark_reached.ensures)
  | else-index-eq0 w ↦
      kinds_old c.args.links.now c.loop-k.k c.loop-k.kinds.items c.if-index-eq0.kinds.items c.index.result.now c.requires (omega (arith, c.loop-k-test.true, c.sorts-sorts.ensures.sorts)) c.loop-k.invariant c.index.ensures
      w.if-index-eq0.false (ap (λ v. v.items) w.kinds-is)
]

pub returns : goal.returns
returns c = kinds_done c.args.links.now c.loop-k.kinds.items (let i = c.loop-k.invariant in let n : c.loop-k.k ≡ c.args.links.now.sorts = omega (arith, c.loop-k-test.false, c.loop-k.auto.k-end, c.sorts-sorts.ensures.sorts) in subst (λ (n : ℕ). KindsSoFar c.args.links.now n c.loop-k.kinds.items) n i)
