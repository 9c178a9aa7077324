use Rattle.std.proofs.Common.{◌≡◌, ◌∙◌, ◌≤◌, ◌<◌, min, length, get_or, arith, ap, sym, refl}
use Rattle.mw_logic.specs.NormalForm.{height, highest}
use Rattle.mw_logic.specs.Terms.{terms_of}
use Rattle.mw_term.proofs.Terms.{element}
use Rattle.mw_term.proofs.Orders.{by_tops, by_arguments, lists_past}
use Rattle.mw_term.proofs.order.+ordered.Goals as goal

pub all_ordered-ordered-order-requires : goal.all_ordered-ordered-order-requires
all_ordered-ordered-order-requires t c =
    let l : c.loop-i.i < c.min-n.result = c.loop-i-test.true in
    let m : c.min-n.result ≡ min (length c.args.a.now) (length c.args.b.now) = c.min-n.ensures in
    let k : c.loop-i.i < length c.args.a.now = omega (arith, l, m) in
    let h : height (get_or c.args.a.now c.loop-i.i c.index-a-i.result) ≤ highest (terms_of c.args.a.now) = element _ _ _ k in
    let e : height c.index-a-i.result ≡ height (get_or c.args.a.now c.loop-i.i c.index-a-i.result) = ap height c.index-a-i.is in (omega (arith, h, e, c.decreases), tt)

pub all_ordered-returns : goal.all_ordered-returns
all_ordered-returns t c =
    let l : c.min-n.result ≤ c.loop-i.i = c.loop-i-test.false in
    let m : c.min-n.result ≡ min (length c.args.a.now) (length c.args.b.now) = c.min-n.ensures in
    sym (lists_past c.args.a.now c.args.b.now c.loop-i.i (omega (arith, l, m))) ∙ c.loop-i.invariant.1

pub applied_ordered-returns-then-is_ne : goal.applied_ordered-returns-then-is_ne
applied_ordered-returns-then-is_ne t c = by_tops c.args.f c.args.g c.args.a.now c.args.b.now c.then-tops.result (c.then-tops.ensures ∙ rw (c.cmp.ensures, c.cmp-2.ensures) refl) (sym c.if-is_ne.ensures)

pub applied_ordered-returns : goal.applied_ordered-returns
applied_ordered-returns t c = c.all_ordered.ensures ∙ by_arguments c.args.f c.args.g c.args.a.now c.args.b.now c.then-tops.result (c.then-tops.ensures ∙ rw (c.cmp.ensures, c.cmp-2.ensures) refl) (sym c.if-is_ne.ensures)
