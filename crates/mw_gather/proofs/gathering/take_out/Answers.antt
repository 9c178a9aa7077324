use Rattle.std.proofs.Common.{rules, ◌∙◌, ◌≡◌, ◌<◌, slice_get, length, arith, subst, sym, ap}
use Rattle.mw_logic.specs.Terms.{terms_of}
use Rattle.mw_logic.specs.TermOrder.{sorted_terms}
use Rattle.mw_gather.proofs.Taken.{out_step, out_ends}
use Rattle.mw_gather.proofs.Among.{among_next, among_left, order_removed, stands_there, stands_within}
use Rattle.mw_gather.proofs.gathering.take_out.Goals as goal

pub place_in-at-requires-clause-there : goal.place_in-at-requires-clause-there
place_in-at-requires-clause-there c =
    let (k, low, here, rest) = among_next c.args.some.now c.loop-term.elements.items c.loop-term.term-index c.term-item.result c.loop-term.from c.loop-term-test.true c.term-item.is c.loop-term.invariant.among in
    (k, low, ap (λ xs. slice_get xs k) c.as_slice.ensures.value ∙ here)

pub overflow_add-at : goal.overflow_add-at
overflow_add-at c =
    let w = stands_within c.as_slice.result.now c.loop-term.elements.items c.place_in-at.result c.term-item.result c.as_slice.ensures.value c.place_in-at.ensures.there in
    let (a, b) = c.loop-term.numbers.ok in
    let (d, e) = c.loop-term.elements.ok in
    let o = c.loop-term.numbers.small in
    let p = c.loop-term.elements.small in
    let q : c.len.result ≡ c.loop-term.numbers.len = c.len.ensures in
    omega (arith, w, b, d, e, o, p, q)

pub remove-requires : goal.remove-requires
remove-requires c =
    let h : c.place_in-at.result < length c.loop-term.elements.items = stands_within c.as_slice.result.now c.loop-term.elements.items c.place_in-at.result c.term-item.result c.as_slice.ensures.value c.place_in-at.ensures.there in
    search rules

pub loop-term-preserved : goal.loop-term-preserved
loop-term-preserved c = record {
  out = out_step c.args.elements.now.items c.args.some.now c.loop-term.term-index c.term-item.result c.loop-term.numbers.items c.loop-term.from c.loop-term.elements.items c.place_in-at.result c.in_ok-number.number c.push.new.self.items
      c.remove.new.self.items c.loop-term.invariant.out c.loop-term-test.true c.term-item.is c.place_in-at.ensures.from (stands_there c.as_slice.result.now c.loop-term.elements.items c.place_in-at.result c.term-item.result c.as_slice.ensures.value c.place_in-at.ensures.there) (let a = c.in_ok-number.ensures in let d = c.len.ensures in omega (arith, a, d)) c.in_ok-push.ensures.items c.remove.ensures.items;
  among = among_left c.args.some.now c.loop-term.elements.items c.loop-term.term-index c.term-item.result c.loop-term.from c.place_in-at.result c.remove.new.self.items c.loop-term-test.true c.term-item.is c.loop-term.invariant.among (stands_there c.as_slice.result.now c.loop-term.elements.items c.place_in-at.result c.term-item.result c.as_slice.ensures.value c.place_in-at.ensures.there)
      (λ k l s. c.place_in-at.ensures.first k l (ap (λ xs. slice_get xs k) c.as_slice.ensures.value ∙ s)) c.remove.ensures.items;
  order = subst (λ xs. sorted_terms (terms_of xs) ≡ terms_of xs) (sym c.remove.ensures.items) (order_removed c.loop-term.elements.items c.place_in-at.result
      (stands_within c.as_slice.result.now c.loop-term.elements.items c.place_in-at.result c.term-item.result c.as_slice.ensures.value c.place_in-at.ensures.there) c.loop-term.invariant.order);
}

pub returns-clause-rise : goal.returns-clause-rise
returns-clause-rise c = (out_ends c.args.elements.now.items c.args.some.now c.loop-term.term-index c.loop-term.numbers.items c.loop-term.from c.loop-term.elements.items c.loop-term.invariant.out (let t = c.loop-term-test.false in omega (arith, t))).0

pub returns-clause-chosen : goal.returns-clause-chosen
returns-clause-chosen c = (out_ends c.args.elements.now.items c.args.some.now c.loop-term.term-index c.loop-term.numbers.items c.loop-term.from c.loop-term.elements.items c.loop-term.invariant.out (let t = c.loop-term-test.false in omega (arith, t))).1

pub returns-clause-left : goal.returns-clause-left
returns-clause-left c = (out_ends c.args.elements.now.items c.args.some.now c.loop-term.term-index c.loop-term.numbers.items c.loop-term.from c.loop-term.elements.items c.loop-term.invariant.out (let t = c.loop-term-test.false in omega (arith, t))).2
