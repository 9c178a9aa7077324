use Rattle.std.proofs.Common.{◌≡◌, ◌∙◌, List, map, ap}
use Rattle.std.proofs.Common.{Vec, Global}
use Rattle.mw_term.specs.declared.term.Term.{Term}
use Rattle.mw_logic.specs.Term.{RawTerm}
use Rattle.mw_position.specs.Variables.{bound_values}
use Rattle.mw_index.specs.Choices.{in_order}
use Rattle.mw_term.specs.declared.subst.Binding.{Binding}
use Rattle.mw_index.proofs.Orders.{order_more, order_past, order_all, values_bound}
use Rattle.mw_index.proofs.choices.in_order.Goals as goal
use Rattle.mw_index.proofs.choices.in_order.Goals.{in-Some+in_ok-value-in-Some+in_ok-push-in-Some, in-None}

pub loop-place-preserved : goal.loop-place-preserved
loop-place-preserved c = elim c.match-get.branch [
  | in-Some+in_ok-value-in-Some+in_ok-push-in-Some w ↦ order_more c.as_slice-pairs.result.now c.args.order.now c.loop-place.place-index w.in-Some.pair.now w.in_ok-value-in-Some.value c.loop-place.values.items c.match-get.values.items _ c.loop-place-test.true w.in-Some.ensures.lookup.3.0 w.in-Some.ensures.lookup.1 w.in_ok-value-in-Some.ensures (ap (λ (v : Vec Term Global). v.items) w.values-is ∙ w.in_ok-push-in-Some.ensures.items) c.loop-place.invariant
  | in-None w ↦ order_past c.as_slice-pairs.result.now c.args.order.now c.loop-place.place-index c.loop-place.values.items c.match-get.values.items _ c.loop-place-test.true w.in-None.ensures.lookup.3 (ap (λ (v : Vec Term Global). v.items) w.values-is) c.loop-place.invariant
]

pub returns : goal.returns
returns c =
    let us : List RawTerm = bound_values c.args.subst.now in
    let values : map (λ (b : Binding). b.value) c.as_slice-pairs.result.now ≡ us = ap (λ bs. map (λ (b : Binding). b.value) bs) c.as_slice-pairs.ensures ∙ values_bound c.subst.inside.pairs ∙ ap bound_values c.subst.view_is in
    order_all c.as_slice-pairs.result.now c.args.order.now c.loop-place.place-index c.loop-place.values.items _ c.loop-place-test.false c.loop-place.invariant ∙ ap (λ us. in_order us c.args.order.now) values
