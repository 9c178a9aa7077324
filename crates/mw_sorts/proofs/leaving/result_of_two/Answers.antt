use Rattle.std.proofs.Common.{inl}
use Rattle.mw_term.specs.Signatures.{sorted_of}
use Rattle.mw_sorts.proofs.Lowered.{beside-kind, beside-there, looked-up}
use Rattle.mw_sorts.proofs.leaving.result_of_two.Goals as goal

pub returns-clause-result : goal.returns-clause-result
returns-clause-result c =
    let r = c.requires in
    looked-up c.args.sorting.now.signature r.order_sorted r.operator.0 c.args.operator.now r.operator.1 c.args.sorting.now.places c.args.diagram.now r.diagram r.identity.0 r.identity.1 c.places.result.now c.places.ensures (sorted_of c.args.first)
    (sorted_of c.args.second) _ r.first r.second c.on_two.ensures

pub returns-clause-kind : goal.returns-clause-kind
returns-clause-kind c =
    let r = c.requires in
    beside-kind c.args.sorting.now.signature r.order_sorted r.operator.0 c.args.operator.now r.operator.1 (sorted_of c.args.first) (sorted_of c.args.second) _ (
    inl (
    looked-up c.args.sorting.now.signature r.order_sorted r.operator.0 c.args.operator.now r.operator.1 c.args.sorting.now.places c.args.diagram.now r.diagram r.identity.0 r.identity.1 c.places.result.now c.places.ensures (sorted_of c.args.first)
    (sorted_of c.args.second) _ r.first r.second c.on_two.ensures
    )
    )

pub returns-clause-there : goal.returns-clause-there
returns-clause-there c =
    let r = c.requires in
    beside-there c.args.sorting.now.signature r.order_sorted r.operator.0 c.args.operator.now r.operator.1 (sorted_of c.args.first) (sorted_of c.args.second) _ (
    inl (
    looked-up c.args.sorting.now.signature r.order_sorted r.operator.0 c.args.operator.now r.operator.1 c.args.sorting.now.places c.args.diagram.now r.diagram r.identity.0 r.identity.1 c.places.result.now c.places.ensures (sorted_of c.args.first)
    (sorted_of c.args.second) _ r.first r.second c.on_two.ensures
    )
    )
