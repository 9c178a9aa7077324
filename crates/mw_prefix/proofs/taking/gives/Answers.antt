use Rattle.std.proofs.Common.{◌∙◌, ap, sym, subst}
use Rattle.mw_logic.specs.Signature.{Operator}
use Rattle.mw_poset.specs.Order.{IsSort, IsKindOf}
use Rattle.mw_prefix.specs.Taking.{gives}
use Rattle.mw_prefix.proofs.KindTests.{kind_in, same_number, result_there}
use Rattle.mw_prefix.proofs.taking.gives.Goals as goal

pub kind_of-requires : goal.kind_of-requires
kind_of-requires c =
    subst (IsSort c.args.order.now.sorts) (ap (λ (p : Operator). p.result) (sym c.found.view_is))
    (result_there c.args.facts.now c.args.order.now c.requires.sorts c.requires.order c.args.operator c.in-Some.found.now (sym c.in-Some.ensures))

pub returns-in-Some : goal.returns-in-Some
returns-in-Some c =
    let of_result : IsKindOf c.args.order.now.pairs c.in-Some.found.now.result c.kind_of.result = subst (λ S. IsKindOf c.args.order.now.pairs S c.kind_of.result) (ap (λ (p : Operator). p.result) c.found.view_is) c.kind_of.ensures in
    same_number c.args.facts.now c.in-Some.found.now.result c.args.kind c.kind_of.result c.kind_of-in-Some.result
    (kind_in c.args.facts.now c.args.order.now c.in-Some.found.now.result c.kind_of.result c.requires.order of_result)
    (kind_in c.args.facts.now c.args.order.now c.args.kind c.kind_of-in-Some.result c.requires.order c.kind_of-in-Some.ensures)
    ∙ ap (gives c.args.facts.now c.args.kind) c.in-Some.ensures
