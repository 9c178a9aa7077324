use Rattle.std.proofs.Common.{◌≡◌, ◌∙◌, ◌∷◌, [], ap, sym, refl, length}
use Rattle.std.specs.Prelude.{Some, None}
use Rattle.mw_logic.specs.Terms.{args_of}
use Rattle.mw_logic.specs.NormalForm.{is_comm}
use Rattle.mw_match.specs.Parts.{places_of}
use Rattle.mw_match.proofs.Places.{placed_behind}
use Rattle.mw_match.proofs.Passed.{passed_next, passed_falls, passed_over, passed_all}
use Rattle.mw_match.proofs.parts.Parts.next_place.Goals as goal

pub returns-then-not-is_passed : goal.returns-then-not-is_passed
returns-then-not-is_passed c =
    let p = c.args.self.now in
    let comm : c.is_comm-comm.result ≡ is_comm p.context.now.signature c.in-Op.operator = c.is_comm-comm.ensures ∙ ap (λ s. is_comm s c.in-Op.operator) c.facts.ensures in
    let behind : places_of p.context.now.signature p.subject c.loop-next.at ≡ c.in-Some.next ∷ places_of p.context.now.signature p.subject c.in-Some.next =
    placed_behind p.context.now.signature p.subject c.loop-next.at (Some c.in-Some.next) c.in-Op.operator (length c.in-Op.elements.now) c.is_comm-comm.result c.in-Op.elements.now c.in-Op.ensures comm refl c.in-Some.ensures in
    passed_next p c.args.rest.now c.args.place c.loop-next.at c.in-Some.next c.loop-next.invariant behind

pub loop-next-smaller : goal.loop-next-smaller
loop-next-smaller c =
    let p = c.args.self.now in
    let comm : c.is_comm-comm.result ≡ is_comm p.context.now.signature c.in-Op.operator = c.is_comm-comm.ensures ∙ ap (λ s. is_comm s c.in-Op.operator) c.facts.ensures in
    let behind : places_of p.context.now.signature p.subject c.loop-next.at ≡ c.in-Some.next ∷ places_of p.context.now.signature p.subject c.in-Some.next =
    placed_behind p.context.now.signature p.subject c.loop-next.at (Some c.in-Some.next) c.in-Op.operator (length c.in-Op.elements.now) c.is_comm-comm.result c.in-Op.elements.now c.in-Op.ensures comm refl c.in-Some.ensures in
    passed_falls p c.args.rest.now c.loop-next.at c.in-Some.next behind

pub loop-next-preserved : goal.loop-next-preserved
loop-next-preserved c =
    let p = c.args.self.now in
    let comm : c.is_comm-comm.result ≡ is_comm p.context.now.signature c.in-Op.operator = c.is_comm-comm.ensures ∙ ap (λ s. is_comm s c.in-Op.operator) c.facts.ensures in
    let behind : places_of p.context.now.signature p.subject c.loop-next.at ≡ c.in-Some.next ∷ places_of p.context.now.signature p.subject c.in-Some.next =
    placed_behind p.context.now.signature p.subject c.loop-next.at (Some c.in-Some.next) c.in-Op.operator (length c.in-Op.elements.now) c.is_comm-comm.result c.in-Op.elements.now c.in-Op.ensures comm refl c.in-Some.ensures in
    passed_over p c.args.rest.now c.args.place c.loop-next.at c.in-Some.next c.loop-next.invariant behind
    (c.is_passed.ensures c.if-not-is_passed.false c.front-end.ensures c.front-left.ensures (ap args_of (sym c.in-Op.ensures)))

pub returns : goal.returns
returns c =
    let p = c.args.self.now in
    let comm : c.is_comm-comm.result ≡ is_comm p.context.now.signature c.in-Op.operator = c.is_comm-comm.ensures ∙ ap (λ s. is_comm s c.in-Op.operator) c.facts.ensures in
    let none : places_of p.context.now.signature p.subject c.loop-next.at ≡ [] =
    placed_behind p.context.now.signature p.subject c.loop-next.at None c.in-Op.operator (length c.in-Op.elements.now) c.is_comm-comm.result c.in-Op.elements.now c.in-Op.ensures comm refl (c.in_default-place_behind.ensures {u = tt}) in
    passed_all p c.args.rest.now c.args.place c.loop-next.at c.loop-next.invariant none
