use Rattle.std.proofs.Common.{◌≡◌, ◌∙◌, List, Some, ap, subst, sym}
use Rattle.mw_logic.specs.Signature.{Signature, at_number}
use Rattle.mw_logic.specs.Sorts.{AtOrBelow}
use Rattle.mw_logic.specs.Module.{Module}
use Rattle.mw_logic.specs.Terms.{terms_of}
use Rattle.mw_term.specs.Shapes.{viewed}
use Rattle.mw_least.specs.declared.closed.Home.{Home}
use Rattle.mw_least.specs.Sure.{IsApart}
use Rattle.mw_least.specs.Closed.{Has}
use Rattle.mw_least.proofs.Tops.{positive}
use Rattle.mw_least.proofs.Homes.{at_home}
use Rattle.mw_least.proofs.context.Ctx.has_home.Goals as goal

pub returns-then-home-ne0 : goal.returns-then-home-ne0
returns-then-home-ne0 c =
    let sig = c.self.inside.facts in
    let t = c.args.term.now in
    let f = c.in-Op.operator in
    let h = c.in-Some.home.now in
    let S = c.args.sort in
    let at = subst (λ (hs : List Home). at_number hs f ≡ Some h) c.as_slice.ensures (sym (rw c.in-Some.is at c.numbered.ensures)) in
    let applied = c.view.ensures ∙ ap viewed c.in-Op.is in
    let apart = subst (IsApart h.closed.outside) applied (c.may_stand_in.ensures c.if-may_stand_in.false) in
    let P : Signature → Type 0 = λ g. (AtOrBelow g.pairs h.result S → Has g S t) in
    let work = c.self.invariant.workable in
    let here : P sig = λ b. subst (Has sig S) (sym applied) (at_home sig work.signature work.numbers c.self.inside.homes c.self.invariant.each_home f (terms_of c.in-Op.field-1.now) h S at (positive h.result c.if-home-ne0.true) apart b) in
    let there = subst P (ap (λ (M : Module). M.signature) c.self.view_is) here in
    λ b. there (c.is_below.ensures.0 b)
