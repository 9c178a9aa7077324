use Rattle.std.proofs.Common.{◌≡◌, List, Some, ap, subst, sym}
use Rattle.mw_logic.specs.Signature.{Signature, at_number}
use Rattle.mw_logic.specs.Sorts.{AtOrBelow}
use Rattle.mw_logic.specs.Module.{Module}
use Rattle.mw_logic.specs.Terms.{args_of}
use Rattle.mw_least.specs.declared.closed.Home.{Home}
use Rattle.mw_least.specs.Closed.{AreMade}
use Rattle.mw_least.proofs.Tops.{positive}
use Rattle.mw_least.proofs.Homes.{home_closed}
use Rattle.mw_least.proofs.context.Ctx.are_made.Goals as goal

pub returns-then-home-ne0 : goal.returns-then-home-ne0
returns-then-home-ne0 c =
    let sig = c.self.inside.facts in
    let f = c.in-Op.operator in
    let h = c.in-Some.home.now in
    let S = c.args.sort in
    let at = subst (λ (hs : List Home). at_number hs f ≡ Some h) c.as_slice.ensures (sym (rw c.in-Some.is at c.numbered.ensures)) in
    let closed = home_closed sig sig.operators c.self.inside.homes f h c.self.invariant.each_home at (positive h.result c.if-home-ne0.true) in
    let P : Signature → Type 0 = λ g. (AtOrBelow g.pairs h.closed.sort S → AreMade g S (args_of c.args.term.now)) in
    let here : P sig = λ b. (h.closed, closed, b, c.may_stand_inside.ensures c.if-may_stand_inside.false) in
    let there = subst P (ap (λ (M : Module). M.signature) c.self.view_is) here in
    λ b. there (c.is_below.ensures.0 b)
