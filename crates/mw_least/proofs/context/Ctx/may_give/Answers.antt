use Rattle.std.proofs.Common.{◌≡◌, ◌∙◌, ◌↔◌, List, Some, None, IsTrue, inl, ap, refl, subst, sym}
use Rattle.mw_logic.specs.Signature.{Signature, Declaration, Operator, at_number}
use Rattle.mw_least.specs.Giving.{OneGives}
use Rattle.mw_least.proofs.Below.{declared_result}
use Rattle.mw_least.proofs.Giving.{may_give_there}
use Rattle.mw_least.proofs.context.Ctx.may_give.Goals as goal

pub returns-in-Some : goal.returns-in-Some
returns-in-Some c =
    let sig = c.args.self.now.signature in
    let o = c.in-Some.operator.now in
    let os = c.as_slice.ensures ∙ ap (λ (s : Signature). s.operators) (c.behind-self.view_is ∙ c.signature.ensures) in
    let is = subst (λ xs. at_number xs c.args.operator ≡ Some o) os (sym (rw c.in-Some.is at c.numbered.ensures)) in
    let ds = c.as_slice-in-Some.ensures ∙ ap (λ (p : Operator). p.declarations) c.operator.view_is in
    let gives = subst (λ (xs : List Declaration). IsTrue c.some_gives.result ↔ OneGives sig xs c.args.sort) ds c.some_gives.ensures in
    let may = may_give_there sig c.args.operator c.args.sort o is in
    record {
      declared = (λ h. may.0 (gives.0 h), λ m. gives.1 (may.1 m));
      had = λ ts fixed raw h. gives.1 (declared_result sig c.shows.ensures.signature c.args.operator ts c.args.sort o is fixed raw h);
    }

pub returns-in-None : goal.returns-in-None
returns-in-None c =
    let os = c.as_slice.ensures ∙ ap (λ (s : Signature). s.operators) (c.behind-self.view_is ∙ c.signature.ensures) in
    let none = subst (λ xs. at_number xs c.args.operator ≡ None) os (sym (rw c.in-None.is at c.numbered.ensures)) in
    record { declared = (λ h. inl none, λ m. refl); had = λ ts fixed raw h. refl }
