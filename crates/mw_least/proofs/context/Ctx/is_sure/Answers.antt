use Rattle.std.proofs.Common.{◌≡◌, ◌∙◌, ℕ, List, IsTrue, Some, ap, subst, sym}
use Rattle.mw_logic.specs.Term.{is_ground}
use Rattle.mw_logic.specs.Parts.{nested}
use Rattle.mw_logic.specs.NormalForm.{normal_form}
use Rattle.mw_logic.specs.Signature.{Signature, sort, IsRawTerm, at_number}
use Rattle.mw_logic.specs.Sorts.{AtOrBelow, HasSort}
use Rattle.mw_logic.specs.Module.{Module}
use Rattle.mw_term.specs.Shapes.{viewed}
use Rattle.mw_least.proofs.Tops.{sure_there}
use Rattle.mw_least.proofs.context.Ctx.is_sure.Goals as goal

pub returns-then-result-ne0 : goal.returns-then-result-ne0
returns-then-result-ne0 c =
    let sig = c.self.inside.facts in
    let t = c.args.term.now in
    let R = c.in-Some.result.now in
    let S = c.args.sort in
    let at = subst (λ (xs : List ℕ). at_number xs c.in-Op.operator ≡ Some R) c.as_slice.ensures (sym (rw c.in-Some.is at c.numbered.ensures)) in
    let apart = c.may_stand_in.ensures c.if-may_stand_in.false in
    let P : Signature → Type 0 = λ g. (AtOrBelow g.pairs R S → normal_form g (nested g t) ≡ t → IsRawTerm g (nested g t) → IsTrue (is_ground t) → HasSort g (nested g t) (sort S)) in
    let work = c.self.invariant.workable in
    let here : P sig = λ b fixed raw ground. sure_there sig work.signature work.numbers c.self.inside.sure c.self.invariant.each_sure t _ _ (c.view.ensures ∙ ap viewed c.in-Op.is) apart R S at c.if-result-ne0.true b fixed raw ground in
    let there = subst P (ap (λ (M : Module). M.signature) c.self.view_is) here in
    λ fixed raw ground h. there (c.is_below.ensures.0 h) fixed raw ground
