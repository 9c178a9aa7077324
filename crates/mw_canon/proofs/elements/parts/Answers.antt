use Rattle.std.proofs.Common.{◌≡◌, ◌∙◌, ◌==◌, length, sym, ap, subst, false, Option}
use Rattle.mw_logic.specs.Term.{apply}
use Rattle.mw_logic.specs.Signature.{Identity}
use Rattle.mw_logic.specs.NormalForm.{identity_of, is_identity, elements}
use Rattle.mw_logic.specs.Terms.{terms_of}
use Rattle.mw_term.specs.Shapes.{viewed}
use Rattle.mw_canon.proofs.Listing.{own_elements}
use Rattle.mw_canon.proofs.elements.parts.Goals as goal

pub returns-in-Op : goal.returns-in-Op
returns-in-Op c =
    let e : Option Identity = identity_of c.args.facts.now c.args.operator in
    let t : c.args.term.now ≡ apply c.args.operator (terms_of c.in-Op.args.now) = c.view.ensures ∙ ap viewed c.in-Op.is ∙ ap (λ f. apply f (terms_of c.in-Op.args.now)) c.if-f-operator.true in
    let n : is_identity e c.args.term.now ≡ false = ap (λ i. is_identity i c.args.term.now) (sym c.identity.ensures) ∙ sym c.if-is_identity.ensures in
    let h : is_identity e (apply c.args.operator (terms_of c.in-Op.args.now)) ≡ false = subst (λ u. is_identity e u ≡ false) t n in
    let l : (length c.in-Op.args.now == 0) ≡ false = sym c.if-not-is_empty.ensures in
    sym (own_elements e c.args.operator c.in-Op.args.now h l) ∙ ap (elements e c.args.operator) (sym t)
