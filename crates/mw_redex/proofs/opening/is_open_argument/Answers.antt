use Rattle.std.proofs.Common.{◌∙◌, ap, sym, ℕ, List, nat_eq}
use Rattle.std.specs.List.{list_any}
use Rattle.mw_logic.specs.Signature.{Signature, Operator, at_number, IsOperator}
use Rattle.mw_redex.specs.Replaced.{asked}
use Rattle.mw_redex.proofs.Opened.{open_by_list}
use Rattle.mw_redex.proofs.opening.is_open_argument.Goals as goal

pub returns-in-Some : goal.returns-in-Some
returns-in-Some c =
    let f : ℕ = c.args.operator in
    let is : IsOperator c.args.facts.now f c.in-Some.found.now =
    ap (λ (s : Signature). at_number s.operators f) (sym c.signature-signature.ensures ∙ sym c.signature.view_is) ∙ ap (λ (os : List Operator). at_number os f) (sym c.as_slice.ensures) ∙ sym c.in-Some.ensures in
    open_by_list c.args.facts.now f c.in-Some.found.now c.args.number is c.contains.result
    (c.contains.ensures.value ∙ ap (λ n. list_any (λ m. nat_eq m n) c.as_slice-in-Some.result.now) c.asked-asked.ensures
    ∙ ap (list_any (λ m. nat_eq m (asked c.in-Some.found.now c.args.number))) (c.as_slice-in-Some.ensures ∙ ap (λ (o : Operator). o.frozen) c.found.view_is))
