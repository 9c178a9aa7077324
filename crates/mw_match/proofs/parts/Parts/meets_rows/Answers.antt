use Rattle.std.proofs.Common.{◌≡◌, ◌∙◌, ap, sym, length, arith}
use Rattle.mw_logic.specs.Terms.{args_of, terms_of}
use Rattle.mw_logic.specs.Parts.{is_assoc, number_of_terms}
use Rattle.mw_logic.specs.NormalForm.{is_comm}
use Rattle.mw_search.proofs.BagLists.{number_terms}
use Rattle.mw_match.proofs.Places.{row_found, same_numbers}
use Rattle.mw_match.proofs.parts.Parts.meets_rows.Goals as goal

pub returns : goal.returns
returns c same i below vs =
    let f = c.in-Op.operator in
    let size : number_of_terms (args_of c.args.self.now.subject) ≡ length c.in-Op.field-1.now = ap (λ t. number_of_terms (args_of t)) c.in-Op.ensures ∙ number_terms c.in-Op.field-1.now in
    row_found c.args.self.now.context.now.signature c.args.self.now.compiled.now.positions.single.items c.args.pattern.now c.args.self.now.subject f c.in-Op-view.top i (terms_of c.in-Op-view.field-1.now) c.in-Op.field-1.now
    c.in-Op.ensures c.in-Op-view.ensures (ap (λ s. is_assoc s f) (sym c.facts.ensures) ∙ c.in-Associative.ensures.0) (ap (λ s. is_comm s f) (sym c.facts.ensures) ∙ c.in-Associative.ensures.1 ∙ c.if-comm.false)
    (same_numbers c.in-Op-view.top f same) (omega (arith, size, below)) vs
