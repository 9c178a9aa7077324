use Rattle.std.proofs.Common.{◌≡◌, ◌∙◌, ap, sym, option_map}
use Rattle.mw_logic.specs.NormalForm.{rebuilt}
use Rattle.mw_logic.specs.Term.{apply}
use Rattle.mw_logic.specs.Terms.{args_of, terms_of, front, skip}
use Rattle.mw_term.specs.Signatures.{identity_of as identity_named}
use Rattle.mw_search.proofs.Meeting.{rebuilt_two}
use Rattle.mw_search.proofs.terms.rebuilt_part.Goals as goal

pub returns-in_ok-term-in_default : goal.returns-in_ok-term-in_default
returns-in_ok-term-in_default c =
    let e : terms_of c.part.result.now ≡ front c.args.count (skip c.args.from (args_of c.args.row.now)) = c.part.ensures ∙ ap (λ ts. front c.args.count (skip c.args.from ts)) c.arguments.ensures in
    c.in_ok-term-in_default.ensures ∙ ap (apply c.args.operator) (sym e)
    ∙ sym (rebuilt_two (option_map identity_named c.args.identity) c.args.operator c.part.result.now c.in_default.len_at_least) ∙ ap (rebuilt (option_map identity_named c.args.identity) c.args.operator) e
