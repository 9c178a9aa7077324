use Rattle.std.proofs.Common.{◌∙◌, ap, sym, option_map}
use Rattle.mw_logic.specs.Term.{apply}
use Rattle.mw_logic.specs.Terms.{terms_of}
use Rattle.mw_term.specs.Signatures.{identity_of as identity_named}
use Rattle.mw_search.proofs.Meeting.{rebuilt_two}
use Rattle.mw_search.proofs.terms.rebuilt_of.Goals as goal

pub returns-in_ok-term-in_default : goal.returns-in_ok-term-in_default
returns-in_ok-term-in_default c =
    c.in_ok-term-in_default.ensures ∙ ap (λ ts. apply c.args.operator (terms_of ts)) c.in_ok-args-in_default.ensures
    ∙ sym (rebuilt_two (option_map identity_named c.args.identity) c.args.operator c.args.elements.now c.in_default.len_at_least)
