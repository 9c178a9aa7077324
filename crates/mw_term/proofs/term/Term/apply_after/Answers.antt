use Rattle.std.proofs.Common.{◌≡◌, ◌∙◌, ap}
use Rattle.mw_logic.specs.Term.{apply as applied, join}
use Rattle.mw_logic.specs.Terms.{terms_of, args_of}
use Rattle.mw_logic.proofs.Pushed.{terms_of-append}
use Rattle.mw_term.proofs.term.Term.apply_after.Goals as goal

pub returns-clause-is : goal.returns-clause-is
returns-clause-is c =
    let f = c.args.operator in
    let done : c.in_ok-term.term ≡ applied f (terms_of c.in_ok-list-2.list.terms.items) = c.in_ok-term.ensures in
    done ∙ ap (λ ts. applied f (terms_of ts)) c.in_ok-list-2.ensures.terms ∙ ap (applied f) (terms_of-append c.in_ok-list.list.terms.items c.in_ok-back.back.items)
    ∙ ap (λ us. applied f (join us (terms_of c.in_ok-back.back.items))) c.in_ok-list.ensures.terms ∙ ap (λ ts. applied f (join (args_of c.args.first) (terms_of ts))) c.in_ok-back.ensures.tail
