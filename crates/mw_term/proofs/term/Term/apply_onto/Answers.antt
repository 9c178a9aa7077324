use Rattle.std.proofs.Common.{◌≡◌, ◌∙◌, ap, drop}
use Rattle.mw_logic.specs.Term.{apply as applied, join}
use Rattle.mw_logic.specs.Terms.{terms_of}
use Rattle.mw_logic.proofs.Pushed.{terms_of-append}
use Rattle.mw_term.proofs.term.Term.apply_onto.Goals as goal

pub returns-clause-is : goal.returns-clause-is
returns-clause-is c =
    let done : c.in_ok-term.term ≡ applied c.args.operator (terms_of c.in_ok-list-2.list.terms.items) = c.in_ok-term.ensures in
    done ∙ ap (λ ts. applied c.args.operator (terms_of ts)) c.in_ok-list-2.ensures.terms ∙ ap (applied c.args.operator) (terms_of-append c.in_ok-front.front.items c.in_ok-list.list.terms.items)
    ∙ ap (λ ts. applied c.args.operator (join (terms_of ts) (terms_of c.in_ok-list.list.terms.items))) c.in_ok-front.ensures.tail ∙ ap (λ us. applied c.args.operator (join (terms_of (drop c.args.from c.args.terms.now.items)) us)) c.in_ok-list.ensures.terms
