use Rattle.std.proofs.Common.{◌∙◌, ap, sym}
use Rattle.mw_arguments.specs.Bags.{same}
use Rattle.mw_search.proofs.BagLists.{at_index}
use Rattle.mw_search.proofs.bags.is_at.Goals as goal

pub returns-in-Some-clause-there : goal.returns-in-Some-clause-there
returns-in-Some-clause-there c = λ h.
    let k = c.in-Some.ensures.lookup in
    (k.3.0, ap (λ t. same t c.args.term.now) (sym (at_index c.args.terms.now c.args.index c.in-Some.found.now k.3.0 k.1)) ∙ sym c.is_same.ensures ∙ h)

pub returns-in-Some-clause-other : goal.returns-in-Some-clause-other
returns-in-Some-clause-other c = λ h l.
    let k = c.in-Some.ensures.lookup in
    ap (λ t. same t c.args.term.now) (sym (at_index c.args.terms.now c.args.index c.in-Some.found.now l k.1)) ∙ sym c.is_same.ensures ∙ h
