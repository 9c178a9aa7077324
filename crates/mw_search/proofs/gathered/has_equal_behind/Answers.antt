use Rattle.std.proofs.Common.{◌∙◌, ◌+◌, ap, sym}
use Rattle.mw_logic.specs.Terms.{terms_of}
use Rattle.mw_arguments.specs.Bags.{same}
use Rattle.mw_matching.specs.Multisets.{term_at}
use Rattle.mw_search.proofs.BagLists.{at_index}
use Rattle.mw_search.proofs.gathered.has_equal_behind.Goals as goal

pub returns-in-Some : goal.returns-in-Some
returns-in-Some c = λ w l.
    let xs = c.args.terms.now in
    let k = c.in-Some.ensures.lookup in
    ap (λ t. same t (term_at c.args.at (terms_of xs))) (sym (at_index xs (c.args.at + 1) c.in-Some.behind.now l k.1))
    ∙ ap (same c.in-Some.behind.now) (sym (at_index xs c.args.at c.index-terms-at.result c.requires c.index-terms-at.is))
    ∙ sym c.is_same.ensures ∙ w
