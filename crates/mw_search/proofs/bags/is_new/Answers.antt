use Rattle.std.proofs.Common.{◌≡◌, ◌∙◌, ◌-◌, ap, sym, arith, not}
use Rattle.mw_logic.specs.Terms.{terms_of}
use Rattle.mw_arguments.specs.Bags.{same}
use Rattle.mw_matching.specs.Multisets.{term_at}
use Rattle.mw_search.proofs.BagLists.{at_index, new_test}
use Rattle.mw_search.proofs.bags.is_new.Goals as goal

pub returns : goal.returns
returns c =
    let zs = terms_of c.args.elements.now in
    let i = c.args.index in
    let a : c.index-elements-index.result ≡ term_at i zs = at_index c.args.elements.now i c.index-elements-index.result c.requires c.index-elements-index.is in
    let b : c.index-elements-index-2.result ≡ term_at (i - 1) zs = at_index c.args.elements.now (i - 1) c.index-elements-index-2.result (omega arith) c.index-elements-index-2.is in
    ap not c.is_same.ensures ∙ ap (λ t. not (same t c.index-elements-index-2.result)) a ∙ ap (λ t. not (same (term_at i zs) t)) b ∙ sym (new_test zs i (omega arith))
