use Rattle.std.proofs.Common.{◌≡◌, ◌∙◌}
use Rattle.mw_logic.specs.Terms.{terms_of}
use Rattle.mw_matching.specs.Multisets.{term_at}
use Rattle.mw_search.proofs.BagLists.{at_index}
use Rattle.mw_search.proofs.Sharing.{heads_next}
use Rattle.mw_search.proofs.shares.Singles.share.Goals as goal

pub returns : goal.returns
returns c =
    let xs = c.elements-elements.result.now in
    let n = c.in-Some.at in
    let t : c.in_ok-term.term ≡ term_at n (terms_of xs) = c.in_ok-term.ensures ∙ at_index xs n c.index-elements-at.result c.in-Some.ensures.0 c.index-elements-at.is in
    heads_next c.args.self.now c.in_ok-term.term c.in_ok-pattern.pattern c.in_ok-bag.bag (terms_of xs) n _ c.elements-elements.ensures c.in-Some.ensures.1 t c.in_ok-pattern.ensures c.in_ok-bag.ensures
