use Rattle.std.specs.Prelude.{◌<◌, length, option_map, MatchOption, ⊤}
use Rattle.std.specs.Ordering.{is_eq}
use Rattle.std.proofs.Common.{◌∙◌, ap, sym, subst}
use Rattle.mw_logic.specs.Term.{RawTerms}
use Rattle.mw_logic.specs.Terms.{terms_of}
use Rattle.mw_arguments.specs.Bags.{same}
use Rattle.mw_matching.specs.Multisets.{term_at}
use Rattle.mw_search.proofs.BagLists.{at_index}
use Rattle.mw_match.specs.Choices.{is_again as is_again_of}
use Rattle.mw_match.proofs.levels.is_again.Goals as goal

pub returns-in-Some : goal.returns-in-Some
returns-in-Some c =
    let args : RawTerms = terms_of c.args.elements.now in
    let inside : c.in-Some.i < length c.args.elements.now = subst (λ o. MatchOption o ⊤ (λ i. i < length c.args.elements.now)) c.in-Some.is c.requires.before in
    let a = at_index c.args.elements.now c.in-Some.i c.index-elements-i.result inside c.index-elements-i.is in
    let b = at_index c.args.elements.now c.args.index c.index-elements-index.result c.requires.there c.index-elements-index.is in
    c.is_eq.ensures ∙ ap is_eq c.compare.ensures ∙ ap (λ x. same x c.index-elements-index.result) a ∙ ap (same (term_at c.in-Some.i args)) b
    ∙ ap (λ o. is_again_of (option_map (λ b. term_at b args) o) (term_at c.args.index args)) (sym c.in-Some.is)
