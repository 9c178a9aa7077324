use Rattle.std.proofs.Common.{◌∙◌, sym, ap, ◌∷◌, []}
use Rattle.mw_logic.specs.Term.{join}
use Rattle.mw_logic.specs.Terms.{terms_of}
use Rattle.mw_logic.proofs.SortLaws.{join-nil}
use Rattle.mw_logic.proofs.Pushed.{terms_of-append}
use Rattle.mw_canon.proofs.Listing.{elements_of_identity, elements_of_others, own_alone, own_below}
use Rattle.mw_canon.proofs.elements.push_elements.Goals as goal

pub returns-then-is_identity : goal.returns-then-is_identity
returns-then-is_identity c = sym (join-nil _) ∙ ap (join (terms_of c.args.found.now.items)) (sym (elements_of_identity _ c.args.operator c.args.term (sym c.is_identity.ensures ∙ c.if-is_identity.true)))

pub returns-then-not-stands_on_some : goal.returns-then-not-stands_on_some
returns-then-not-stands_on_some c =
    ap terms_of c.in_ok-push.ensures.items ∙ terms_of-append c.args.found.now.items (c.args.term ∷ [])
    ∙ ap (join (terms_of c.args.found.now.items)) (sym (elements_of_others _ c.args.operator c.args.term (sym c.is_identity.ensures ∙ c.if-is_identity.false) ∙ own_alone c.args.operator c.args.term c.stands_on_some.result c.stands_on_some.ensures c.if-not-stands_on_some.true))

pub returns : goal.returns
returns c =
    ap terms_of c.in_ok-append.ensures.items ∙ terms_of-append c.args.found.now.items c.in_ok-args.args.items
    ∙ ap (join (terms_of c.args.found.now.items)) (c.in_ok-args.ensures ∙ sym (elements_of_others _ c.args.operator c.args.term (sym c.is_identity.ensures ∙ c.if-is_identity.false) ∙ own_below c.args.operator c.args.term c.stands_on_some.result c.stands_on_some.ensures c.if-not-stands_on_some.false))
