use Rattle.std.proofs.Common.{List, [], ◌∷◌, ◌++◌, ap, subst, sym, append_assoc}
use Rattle.std.proofs.lemmas.List.{append-nil}
use Rattle.mw_poset.specs.SortOrder.{SortOrder}
use Rattle.mw_least.specs.declared.closed.Home.{Home}
use Rattle.mw_least.specs.Closed.{AreHomes}
use Rattle.mw_least.proofs.Homes.{homes_more}
use Rattle.mw_least.proofs.closed.homes_among.Goals as goal

pub loop-rest-preserved : goal.loop-rest-preserved
loop-rest-preserved c = λ hs r.
    let sig = c.args.signature.now in
    let h = c.home_of.result in
    let here = c.home_of.ensures sig (sym (ap (λ (s : SortOrder). s.pairs) c.requires.order)) c.requires.closed in
    let more = homes_more sig c.loop-rest.rest.now c.operator-item.result _ h hs c.in-len1-up.len_at_least c.operator-item.is here r in
    let all = c.loop-rest.invariant (h ∷ hs) more in
    subst (λ (xs : List Home). AreHomes sig sig.operators (xs ++ hs)) (sym c.in_ok-push.ensures.items)
    (subst (AreHomes sig sig.operators) (sym (append_assoc c.loop-rest.homes.items (h ∷ []) hs)) all)

pub returns : goal.returns
returns c =
    let sig = c.args.signature.now in
    let all = c.loop-rest.invariant [] tt in
    subst (AreHomes sig sig.operators) (sym c.of.ensures) (subst (AreHomes sig sig.operators) (append-nil c.loop-rest.homes.items) all)
