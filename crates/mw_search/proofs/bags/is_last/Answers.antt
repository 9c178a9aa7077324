use Rattle.std.proofs.Common.{◌≡◌, ◌∙◌, ◌∷◌, ◌++◌, ◌-◌, ◌<◌, [], ap, sym, arith, length, take}
use Rattle.std.proofs.lemmas.Bool.{eqb-false}
use Rattle.mw_logic.proofs.SortedLists.{same_term}
use Rattle.mw_search.proofs.BagLists.{is_last_of}
use Rattle.mw_search.proofs.bags.is_last.Goals as goal

pub returns-clause-last : goal.returns-clause-last
returns-clause-last c = λ h.
    let d = c.index-terms-terms.result in
    let n = eqb-false (length c.args.terms.now) 0 (sym c.is_empty.ensures ∙ c.if-is_empty.false) in
    let some : 0 < length c.args.terms.now = omega (arith, n) in
    let e : c.args.term.now ≡ d = same_term c.args.term.now d (sym c.is_same.ensures ∙ h) in
    (take (length c.args.terms.now - 1) c.args.terms.now, is_last_of c.args.terms.now d some c.index-terms-terms.is ∙ ap (λ x. take (length c.args.terms.now - 1) c.args.terms.now ++ x ∷ []) (sym e))
