use Rattle.std.proofs.Common.{◌≡◌, true, refl, subst}
use Rattle.std.proofs.lemmas.Bool.{both_ways, not-true}
use Rattle.mw_logic.specs.Term.{RawTerm, is_ground}
use Rattle.mw_logic.specs.Signature.{sort, IsRawTerm, identity_term}
use Rattle.mw_logic.specs.Sorts.{HasSort}
use Rattle.mw_logic.specs.Parts.{nested}
use Rattle.mw_logic.specs.NormalForm.{normal_form}
use Rattle.mw_compile.proofs.Sure.{one_by, none_has, kept_is, identity_ground}
use Rattle.mw_compile.proofs.singles.is_one_under.Goals as goal

pub returns-in-Some : goal.returns-in-Some
returns-in-Some c = λ h.
    let sig = c.args.context.now.signature in
    let j = c.args.joining.now in
    let t : RawTerm = c.in-Some.identity in
    one_by sig j.operator c.args.sort c.shows.ensures.signature.accepted
    (λ ts k. both_ways _ c.if-may_give.false (c.may_give.ensures.had ts k.canonical k.raw k.sorted))
    (λ i d k.
    let e : identity_term i ≡ t = kept_is sig j.operator c.args.sort j t refl c.requires c.in-Some.is i d in
    let has = c.has_sort.ensures (subst (λ u. normal_form sig (nested sig u) ≡ u) e k.canonical) (subst (λ u. IsRawTerm sig (nested sig u)) e k.raw) (subst (λ u. is_ground u ≡ true) e (identity_ground i)) in
    both_ways _ (not-true c.has_sort.result h) (has.1 (subst (λ u. HasSort sig (nested sig u) (sort c.args.sort)) e k.sorted)))

pub returns-in-None : goal.returns-in-None
returns-in-None c = λ h.
    let sig = c.args.context.now.signature in
    let j = c.args.joining.now in
    one_by sig j.operator c.args.sort c.shows.ensures.signature.accepted
    (λ ts k. both_ways _ c.if-may_give.false (c.may_give.ensures.had ts k.canonical k.raw k.sorted))
    (λ i d k. none_has sig j.operator c.args.sort j refl c.requires c.in-None.is i d)
