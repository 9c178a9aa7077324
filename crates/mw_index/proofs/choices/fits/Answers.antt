use Rattle.std.proofs.Common.{◌≡◌, subst}
use Rattle.mw_logic.specs.Signature.{Signature}
use Rattle.mw_logic.specs.Terms.{terms_of}
use Rattle.mw_search.specs.Lacking.{HaveTheirSorts, OneLacksItsSort}
use Rattle.mw_index.proofs.Comparing.{fitting}
use Rattle.mw_index.proofs.choices.fits.Goals as goal

pub returns : goal.returns
returns c =
    let sig : Signature = c.args.context.now.signature in
    let d = rw c.facts.ensures at (rw c.if-not-branch.false at c.in_ok-all_match.ensures.decides) in
    let n = c.in_ok-all_match.ensures.count c.if-not-branch.false in
    let vs : c.as_slice.result.now ≡ c.all_match.new.values.items = c.as_slice.ensures.value in
    let ss : c.as_slice-sorts.result.now ≡ c.args.by.now.sorts = c.as_slice-sorts.ensures in
    fitting sig c.args.by.now.sorts c.args.patterns.now (terms_of c.args.args.now) c.clear.new.self.items c.all_match.new.values.items c.clear.ensures.items c.requires.count c.have_sorts.result d n
    (λ t. subst (λ us. HaveTheirSorts sig c.args.by.now.sorts 0 us) vs (subst (λ Ss. HaveTheirSorts sig Ss 0 c.as_slice.result.now) ss (c.have_sorts.ensures.fits t)))
    (λ f. subst (λ us. OneLacksItsSort sig c.args.by.now.sorts 0 us) vs (subst (λ Ss. OneLacksItsSort sig Ss 0 c.as_slice.result.now) ss (c.have_sorts.ensures.lacks f)))
