use Rattle.std.proofs.Common.{◌≡◌, ◌∙◌, ◌-◌, length, slice_get, arith, false, ap, subst}
use Rattle.mw_logic.specs.TermOrder.{stands_after}
use Rattle.mw_reduce.proofs.Joining.{put_behind}
use Rattle.mw_reduce.proofs.pairs.comes_last.Goals as goal

pub returns-in-Some : goal.returns-in-Some
returns-in-Some c = λ h i d.
    put_behind c.args.made.now i c.args.term.now
    (λ n u e q.
    let k : length c.args.made.now - 1 ≡ n = omega (arith, e) in
    let z = c.in-Some.ensures.value ∙ ap (slice_get c.args.made.now) k ∙ q in
    let same : c.in-Some.last.now ≡ u = cc in
    subst (λ v. stands_after v c.args.term.now ≡ false) same (c.is_in_order.ensures.yes h)) d
