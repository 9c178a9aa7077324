use Rattle.std.proofs.Common.{◌≡◌, ◌∙◌, ℕ, List, [], ◌∷◌, length, ap, subst, length-append, arith}
use Rattle.std.specs.Global.{Vec}
use Rattle.std.specs.Prelude.{slice_get, Some}
use Rattle.mw_logic.specs.Signature.{Signature}
use Rattle.mw_sorts.proofs.Placing.{empty-more, places-none}
use Rattle.mw_sorts.proofs.Getting.{get-none}
use Rattle.mw_sorts.proofs.sorting.no_members.Goals as goal

pub loop-init : goal.loop-init
loop-init c = (ap (λ (xs : List (Vec ℕ)). length xs) c.new-members.ensures.items, λ q list e. absurd (get-none (subst (λ (xs : List (Vec ℕ)). slice_get xs q ≡ Some list) c.new-members.ensures.items e)))

pub loop-preserved : goal.loop-preserved
loop-preserved c = (
  let n = c.loop.invariant.0 in let a = ap (λ (xs : List (Vec ℕ)). length xs) c.in_ok-push.ensures.items in let l = length-append c.loop.members.items (c.new.result ∷ []) in omega arith,
  empty-more c.loop.members.items c.push.new.self.items c.new.result c.loop.invariant.1 c.new.ensures.items c.in_ok-push.ensures.items,
)

pub returns : goal.returns
returns c =
    let n = c.loop.invariant.0 in
    let high = c.loop-test.false in
    let low = c.loop.auto.index-end in
    let m : length c.as_slice-items.result.now ≡ length c.args.signature.now.sorts = ap (λ (xs : List (List ℕ)). length xs) (c.as_slice-items.ensures ∙ ap (λ (s : Signature). s.sorts) c.signature.view_is) in
    places-none c.args.signature.now c.loop.members.items (omega arith) c.loop.invariant.1
