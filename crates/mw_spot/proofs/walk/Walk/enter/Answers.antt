use Rattle.std.proofs.Common.{◌≡◌, ◌∙◌, ◌-◌, ◌++◌, ◌∷◌, suc, take, drop, length, reverse, get_or, ap, subst, sym, arith}
use Rattle.mw_logic.specs.Term.{apply}
use Rattle.mw_logic.specs.Terms.{terms_of, args_of}
use Rattle.mw_deduction.specs.Replay.{into_argument}
use Rattle.mw_spot.specs.Walks.{level_of, IsAt}
use Rattle.mw_spot.proofs.Entering.{from_one, to_last, entered}
use Rattle.mw_spot.proofs.Calls.{pushed_first, same_list}
use Rattle.mw_spot.proofs.walk.Walk.enter.Goals as goal
use Rattle.mw_spot.proofs.walk.Walk.enter.Goals.{then-index-eq0-via-then-index-eq0, then-index-eq0-via-else-index-eq0+then-index-args}

pub returns-then-index-eq0 : goal.returns-then-index-eq0
returns-then-index-eq0 c = λ sig S ok here k may.
    let f = c.in-Op.operator in
    let args = c.in-Op.args.now in
    let is : c.args.self.now.hand ≡ apply f (terms_of args) = ap (λ w. w.hand) (sym c.self.view_is) ∙ c.in-Op.ensures in
    let first = from_one sig ok c.args.self.now S here k c.args.number may f args is in
    let last = to_last sig ok c.args.self.now S here k c.args.number may f args is in
    elim c.then-index-eq0.branch [
      | then-index-eq0-via-then-index-eq0 w ↦ (let e = w.if-index-eq0.true in absurd (omega (arith, first, e)))
      | then-index-eq0-via-else-index-eq0+then-index-args w ↦ (let e = w.if-index-args.true in absurd (omega (arith, last, e)))
    ]

pub remove-hand-requires : goal.remove-hand-requires
remove-hand-requires c =
    let args = c.in-Op.args.now in
    let is : c.args.self.now.hand ≡ apply c.in-Op.operator (terms_of args) = ap (λ w. w.hand) (sym c.self.view_is) ∙ c.in-Op.ensures in
    let same : c.in_ok-others.others.items ≡ args = same_list c.in_ok-others.others.items args (c.in_ok-others.ensures ∙ ap args_of (c.in_ok-take_hand.ensures.hand ∙ is)) in
    let size = ap length same in
    let v = c.in_ok-others.others.ok.0 in
    let a = c.if-index-eq0.false in
    let b = c.if-index-args.false in
    omega (arith, size, v, a, b)

pub returns : goal.returns
returns c = λ sig S ok here k may.
    let f = c.in-Op.operator in
    let args = c.in-Op.args.now in
    let is : c.args.self.now.hand ≡ apply f (terms_of args) = ap (λ w. w.hand) (sym c.self.view_is) ∙ c.in-Op.ensures in
    let others = c.in_ok-others.others.items in
    let same : others ≡ args = same_list others args (c.in_ok-others.ensures ∙ ap args_of (c.in_ok-take_hand.ensures.hand ∙ is)) in
    let at = c.args.number - 1 in
    let x = c.remove-hand.result in
    let left = c.remove-hand.new.self.items in
    let a = c.if-index-eq0.false in
    let next : suc at ≡ c.args.number = omega (arith, a) in
    let rest : left ≡ take at args ++ drop (suc at) args = c.remove-hand.ensures.items ∙ ap (λ xs. take at xs ++ drop (suc at) xs) same in
    let found : get_or args at x ≡ x = sym (c.remove-hand.ensures.value ∙ ap (λ xs. get_or xs at x) same) in
    let opens : (level_of f at left ∷ c.args.self.now.opens) ≡ reverse c.push.new.self.items =
    ap (λ os. level_of f at left ∷ os) (sym (ap (λ w. w.opens) c.self-2.view_is ∙ c.in_ok-take_hand.ensures.opens)) ∙ sym (pushed_first c.self-2.inside.levels.items c.push.new.self.items (level_of f at left) c.in_ok-push.ensures.items) in
    subst (λ os. IsAt sig (record { opens = os; hand = x }) (into_argument sig c.args.number S.hand S)) opens (entered sig ok c.args.self.now S here k c.args.number may f args is at left x next rest found)
