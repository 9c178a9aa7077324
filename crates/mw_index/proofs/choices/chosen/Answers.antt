use Rattle.std.proofs.Common.{◌≡◌, ◌∙◌, length, ap, arith, refl}
use Rattle.mw_position.specs.Variables.{bound_values}
use Rattle.mw_index.specs.Choices.{in_order}
use Rattle.mw_index.proofs.choices.chosen.Goals as goal

pub returns-then-len-as_slice : goal.returns-then-len-as_slice
returns-then-len-as_slice c = λ e.
    let is : c.in_ok-values.values.items ≡ in_order (bound_values c.args.solution.subst) c.args.searched.now.order = c.in_ok-values.ensures ∙ ap (in_order (bound_values c.args.solution.subst)) c.as_slice.ensures in
    let a = ap length is in let b = ap length c.as_slice-2.ensures in let l = c.len.ensures in let n = c.if-len-as_slice.true in let o = c.in_ok-values.values.ok.0 in omega (arith, a, b, l, n, o, e)

pub returns : goal.returns
returns c =
    let is : c.in_ok-values.values.items ≡ in_order (bound_values c.args.solution.subst) c.args.searched.now.order = c.in_ok-values.ensures ∙ ap (in_order (bound_values c.args.solution.subst)) c.as_slice.ensures in
    let b = ap length c.as_slice-2.ensures in let l = c.len.ensures in let n = c.if-len-as_slice.false in let o = c.in_ok-values.values.ok.0 in
    (refl, is, refl, omega (arith, b, l, n, o))
