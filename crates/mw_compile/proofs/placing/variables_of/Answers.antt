use Rattle.std.proofs.Common.{◌≡◌, ◌<◌, ◌∙◌, length, ap, arith}
use Rattle.mw_logic.specs.Term.{Variable}
use Rattle.mw_compile.proofs.ByPosition.{variables_more}
use Rattle.mw_compile.proofs.placing.variables_of.Goals as goal

pub loop-i-preserved : goal.loop-i-preserved
loop-i-preserved c =
    let l = c.len-i-end.ensures in
    let t = c.loop-i-test.true in
    let h : c.loop-i.i < length c.args.places.now = omega (arith, l, t) in
    let x : Variable = record { name = c.in_ok-name.name; sort = c.x.inside.sort } in
    let e : x ≡ c.variable-x.result.now = ap (λ n. record { name = n; sort = c.x.inside.sort }) c.in_ok-name.ensures ∙ c.x.view_is in
    variables_more c.args.places.now c.loop-i.i c.variable-x.result.now x c.loop-i.variables.items c.push.new.self.items h c.variable-x.ensures e c.in_ok-push.ensures.items c.loop-i.invariant
