use Rattle.std.proofs.Common.{◌<◌, ◌∙◌, ◌++◌, [], ◌∷◌, ap, length, arith}
use Rattle.mw_logic.specs.Term.{Variable}
use Rattle.mw_pattern.proofs.Lists.{sorts_more}
use Rattle.mw_pattern.proofs.places.Places.sorts.Goals as goal

pub loop-i-preserved : goal.loop-i-preserved
loop-i-preserved c =
    let l = c.len-i-end.ensures in let t = c.loop-i-test.true in
    let h : c.loop-i.i < length c.args.self.now = omega (arith, l, t) in
    let p = c.in_ok-push.ensures.items ∙ ap (λ (x : Variable). c.loop-i.sorts.items ++ x.sort ∷ []) c.behind-self.view_is in
    sorts_more c.args.self.now c.loop-i.i c.variable.result.now c.loop-i.sorts.items c.push.new.self.items h c.variable.ensures p c.loop-i.invariant
