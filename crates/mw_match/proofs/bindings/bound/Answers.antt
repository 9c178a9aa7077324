use Rattle.std.proofs.Common.{◌<◌, ◌≤◌, ◌∙◌, ap, arith, length, refl}
use Rattle.std.proofs.lemmas.Option.{slice_get_read}
use Rattle.std.specs.Prelude.{min}
use Rattle.mw_match.proofs.Pairs.{pairs_of, pair_taken, pairs_taken}
use Rattle.mw_match.proofs.bindings.bound.Goals as goal

pub loop-i-preserved : goal.loop-i-preserved
loop-i-preserved c =
    let n = c.min-count.ensures in
    let t = c.loop-i-test.true in
    let h : c.loop-i.i < length c.args.variables.now = omega (arith, n, t) in
    let k : c.loop-i.i < length c.args.values.now = omega (arith, n, t) in
    pair_taken c.args.variables.now c.args.values.now c.loop-i.i c.loop-i.pairs.items c.push.new.self.items (record { variable = c.in_ok-variable.variable; value = c.in_ok-value.value }) c.index-variables-i.result c.index-values-i.result
    h k (slice_get_read c.args.variables.now (length c.args.variables.now) c.loop-i.i c.index-variables-i.result refl h c.index-variables-i.is) c.index-values-i.is c.in_ok-variable.ensures c.in_ok-value.ensures c.in_ok-push.ensures.items c.loop-i.invariant

pub returns : goal.returns
returns c =
    let n = c.min-count.ensures in
    let t = c.loop-i-test.false in
    let h : min (length c.args.variables.now) (length c.args.values.now) ≤ c.loop-i.i = omega (arith, n, t) in
    ap pairs_of c.of.ensures ∙ c.loop-i.invariant ∙ pairs_taken c.args.variables.now c.args.values.now c.loop-i.i h
