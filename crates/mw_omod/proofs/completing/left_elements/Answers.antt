use Rattle.std.proofs.Common.{arith}
use Rattle.mw_omod.specs.Completion.{LeftBecomes}
use Rattle.mw_omod.proofs.Becoming.{one_more, all_done}
use Rattle.mw_omod.proofs.Listing.{kept_at}
use Rattle.mw_omod.proofs.Moving.{got}
use Rattle.mw_omod.proofs.completing.left_elements.Goals as goal

pub loop-element-preserved : goal.loop-element-preserved
loop-element-preserved c = λ sig t ok kept of.
    let is = kept_at sig ok c.args.classes.now c.args.lefts.now kept c.loop-element.element-index c.element-item.result (got c.args.lefts.now c.loop-element.element-index c.element-item.result c.loop-element-test.true c.element-item.is) in
    one_more (LeftBecomes sig c.args.classes.now t) c.args.lefts.now c.loop-element.element-index c.element-item.result c.in_ok-number.number c.loop-element.made.items _ c.in_ok-term.term c.loop-element-test.true c.element-item.is c.in_ok-push.ensures.items (let n = c.in_ok-number.ensures in let l = c.len.ensures in omega (arith, n, l))
    (c.in_ok-term.ensures sig t ok is of) (c.loop-element.invariant sig t ok kept of)

pub returns : goal.returns
returns c = λ sig t ok kept of. all_done (LeftBecomes sig c.args.classes.now t) c.args.lefts.now c.loop-element.element-index c.loop-element.made.items c.loop-element-test.false (c.loop-element.invariant sig t ok kept of)
