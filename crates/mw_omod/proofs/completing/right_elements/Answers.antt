use Rattle.std.proofs.Common.{suc, length, refl}
use Rattle.mw_omod.specs.Completion.{RightBecomes}
use Rattle.mw_omod.proofs.Becoming.{one_more, all_done}
use Rattle.mw_omod.proofs.Listing.{kept_at}
use Rattle.mw_omod.proofs.Moving.{got}
use Rattle.mw_omod.proofs.completing.right_elements.Goals as goal

pub loop-element-preserved : goal.loop-element-preserved
loop-element-preserved c = λ sig t ok kept of.
    let is = kept_at sig ok c.args.classes.now c.args.rights.now kept c.loop-element.element-index c.element-item.result (got c.args.rights.now c.loop-element.element-index c.element-item.result c.loop-element-test.true c.element-item.is) in
    one_more (λ i. RightBecomes sig c.args.classes.now t) c.args.rights.now c.loop-element.element-index c.element-item.result (suc (length c.loop-element.made.items)) c.loop-element.made.items _ c.in_ok-term.term c.loop-element-test.true c.element-item.is c.in_ok-push.ensures.items refl
    (c.in_ok-term.ensures sig t ok is of) (c.loop-element.invariant sig t ok kept of)

pub returns : goal.returns
returns c = λ sig t ok kept of. all_done (λ i. RightBecomes sig c.args.classes.now t) c.args.rights.now c.loop-element.element-index c.loop-element.made.items c.loop-element-test.false (c.loop-element.invariant sig t ok kept of)
