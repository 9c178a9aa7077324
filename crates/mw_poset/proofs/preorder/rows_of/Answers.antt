use Rattle.mw_poset.proofs.Rows.{row_group-within, rows_step}
use Rattle.std.proofs.Common.{arith}
use Rattle.mw_poset.proofs.preorder.rows_of.Goals as goal

pub of-requires : goal.of-requires
of-requires c =
    row_group-within c.args.links.now c.loop-k.k c.loop-k.marks.len c.args.kinds.now c.args.groups.now.members.items c.args.groups.now.places.items c.loop-k.marks.items c.as_mut_slice.result.now c.mark_reached.new.marks c.as_slice.result.now
    c.as_slice-members.result.now c.index.result.now c.requires.kinds c.requires.groups (omega (arith, c.loop-k-test.true, c.sorts-sorts.ensures.sorts)) c.loop-k.invariant.1 c.as_mut_slice.ensures.value c.loop-k.marks.ok.0 c.mark_reached.auto.marks
    c.as_slice-members.ensures c.index.ensures c.as_slice.ensures.value

pub loop-k-preserved : goal.loop-k-preserved
loop-k-preserved c =
    rows_step c.args.links.now c.loop-k.k c.loop-k.marks.len c.args.kinds.now c.args.groups.now.members.items c.args.groups.now.places.items c.loop-k.rows.items c.push.new.self.items c.loop-k.marks.items c.as_mut_slice.result.now
    c.mark_reached.new.marks c.as_slice.result.now c.as_slice-members.result.now c.index.result.now c.in_ok-of.field-0 c.requires.kinds c.requires.groups (omega (arith, c.loop-k-test.true, c.sorts-sorts.ensures.sorts)) c.loop-k.invariant
    c.as_mut_slice.ensures.value c.loop-k.marks.ok.0 c.mark_reached.auto.marks c.in_ok-mark_reached.ensures c.as_slice-members.ensures c.index.ensures c.as_slice.ensures.value c.in_ok-of.ensures c.in_ok-push.ensures.items
