use Rattle.std.proofs.Common.{◌∙◌, inr, refl}
use Rattle.mw_chart.proofs.Adding.{if_ok_more}
use Rattle.mw_chart.proofs.Rows.{strip_kept, strip_push, strip_pushed, strip_item, strip_state}
use Rattle.mw_chart.proofs.Lists.{get_below, get_set_same}
use Rattle.mw_chart.proofs.row.list_end.Goals as goal

pub returns-in-Some-clause-kept : goal.returns-in-Some-clause-kept
returns-in-Some-clause-kept c =
    let f = c.in-Some.ensures in
    let old = strip_item c.args.strips.now.items c.in-Some.p f.0 c.index_mut.result.now f.1 c.index_mut.ensures.value in
    if_ok_more c.add_end.result _ _ (λ x kept. strip_kept c.args.strips.now.items c.in-Some.p c.index_mut.result.now c.add_end.new.strip old c.add_end.ensures.state kept) c.add_end.ensures.kept

pub returns-in-Some-clause-listed : goal.returns-in-Some-clause-listed
returns-in-Some-clause-listed c =
    let f = c.in-Some.ensures in
    let old = strip_item c.args.strips.now.items c.in-Some.p f.0 c.index_mut.result.now f.1 c.index_mut.ensures.value in
    let state = strip_state c.args.strips.now.items c.in-Some.p f.0 c.index_mut.result.now f.1 old in
    if_ok_more c.add_end.result _ _
    (λ x added. (c.in-Some.p, c.add_end.new.strip, get_set_same c.args.strips.now.items c.in-Some.p c.add_end.new.strip (get_below c.args.strips.now.items c.in-Some.p f.0 f.1), c.add_end.ensures.state ∙ state ∙ f.2, added))
    c.add_end.ensures.added

pub returns-in_ok-push-in-None-clause-kept : goal.returns-in_ok-push-in-None-clause-kept
returns-in_ok-push-in-None-clause-kept c = rw c.in_ok-push-in-None.ensures.items (strip_push c.args.strips.now.items _)

pub returns-in_ok-push-in-None-clause-listed : goal.returns-in_ok-push-in-None-clause-listed
returns-in_ok-push-in-None-clause-listed c = rw c.in_ok-push-in-None.ensures.items (strip_pushed c.args.strips.now.items _ c.args.state c.args.end refl ((c.in_ok-insert-in-None.ensures c.args.end).1 (inr refl)))
