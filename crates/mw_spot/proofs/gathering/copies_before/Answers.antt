use Rattle.std.proofs.Common.{◌++◌, ◌∙◌, take, ap}
use Rattle.mw_spot.proofs.Gathered.{before_more}
use Rattle.mw_spot.proofs.gathering.copies_before.Goals as goal

pub loop-level-preserved : goal.loop-level-preserved
loop-level-preserved c =
    let l = c.level.inside in
    let old = c.loop-level.args.items in
    before_more c.args.levels.now c.loop-level.level-index c.level-item.result old c.push_copies.new.args.items (take l.at l.others.items) c.loop-level-test.true c.level-item.is
    (c.in_ok-push_copies.ensures ∙ ap (λ xs. old ++ take l.at xs) c.deref.ensures.value) (ap (λ o. o.before) c.level.view_is) c.loop-level.invariant
