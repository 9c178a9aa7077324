use Rattle.std.proofs.Common.{◌∙◌, ap, arith}
use Rattle.std.specs.Prelude.{slice_get}
use Rattle.std.proofs.lemmas.Grind.{common_steps}
use Rattle.std.proofs.lemmas.Option.{slice_get-get_or}
use Rattle.mw_compile.proofs.Sure.{sure_push}
use Rattle.mw_compile.proofs.singles.Singles.lists.Goals as goal

pub loop-sort-preserved : goal.loop-sort-preserved
loop-sort-preserved c =
    let at = ap (slice_get c.args.sorts.now) c.loop-sort.invariant.size ∙ slice_get-get_or c.args.sorts.now c.loop-sort.sort-index 0 c.loop-sort-test.true in
    record {
      sure = rw c.in_ok-push.ensures.items (sure_push c.args.self.now c.loop-sort.lists.items c.in_ok-list.list c.args.sorts.now _ at c.in_ok-list.ensures c.loop-sort.invariant.sure);
      size = grind (arith, common_steps);
    }
