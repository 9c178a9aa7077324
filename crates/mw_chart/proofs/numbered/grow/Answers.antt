use Rattle.std.proofs.Common.{◌∙◌, ◌+◌, ◌∷◌, [], ap, length-append}
use Rattle.mw_chart.proofs.Listings.{inner_grown}
use Rattle.mw_chart.proofs.numbered.grow.Goals as goal

pub loop-preserved : goal.loop-preserved
loop-preserved g c = rw c.in_ok-push.ensures.items (record {
  long = rw (length-append c.loop.lists.items (c.new.result ∷ [])) (ap (λ n. n + 1) c.loop.invariant.long);
  same = λ i. inner_grown c.loop.lists.items c.new.result i c.new.ensures.items ∙ c.loop.invariant.same i;
})
