use Rattle.std.proofs.Common.{◌≡◌, ◌∙◌, ◌-◌, ◌+◌, ◌<◌, ℕ, length, get_or, arith, ap, refl}
use Rattle.std.specs.HashMap.{get}
use Rattle.mw_canon.specs.Tables.{same_key}
use Rattle.mw_canon.proofs.Table.{put_in_front}
use Rattle.mw_canon.proofs.values.Values.of.Goals as goal

pub loop-i-preserved : goal.loop-i-preserved
loop-i-preserved c =
    let i : ℕ = length c.as_slice-pairs.result.now - (c.loop-i.i + 1) in
    let l : c.loop-i.i < length c.as_slice-pairs.result.now = c.loop-i-test.true in
    let e : length c.as_slice-pairs.result.now - c.loop-i.i ≡ i + 1 = omega (arith, l) in
    let j : length c.as_slice-pairs.result.now - 1 - c.loop-i.i ≡ i = omega (arith, l) in
    let at : c.index-pairs-n.result ≡ get_or c.as_slice-pairs.result.now i c.index-pairs-n.result = rw j at c.index-pairs-n.is in
    let name : record { name = c.as_slice.result.now; sort = c.x.inside.sort } ≡ record { name = c.x.inside.name; sort = c.x.inside.sort } = ap (λ n. record { name = n; sort = c.x.inside.sort }) c.as_slice.ensures in
    let n : record { name = c.as_slice.result.now; sort = c.x.inside.sort } ≡ c.index-pairs-n.result.variable = ◌∙◌ {b = record { name = c.x.inside.name; sort = c.x.inside.sort }} name c.x.view_is in
    put_in_front c.as_slice-pairs.result.now i c.index-pairs-n.result (c.as_slice.result, c.x.inside.sort) _ (omega (arith, l)) at n refl (get same_key c.loop-i.table) (get same_key c.insert.new.self) c.in_ok-insert.ensures.updates.0 (rw e at c.loop-i.invariant)
