use Rattle.std.proofs.Common.{◌∙◌, ◌*◌, ◌^◌, ◌%◌, ◌/◌, ◌<◌, ap, arith, bit_or, slice_index, length}
use Rattle.std.proofs.lemmas.Nat.{one_shl}
use Rattle.mw_chart.proofs.Sets.{set_insert, index_is}
use Rattle.mw_chart.proofs.bits.insert.Goals as goal

pub returns : goal.returns
returns c =
    let long = c.in_ok-reserve.ensures.long in
    let low : c.args.x / 64 < length c.reserve.new.set.items = omega (arith, long) in
    set_insert c.reserve.new.set.items c.args.set.now.items c.args.x _ low c.in_ok-reserve.ensures.same
    (ap (λ w. bit_or w (1 * 2 ^ (c.args.x % 64) % 2 ^ 64)) (c.index_mut.ensures.value ∙ index_is c.reserve.new.set.items (c.args.x / 64) _ low)
    ∙ ap (λ w. bit_or (slice_index c.reserve.new.set.items (c.args.x / 64)) w) (one_shl (c.args.x % 64) 64 (omega arith)))
