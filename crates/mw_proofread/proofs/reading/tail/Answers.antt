use Rattle.std.proofs.Common.{suc, arith}
use Rattle.mw_proofread.proofs.Tails.{tail_end, tail_more, items_more, item_shorter}
use Rattle.mw_proofread.proofs.reading.tail.Goals as goal

pub returns-in-Ok-clause-ok : goal.returns-in-Ok-clause-ok
returns-in-Ok-clause-ok c =
    let (h, e) = c.in-Ok.ensures.ok in
    c.loop-behind.invariant.sound c.in-Ok.to c.loop-behind.entries.items (tail_end c.args.reader.now.ctx.now _ _ c.in-Ok.to c.loop-behind.entries.items c.in-Some.ensures h e)

pub loop-behind-preserved : goal.loop-behind-preserved
loop-behind-preserved c =
    let M = c.args.reader.now.ctx.now in
    let (es, h, p) = c.in-Ok-item.ensures.ok in
    let (n, s, i) = c.loop-behind.invariant.before in
    let a = item_shorter M _ _ es h in
    let b = c.loop-behind.invariant.small in
    record {
      sound = λ to new t. c.loop-behind.invariant.sound to new (tail_more M _ _ es to c.loop-behind.entries.items c.item.new.entries.items new h p t);
      before = (suc n, omega (arith, s), items_more M n _ _ _ es i h);
      followed = h.followed;
      small = omega (arith, a, b);
    }
