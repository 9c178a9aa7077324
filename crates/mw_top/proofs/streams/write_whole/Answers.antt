use Rattle.std.proofs.Common.{◌∙◌, arith, ℕ, length-drop, length-take}
use Rattle.mw_top.proofs.Moving.{appends_take}
use Rattle.mw_top.proofs.streams.write_whole.Goals as goal

pub loop-done-preserved : goal.loop-done-preserved
loop-done-preserved g c = record {
  held = appends_take _ _ _ c.loop-done.done c.in_ok-done.field-0 c.args.text.now c.loop-done.invariant.held c.in_ok-done.ensures.bytes;
  same = c.in_ok-done.ensures.cause.kept ∙ c.loop-done.invariant.same;
  within = omega (arith, length-take {A = ℕ}, length-drop {A = ℕ}, c.in_ok-done.ensures.bound);
}
