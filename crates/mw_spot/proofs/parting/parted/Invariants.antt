use Rattle.std.proofs.Common.{◌≡◌, ◌<◌, ◌+◌, ◌^◌, drop, length}
use Rattle.std.specs.Vec.Iter.{into_iter_items, into_iter_len}
use Rattle.mw_logic.specs.Term.{join}
use Rattle.mw_logic.specs.Terms.{terms_of}
use Rattle.mw_arguments.specs.Places.{chosen, others}
use Rattle.mw_spot.proofs.parting.parted.Given as goal

abbrev pub invariant-loop-i : goal.invariant-loop-i
invariant-loop-i l = record {
  size : into_iter_len l.i-iterator.iter ≡ length (into_iter_items l.i-iterator.iter);
  few : l.i-iterator.count + into_iter_len l.i-iterator.iter < 2 ^ 63;
  to_come : into_iter_items l.i-iterator.iter ≡ drop l.i-iterator.count l.fn.args.items;
  taken : join (terms_of l.taken.items) (chosen (l.i-iterator.count + 1) l.rest (terms_of (drop l.i-iterator.count l.fn.args.items))) ≡ chosen 1 l.numbers (terms_of l.fn.args.items);
  left : join (terms_of l.others.items) (others (l.i-iterator.count + 1) l.rest (terms_of (drop l.i-iterator.count l.fn.args.items))) ≡ others 1 l.numbers (terms_of l.fn.args.items);
}
