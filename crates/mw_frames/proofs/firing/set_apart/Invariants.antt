use Rattle.std.proofs.Common.{◌≡◌, ◌≤◌, ◌<◌, ◌+◌, ◌^◌, drop, length}
use Rattle.std.specs.Vec.Iter.{into_iter_items, into_iter_len}
use Rattle.mw_logic.specs.Term.{join}
use Rattle.mw_logic.specs.Terms.{terms_of}
use Rattle.mw_arguments.specs.Places.{chosen, others}
use Rattle.mw_frames.proofs.firing.set_apart.Given as goal

abbrev pub invariant-loop-i : goal.invariant-loop-i
invariant-loop-i l = record {
  size : into_iter_len l.i-iterator.iter ≡ length (into_iter_items l.i-iterator.iter);
  few : l.i-iterator.count + into_iter_len l.i-iterator.iter < 2 ^ 63;
  within : l.next ≤ length l.numbers;
  taken : join (terms_of l.taken.items) (chosen (l.first + l.i-iterator.count) (drop l.next l.numbers) (terms_of (into_iter_items l.i-iterator.iter)))
      ≡ chosen l.first l.numbers (terms_of l.fn.terms.items);
  left : join (terms_of l.found.items) (others (l.first + l.i-iterator.count) (drop l.next l.numbers) (terms_of (into_iter_items l.i-iterator.iter)))
      ≡ join (terms_of l.fn.found.items) (others l.first l.numbers (terms_of l.fn.terms.items));
}
