use Rattle.std.proofs.Common.{◌≡◌, ◌≤◌, length}
use Rattle.mw_text.specs.Names.{items_of}
use Rattle.mw_text.proofs.items.first_item.Given as goal

abbrev pub invariant-loop-rest : goal.invariant-loop-rest
invariant-loop-rest l = record {
  items : items_of l.rest ≡ items_of l.text;
  size : length l.rest ≤ length l.text;
}

abbrev pub decreases-loop-rest : goal.decreases-loop-rest
decreases-loop-rest l = length l.rest
