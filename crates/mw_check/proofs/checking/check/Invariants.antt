use Rattle.std.proofs.Common.{◌≡◌, ◌≤◌, ◌+◌, length}
use Rattle.mw_canon.specs.Canonical.{IsAdmittedTerm}
use Rattle.mw_items.specs.Items.{Items}
use Rattle.mw_items.specs.Entries.{entries_of}
use Rattle.mw_check.specs.Chains.{HaveAdmittedValues}
use Rattle.mw_check.proofs.Whole.{IsUnderway}
use Rattle.mw_check.proofs.checking.check.Given as goal

abbrev pub invariant-loop-tester : goal.invariant-loop-tester
invariant-loop-tester l = record {
  admitted : IsAdmittedTerm l.context.signature l.term;
  values : HaveAdmittedValues l.context.signature l.entries;
  numbered : l.step + length l.entries ≤ length l.text.entries + 1;
  underway : (items : Items) → l.text.entries ≡ entries_of items → IsUnderway l.context l.text.from items l.entries l.term l.step l.count;
}

abbrev pub decreases-loop-tester : goal.decreases-loop-tester
decreases-loop-tester l = length l.entries
