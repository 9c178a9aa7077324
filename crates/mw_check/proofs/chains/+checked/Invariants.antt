use Rattle.std.proofs.Common.{◌≡◌, ◌+◌, ◌*◌, List, length, map}
use Rattle.std.specs.Prelude.{◌++◌}
use Rattle.mw_canon.specs.Canonical.{IsAdmittedTerm, meant}
use Rattle.mw_term.specs.Statements.{fragment_of}
use Rattle.mw_items.specs.Items.{Items, Groups}
use Rattle.mw_items.specs.declared.Entry.{Entry}
use Rattle.mw_items.specs.Entries.{entries_of, entries_of_groups}
use Rattle.mw_check.specs.Chains.{EndsItems, OpensNoGroup, AreLeft}
use Rattle.mw_check.specs.Groups.{LeadsOn, GoesOn, AreReady}
use Rattle.mw_check.proofs.chains.+checked.Given as goal

abbrev pub decreases-fragments : goal.decreases-fragments
decreases-fragments l = 8 * l.rank + 7

abbrev pub decreases-fragment : goal.decreases-fragment
decreases-fragment l = 8 * l.rank + 6

abbrev pub decreases-side_ends : goal.decreases-side_ends
decreases-side_ends l = 8 * l.rank + 5

abbrev pub decreases-group : goal.decreases-group
decreases-group l = 8 * l.rank + 4

abbrev pub decreases-chain : goal.decreases-chain
decreases-chain l = 8 * l.rank + 3

abbrev pub decreases-item : goal.decreases-item
decreases-item l = 8 * l.rank + 2

abbrev pub decreases-replaced : goal.decreases-replaced
decreases-replaced l = 8 * l.rank + 1

abbrev pub decreases-condition : goal.decreases-condition
decreases-condition l = 8 * l.rank

abbrev pub invariant-chain-items : goal.invariant-chain-items
invariant-chain-items l = record {
  end : IsAdmittedTerm l.tester.context.now.signature l.end;
  left : AreLeft l.tester.context.now.signature l.entries l.left;
  way : (items : Items) (rest : List Entry) → l.entries ≡ entries_of items ++ rest → EndsItems rest
      → (is : Items) × (l.left ≡ entries_of is ++ rest) × LeadsOn l.tester.context.now l.tester.most l.rank l.fn.term items l.end is l.count;
}

abbrev pub decreases-chain-items : goal.decreases-chain-items
decreases-chain-items l = length l.left

abbrev pub invariant-fragments-fragments : goal.invariant-fragments-fragments
invariant-fragments-fragments l = record {
  ready : AreReady l.tester.context.now.signature (meant l.tester.context.now.signature l.values) (map fragment_of l.rest);
  left : AreLeft l.tester.context.now.signature l.entries l.left;
  way : (gs : Groups) (rest : List Entry) → l.entries ≡ entries_of_groups gs ++ rest → OpensNoGroup rest
      → (hs : Groups) × (l.left ≡ entries_of_groups hs ++ rest)
      × GoesOn l.tester.context.now l.tester.most l.rank (meant l.tester.context.now.signature l.values) (map fragment_of l.fragments) gs (map fragment_of l.rest) hs l.count;
}

abbrev pub decreases-fragments-fragments : goal.decreases-fragments-fragments
decreases-fragments-fragments l = length l.rest
