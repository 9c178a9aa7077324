use Rattle.std.proofs.Common.{◌≡◌, subst, ℕ}
use Rattle.mw_logic.specs.Signature.{Signature}
use Rattle.mw_logic.specs.Accepted.{IsAccepted, IsWellSorted}
use Rattle.mw_logic.specs.Preregular.{HasItsSorts}
use Rattle.mw_poset.specs.SortOrder.{SortOrder, order_of}
use Rattle.mw_poset.specs.Order.{IsOnCycle}
use Rattle.mw_sorts.specs.Groupings.{IsOrderSorted}
use Rattle.mw_sorts.proofs.Tabling.{diagrams-results}
use Rattle.mw_sorts.proofs.Modulo.{preregular-modulo}
use Rattle.mw_sorts.proofs.tables.Tables.build.Goals as goal

ordered : (sig : Signature) (order : SortOrder) → IsAccepted sig → IsWellSorted sig → HasItsSorts sig → order ≡ order_of sig → ((S : ℕ) → IsOnCycle order.pairs S → ⊥) → IsOrderSorted sig
ordered sig order accepted fitting sorts e a = record { accepted = accepted; fitting = fitting; sorts = sorts; acyclic = subst (λ (o : SortOrder). (S : ℕ) → IsOnCycle o.pairs S → ⊥) e a }

pub test_groupings-requires-clause-order_sorted : goal.test_groupings-requires-clause-order_sorted
test_groupings-requires-clause-order_sorted c = ordered c.args.signature.now c.args.order.now c.requires.accepted c.requires.well_sorted c.requires.sorts c.requires.order c.sorts-sorts.ensures.acyclic

pub test_identities-requires-clause-order_sorted : goal.test_identities-requires-clause-order_sorted
test_identities-requires-clause-order_sorted c = ordered c.args.signature.now c.args.order.now c.requires.accepted c.requires.well_sorted c.requires.sorts c.requires.order c.sorts-sorts.ensures.acyclic

pub returns-clause-preregular : goal.returns-clause-preregular
returns-clause-preregular c =
    let sig = c.args.signature.now in
    let ok = ordered sig c.args.order.now c.requires.accepted c.requires.well_sorted c.requires.sorts c.requires.order c.sorts-sorts.ensures.acyclic in
    let results = diagrams-results sig c.in_ok-sorting.sorting.places c.in_ok-diagrams.diagrams.items c.in_ok-diagrams.ensures.diagrams in
    preregular-modulo sig ok results c.in_ok-test_groupings.ensures.alike c.in_ok-test_identities.ensures.low c.requires.numbers
