use Rattle.std.proofs.Common.{◌≡◌, ◌∙◌, ℕ, List, Result, Err, Some, None, length, ap, sym, subst}
use Rattle.mw_poset.specs.declared.PosetError.{PosetError}
use Rattle.mw_poset.specs.SortOrder.{SortOrder}
use Rattle.mw_poset.specs.Order.{ArePairsOf, IsOnCycle, IsLeastOnCycle}
use Rattle.mw_logic.specs.Signature.{at_number}
use Rattle.mw_module.specs.Units.{seen_all}
use Rattle.mw_declare.specs.Meaning.{Name, sorts_of}
use Rattle.mw_declare.specs.Hierarchy.{pairs_from}
use Rattle.mw_declare.specs.Faults.{unknown_from}
use Rattle.mw_declare.specs.Declarations.{DeclarationFault, of_sort, of_cycle}
use Rattle.mw_module.proofs.Causes.{passed_on}
use Rattle.mw_declare.proofs.Pairs.{pairs_there, cycle_there}
use Rattle.mw_declare.proofs.hierarchy.order_sorts.Goals as goal

pub returns-in_err-all_known-clause-fault : goal.returns-in_err-all_known-clause-fault
returns-in_err-all_known-clause-fault c r =
    let ss = seen_all c.args.statements.now in
    passed_on (λ f. unknown_from c.in_ok-names.names ss ≡ Some f) (DeclarationFault r c.args.line ss)
    (λ f h. of_sort (ap (λ names. unknown_from names ss) (sym c.in_ok-names.ensures) ∙ h))
    c.from_residual-in_err-all_known.result c.in_err-all_known.field-0.0 c.from_residual-in_err-all_known.ensures.1 c.in_err-all_known.ensures.fault

pub build-requires : goal.build-requires
build-requires c =
    let pairs : c.as_slice.result.now ≡ pairs_from c.in_ok-names.names (seen_all c.args.statements.now) = c.as_slice.ensures.value ∙ c.in_ok-pairs.ensures in
    let there = pairs_there c.in_ok-names.names (seen_all c.args.statements.now) c.in_ok-all_known.ensures.known in
    subst (λ (n : ℕ). ArePairsOf n c.as_slice.result.now) (sym c.in_ok-count.ensures) (subst (ArePairsOf (length c.in_ok-names.names)) (sym pairs) there)

pub returns-in-Ok-clause-acyclic : goal.returns-in-Ok-clause-acyclic
returns-in-Ok-clause-acyclic c =
    let ss = seen_all c.args.statements.now in
    let pairs : c.as_slice.result.now ≡ pairs_from (sorts_of ss) ss = c.as_slice.ensures.value ∙ c.in_ok-pairs.ensures ∙ ap (λ (names : List Name). pairs_from names ss) c.in_ok-names.ensures in
    λ S k. c.in-Ok.ensures.acyclic S (subst (λ ps. IsOnCycle ps S) (sym pairs) k)

pub cycle_fault-requires : goal.cycle_fault-requires
cycle_fault-requires c =
    let ss = seen_all c.args.statements.now in
    let pairs : c.as_slice.result.now ≡ pairs_from c.in_ok-names.names ss = c.as_slice.ensures.value ∙ c.in_ok-pairs.ensures in
    let there = pairs_there c.in_ok-names.names ss c.in_ok-all_known.ensures.known in
    let cycle : IsLeastOnCycle c.as_slice.result.now c.in-Err-Cycle.sort = c.in-Err-Cycle.ensures.cycle c.in-Err-Cycle.sort (ap (λ (e : PosetError). let r : Result SortOrder PosetError = Err e in r) c.in-Err-Cycle.field-0-is) in
    cycle_there (length c.in_ok-names.names) (pairs_from c.in_ok-names.names ss) c.in-Err-Cycle.sort there (subst (λ ps. IsOnCycle ps c.in-Err-Cycle.sort) pairs cycle.on)

pub returns-in-Err-Cycle-clause-fault : goal.returns-in-Err-Cycle-clause-fault
returns-in-Err-Cycle-clause-fault c r =
    let ss = seen_all c.args.statements.now in
    let pairs : c.as_slice.result.now ≡ pairs_from (sorts_of ss) ss = c.as_slice.ensures.value ∙ c.in_ok-pairs.ensures ∙ ap (λ (names : List Name). pairs_from names ss) c.in_ok-names.ensures in
    let cycle : IsLeastOnCycle c.as_slice.result.now c.in-Err-Cycle.sort = c.in-Err-Cycle.ensures.cycle c.in-Err-Cycle.sort (ap (λ (e : PosetError). let r : Result SortOrder PosetError = Err e in r) c.in-Err-Cycle.field-0-is) in
    let fault = c.in_ok-cycle_fault-in-Err-Cycle.ensures in
    let known : unknown_from (sorts_of ss) ss ≡ None = ap (λ (names : List Name). unknown_from names ss) (sym c.in_ok-names.ensures) ∙ c.in_ok-all_known.ensures.known in
    of_cycle known (record {
      sort = c.in-Err-Cycle.sort;
      least = subst (λ ps. IsLeastOnCycle ps c.in-Err-Cycle.sort) pairs cycle;
      name = fault.0;
      named = ap (λ (names : List Name). at_number names c.in-Err-Cycle.sort) (sym c.in_ok-names.ensures) ∙ fault.1;
      fault = fault.2;
    })
