use Rattle.std.proofs.Common.{◌≡◌, ◌∙◌, [], Some, ap, sym}
use Rattle.mw_module.specs.Units.{seen_all}
use Rattle.mw_declare.specs.Hierarchy.{hierarchy_of}
use Rattle.mw_declare.specs.Faults.{operator_fault, told_at}
use Rattle.mw_declare.specs.Operators.{operators_from, with_built}
use Rattle.mw_declare.specs.Declarations.{declarations_with, DeclarationFault}
use Rattle.mw_declare.proofs.Accepting.{least_held, numbered_held, fault_held, declared_held, accepted_declared, well_sorted_declared, apart_declared, sorts_declared, naturals_declared, quoted_declared, built_declared}
use Rattle.mw_module.proofs.Causes.{passed_on}
use Rattle.mw_declare.proofs.declarations.declare.Goals as goal

pub returns-in_err-hierarchy-clause-fault : goal.returns-in_err-hierarchy-clause-fault
returns-in_err-hierarchy-clause-fault c =
    let fault = DeclarationFault c.args.reached c.args.line (seen_all c.args.statements.now) in
    passed_on fault fault (λ f h. h) c.from_residual.result c.in_err-hierarchy.field-0.0 c.from_residual.ensures.1 (c.in_err-hierarchy.ensures.fault c.args.reached)

pub returns-in_err-identities-clause-fault : goal.returns-in_err-identities-clause-fault
returns-in_err-identities-clause-fault c =
    let r = c.args.reached in
    let ss = seen_all c.args.statements.now in
    let h = c.in_ok-hierarchy.ensures in
    let sorts = c.deref.ensures ∙ h.same in
    let b = c.in_ok-built.built in
    let os = c.in_ok-operators.operators in
    let same = c.deref-2.ensures ∙ sym c.deref.ensures in
    let operators = c.in_ok-operators.ensures ∙ ap (λ h. with_built b.truth h (operators_from h [] ss)) same in
    let least = least_held r ss h.known h.acyclic c.deref.result.now sorts b c.in_ok-built.ensures os operators in
    let numbered = numbered_held r ss h.known h.acyclic c.deref.result.now sorts b c.in_ok-built.ensures os operators in
    passed_on (λ f. told_at c.args.line (operator_fault b (hierarchy_of ss) os) ≡ Some f) (DeclarationFault r c.args.line ss)
    (fault_held r ss h.known h.acyclic c.deref.result.now sorts b c.in_ok-built.ensures os operators c.args.line)
    c.from_residual-in_err-identities.result c.in_err-identities.field-0.0 c.from_residual-in_err-identities.ensures.1 (c.in_err-identities.ensures.fault (hierarchy_of ss) numbered least)

pub returns-clause-declared : goal.returns-clause-declared
returns-clause-declared c =
    let r = c.args.reached in
    let ss = seen_all c.args.statements.now in
    let h = c.in_ok-hierarchy.ensures in
    let typing = c.args.typing.now in
    let sorts = c.deref.ensures ∙ h.same in
    let b = c.in_ok-built.built in
    let os = c.in_ok-operators.operators in
    let same = c.deref-2.ensures ∙ sym c.deref.ensures in
    let operators = c.in_ok-operators.ensures ∙ ap (λ h. with_built b.truth h (operators_from h [] ss)) same in
    let least = least_held r ss h.known h.acyclic c.deref.result.now sorts b c.in_ok-built.ensures os operators in
    let numbered = numbered_held r ss h.known h.acyclic c.deref.result.now sorts b c.in_ok-built.ensures os operators in
    declared_held r ss h.known h.acyclic c.deref.result.now sorts b c.in_ok-built.ensures os operators (c.in_ok-identities.ensures.fine (hierarchy_of ss) numbered least) typing
    c.in_ok-all_declared.field-0.value
    (c.in_ok-all_declared.ensures ∙ ap (λ h. declarations_with b h os typing) (sym c.deref.ensures))

pub returns-clause-accepted : goal.returns-clause-accepted
returns-clause-accepted c = accepted_declared c.args.reached c.args.typing.now (seen_all c.args.statements.now) c.in_ok-all_declared.field-0.value (returns-clause-declared c)

pub returns-clause-well_sorted : goal.returns-clause-well_sorted
returns-clause-well_sorted c = well_sorted_declared c.args.reached c.args.typing.now (seen_all c.args.statements.now) c.in_ok-all_declared.field-0.value (returns-clause-declared c)

pub returns-clause-numbers : goal.returns-clause-numbers
returns-clause-numbers c = sorts_declared c.args.reached c.args.typing.now (seen_all c.args.statements.now) c.in_ok-all_declared.field-0.value (returns-clause-declared c)

pub returns-clause-apart : goal.returns-clause-apart
returns-clause-apart c = apart_declared c.args.reached c.args.typing.now (seen_all c.args.statements.now) c.in_ok-all_declared.field-0.value (returns-clause-declared c)

pub returns-clause-naturals : goal.returns-clause-naturals
returns-clause-naturals c = naturals_declared c.args.reached c.args.typing.now (seen_all c.args.statements.now) c.in_ok-all_declared.field-0.value (returns-clause-declared c)

pub returns-clause-quoted : goal.returns-clause-quoted
returns-clause-quoted c = quoted_declared c.args.reached c.args.typing.now (seen_all c.args.statements.now) c.in_ok-all_declared.field-0.value (returns-clause-declared c)

pub returns-clause-built : goal.returns-clause-built
returns-clause-built c = built_declared c.args.reached c.args.typing.now (seen_all c.args.statements.now) c.in_ok-all_declared.field-0.value (returns-clause-declared c)
