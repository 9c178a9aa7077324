use Rattle.std.proofs.Common.{◌≡◌, ◌∙◌, map, ap, sym, subst}
use Rattle.std.proofs.lemmas.Bool.{both_ways}
use Rattle.mw_logic.specs.Term.{Variable, variable}
use Rattle.mw_logic.specs.NormalForm.{normal_form}
use Rattle.mw_term.specs.Raws.{raw_term}
use Rattle.mw_term.specs.Statements.{fragment_of}
use Rattle.mw_module.specs.declared.faults.FaultKind.TheVariants.{UnboundVariable}
use Rattle.mw_build.specs.Statements.{ApplicationFault, lone, open_term}
use Rattle.mw_build.proofs.Sides.{is_lone, not_lone}
use Rattle.mw_build.proofs.statements.application_fault.Goals as goal

pub returns-then-is_variable : goal.returns-then-is_variable
returns-then-is_variable c = λ sig ok raw is.
    let (x, e) = c.is_variable.ensures.0 c.if-is_variable.true in
    lone (is_lone sig ok (raw_term c.args.left.now) raw x (sym is ∙ e))

pub returns-in-Some : goal.returns-in-Some
returns-in-Some c = λ sig ok raw is.
    let left = raw_term c.args.left.now in
    let right = raw_term c.args.right.now in
    let C = map fragment_of c.args.fragments.now in
    let none : (x : Variable) → normal_form sig left ≡ variable x → ⊥ = λ x e. both_ways _ c.if-is_variable.false (c.is_variable.ensures.1 (x, is ∙ e)) in
    let name : c.in-Some.variable.name ≡ c.variable.inside.name = ap (λ (x : Variable). x.name) (sym c.variable.view_is) in
    subst (λ n. ApplicationFault sig left right C (UnboundVariable n)) name (open_term c.in-Some.variable (not_lone sig ok left raw none) (sym c.in_ok-variable.ensures ∙ c.in-Some.is))

pub returns-in-None : goal.returns-in-None
returns-in-None c = λ sig ok raw is.
    let none : (x : Variable) → normal_form sig (raw_term c.args.left.now) ≡ variable x → ⊥ = λ x e. both_ways _ c.if-is_variable.false (c.is_variable.ensures.1 (x, is ∙ e)) in
    record { not_lone = not_lone sig ok (raw_term c.args.left.now) raw none; bound = sym c.in_ok-variable.ensures ∙ c.in-None.is }
