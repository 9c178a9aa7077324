use Rattle.std.proofs.Common.{[], ◌∷◌, length, Some, None, refl, subst, arith}
use Rattle.mw_logic.specs.Signature.{IsSortNamed}
use Rattle.mw_carry.specs.Tables.{IsFound}
use Rattle.mw_carry.proofs.Numbers.{within_at}
use Rattle.mw_text.specs.Names.{name_of_tokens}
use Rattle.mw_omod.specs.declared.classes.Role.TheVariants as role
use Rattle.mw_build.specs.Classes.{a_constant, IsDeclaredAs}
use Rattle.mw_build.proofs.ObjectOperators.{found_within, looked_for, one_operator}
use Rattle.mw_build.proofs.Configurations.{no_sort}
use Rattle.mw_build.proofs.Roles.{roles_kept, roles_told}
use Rattle.mw_build.proofs.classes.note_class.Goals as goal

pub returns-in_default : goal.returns-in_default
returns-in_default c = λ ds are.
    let sig = c.args.target.now in
    let name = c.args.name.now in
    let none = subst (λ n. IsFound (length sig.sorts) (λ S. IsSortNamed sig S n) None) c.as_slice.ensures c.in_default.ensures in
    roles_kept sig ds (a_constant name) c.args.roles.now (λ f is. no_sort sig name none is.sort is.value_named) are

pub operator_on-requires-clause-sort : goal.operator_on-requires-clause-sort
operator_on-requires-clause-sort c =
    within_at c.args.target.now.sorts c.in-Some.sort c.args.name.now (subst (IsSortNamed c.args.target.now c.in-Some.sort) c.as_slice.ensures c.in-Some.ensures)

pub note-requires-clause-high : goal.note-requires-clause-high
note-requires-clause-high c =
    let high = found_within c.args.target.now c.in_ok-spelling.spelling.items [] c.in-Some.sort c.in_ok-operator.field-0 c.in-Some-2.operator c.in-Some-2.is
    c.in_ok-operator.ensures in
    omega (arith, high, c.requires.count)

pub returns-in-Some-2 : goal.returns-in-Some-2
returns-in-Some-2 c = λ ds are.
    let sig = c.args.target.now in
    let name = c.args.name.now in
    let g = c.in-Some-2.operator in
    let spelling = name_of_tokens (name ∷ []) in
    let named : IsSortNamed sig c.in-Some.sort name = subst (IsSortNamed sig c.in-Some.sort) c.as_slice.ensures c.in-Some.ensures in
    let on : IsDeclaredAs sig g (a_constant name) = looked_for sig c.requires.accepted c.in_ok-spelling.spelling.items spelling c.in_ok-spelling.ensures [] c.in-Some.sort
    [] name tt named c.in_ok-operator.field-0 (Some g) c.in-Some-2.is c.in_ok-operator.ensures in
    roles_told sig ds (a_constant name) c.args.roles.now c.note.new.roles g (role.Class c.in-Some.sort) (c.in-Some.sort, refl, named) on
    (λ f is. one_operator sig c.requires.accepted c.requires.apart spelling [] name f g is on) c.note.auto.roles c.note.ensures.noted c.note.ensures.others are

pub returns-in_default-2 : goal.returns-in_default-2
returns-in_default-2 c = λ ds are.
    let sig = c.args.target.now in
    let name = c.args.name.now in
    let named : IsSortNamed sig c.in-Some.sort name = subst (IsSortNamed sig c.in-Some.sort) c.as_slice.ensures c.in-Some.ensures in
    let none = looked_for sig c.requires.accepted c.in_ok-spelling.spelling.items (name_of_tokens (name ∷ [])) c.in_ok-spelling.ensures [] c.in-Some.sort
    [] name tt named c.in_ok-operator.field-0 None c.in_default-2.is c.in_ok-operator.ensures in
    roles_kept sig ds (a_constant name) c.args.roles.now none are
