use Rattle.std.proofs.Common.{ℕ, List, [], ◌∷◌, None}
use Rattle.std.specs.Prelude.{codes}
use Rattle.mw_carry.proofs.Numbers.{within_at}
use Rattle.mw_build.proofs.ObjectOperators.{named_there, looked_for}
use Rattle.mw_build.proofs.classes.object_operators.Goals as goal

abbrev sets : List (List ℕ)
sets = codes "AttributeSet" ∷ codes "AttributeSet" ∷ []

abbrev parts : List (List ℕ)
parts = codes "Oid" ∷ codes "Cid" ∷ codes "AttributeSet" ∷ []

abbrev configurations : List (List ℕ)
configurations = codes "Configuration" ∷ codes "Configuration" ∷ []

pub returns-in_default : goal.returns-in_default
returns-in_default c = λ o are.
    let s = c.args.sorts in
    looked_for c.args.target.now c.requires.accepted c.in_ok-spelling.spelling.items (codes "none") (c.in_ok-spelling.ensures.items_if_clones_equal (λ x y e. e))
    [] s.set [] (codes "AttributeSet") tt c.requires.sorts.set c.in_ok-none.field-0 None c.in_default.is c.in_ok-none.ensures o.none are.none

pub operator_on-requires-2-clause-sorts : goal.operator_on-requires-2-clause-sorts
operator_on-requires-2-clause-sorts c =
    let s = c.args.sorts in named_there c.args.target.now (s.set ∷ s.set ∷ []) sets (c.requires.sorts.set, (c.requires.sorts.set, tt))

pub operator_on-requires-2-clause-sort : goal.operator_on-requires-2-clause-sort
operator_on-requires-2-clause-sort c = within_at c.args.target.now.sorts c.args.sorts.set _ c.requires.sorts.set

pub returns-in_default-2 : goal.returns-in_default-2
returns-in_default-2 c = λ o are.
    let s = c.args.sorts in
    looked_for c.args.target.now c.requires.accepted c.in_ok-spelling-2.spelling.items (codes "_`,_") (c.in_ok-spelling-2.ensures.items_if_clones_equal (λ x y e. e))
    (s.set ∷ s.set ∷ []) s.set sets (codes "AttributeSet") (c.requires.sorts.set, (c.requires.sorts.set, tt)) c.requires.sorts.set c.in_ok-comma.field-0 None c.in_default-2.is c.in_ok-comma.ensures o.comma are.comma

pub operator_on-requires-3-clause-sorts : goal.operator_on-requires-3-clause-sorts
operator_on-requires-3-clause-sorts c =
    let s = c.args.sorts in
    named_there c.args.target.now (s.name ∷ s.class ∷ s.set ∷ []) parts (c.requires.sorts.name, (c.requires.sorts.class, (c.requires.sorts.set, tt)))

pub operator_on-requires-3-clause-sort : goal.operator_on-requires-3-clause-sort
operator_on-requires-3-clause-sort c = within_at c.args.target.now.sorts c.args.sorts.object _ c.requires.sorts.object

pub returns-in_default-3 : goal.returns-in_default-3
returns-in_default-3 c = λ o are.
    let s = c.args.sorts in
    looked_for c.args.target.now c.requires.accepted c.in_ok-spelling-3.spelling.items (codes "<_:_|_>") (c.in_ok-spelling-3.ensures.items_if_clones_equal (λ x y e. e))
    (s.name ∷ s.class ∷ s.set ∷ []) s.object parts (codes "Object")
    (c.requires.sorts.name, (c.requires.sorts.class, (c.requires.sorts.set, tt))) c.requires.sorts.object
    c.in_ok-object.field-0 None c.in_default-3.is c.in_ok-object.ensures o.object are.object

pub operator_on-requires-4-clause-sorts : goal.operator_on-requires-4-clause-sorts
operator_on-requires-4-clause-sorts c =
    let s = c.args.sorts in
    named_there c.args.target.now (s.configuration ∷ s.configuration ∷ []) configurations (c.requires.sorts.configuration, (c.requires.sorts.configuration, tt))

pub operator_on-requires-4-clause-sort : goal.operator_on-requires-4-clause-sort
operator_on-requires-4-clause-sort c = within_at c.args.target.now.sorts c.args.sorts.configuration _ c.requires.sorts.configuration

pub returns-in_default-4 : goal.returns-in_default-4
returns-in_default-4 c = λ o are.
    let s = c.args.sorts in
    looked_for c.args.target.now c.requires.accepted c.in_ok-spelling-4.spelling.items (codes "__") (c.in_ok-spelling-4.ensures.items_if_clones_equal (λ x y e. e))
    (s.configuration ∷ s.configuration ∷ []) s.configuration configurations (codes "Configuration")
    (c.requires.sorts.configuration, (c.requires.sorts.configuration, tt)) c.requires.sorts.configuration
    c.in_ok-union.field-0 None c.in_default-4.is c.in_ok-union.ensures o.union are.union
