use Rattle.std.proofs.Common.{inl, inr}
use Rattle.std.proofs.lemmas.Bool.{both_ways}
use Rattle.mw_logic.proofs.KindLaws.{SameKind-sym, SameKind-trans}
use Rattle.mw_term.specs.Signatures.{sorted_of}
use Rattle.mw_sorts.proofs.Lowered.{identity-kind, stays-low}
use Rattle.mw_sorts.proofs.leaving.stays_low.Goals as goal

pub result_of_two-before-requires-clause-first : goal.result_of_two-before-requires-clause-first
result_of_two-before-requires-clause-first c = let r = c.requires in identity-kind c.args.sorting.now.signature r.order_sorted r.operator.0 c.args.operator.now r.operator.1 (sorted_of c.args.identity) r.identity

pub result_of_two-behind-requires-clause-second : goal.result_of_two-behind-requires-clause-second
result_of_two-behind-requires-clause-second c = let r = c.requires in identity-kind c.args.sorting.now.signature r.order_sorted r.operator.0 c.args.operator.now r.operator.1 (sorted_of c.args.identity) r.identity

pub is_below-requires-clause-kind : goal.is_below-requires-clause-kind
is_below-requires-clause-kind c = SameKind-trans c.requires.sort (SameKind-sym c.result_of_two-before.ensures.kind)

pub is_below-requires-then-is_below-clause-kind : goal.is_below-requires-then-is_below-clause-kind
is_below-requires-then-is_below-clause-kind c = SameKind-trans c.requires.sort (SameKind-sym c.result_of_two-behind.ensures.kind)

pub returns-then-is_below-clause-low : goal.returns-then-is_below-clause-low
returns-then-is_below-clause-low c = λ t.
    let r = c.requires in
    stays-low c.args.sorting.now.signature r.order_sorted r.operator.0 c.args.operator.now r.operator.1 (sorted_of c.args.identity) (sorted_of c.args.sort) _ _ c.result_of_two-before.ensures.result c.result_of_two-behind.ensures.result
    (c.is_below.ensures.0 c.if-is_below.true) (c.is_below-then-is_below.ensures.0 t)

pub returns-then-is_below-clause-raised : goal.returns-then-is_below-clause-raised
returns-then-is_below-clause-raised c = λ f. (sorted_of c.result_of_two-behind.result, inr c.result_of_two-behind.ensures.result, λ b. both_ways _ f (c.is_below-then-is_below.ensures.1 b))

pub returns-else-is_below-clause-raised : goal.returns-else-is_below-clause-raised
returns-else-is_below-clause-raised c = λ f. (sorted_of c.result_of_two-before.result, inl c.result_of_two-before.ensures.result, λ b. both_ways _ f (c.is_below.ensures.1 b))
