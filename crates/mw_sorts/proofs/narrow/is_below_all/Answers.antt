use Rattle.std.proofs.Common.{subst, get_or, [], ◌∷◌, refl, inl}
use Rattle.std.specs.Prelude.{false}
use Rattle.mw_logic.specs.Signature.{Sorted, SameKind}
use Rattle.mw_logic.specs.Accepted.{number_of_sort}
use Rattle.mw_logic.proofs.KindLaws.{SameKind-sym}
use Rattle.mw_term.specs.Signatures.{sorted_of}
use Rattle.std.proofs.lemmas.Bool.{iff_false, both_ways}
use Rattle.mw_sorts.specs.States.{ways}
use Rattle.mw_sorts.proofs.Choosing.{alive-there, among-kind, results-kind, these-more, these-fail}
use Rattle.mw_sorts.proofs.narrow.is_below_all.Goals as goal

pub result_of-requires : goal.result_of-requires
result_of-requires c = alive-there (ways c.args.operator.now) c.args.alive.now c.loop-number.number-index c.requires.alive c.loop-number-test.true

pub is_below-requires-clause-kind : goal.is_below-requires-clause-kind
is_below-requires-clause-kind c =
    let r = c.result_of.ensures in
    SameKind-sym (subst (λ (Q : Sorted). SameKind c.args.sorting.now.signature (number_of_sort Q) (number_of_sort (sorted_of c.args.least))) r.2
    (results-kind c.args.sorting.now.signature c.args.operator.now _ r.0 (sorted_of c.args.least) c.requires.operator r.1 c.requires.kind))

pub is_below-requires-clause-upper_is_there : goal.is_below-requires-clause-upper_is_there
is_below-requires-clause-upper_is_there c =
    let r = c.result_of.ensures in
    (among-kind c.args.sorting.now.signature c.args.operator.now (get_or c.args.alive.now c.loop-number.number-index 0 ∷ []) (sorted_of c.result_of.result) c.requires.operator (get_or c.args.alive.now c.loop-number.number-index 0, r.0, inl refl, r.1, r.2)).1

pub returns-then-not-is_below : goal.returns-then-not-is_below
returns-then-not-is_below c =
    let r = c.result_of.ensures in (
      λ e. absurd (both_ways false refl e),
      λ h. absurd (these-fail c.args.sorting.now.signature (ways c.args.operator.now) c.args.alive.now c.loop-number.number-index (sorted_of c.args.least) (sorted_of c.result_of.result) r.0 c.loop-number-test.true r.1 r.2
          (iff_false c.is_below.ensures c.if-not-is_below.true) h),
    )

pub loop-number-preserved : goal.loop-number-preserved
loop-number-preserved c =
    let r = c.result_of.ensures in
    these-more c.args.sorting.now.signature (ways c.args.operator.now) c.args.alive.now c.loop-number.number-index (sorted_of c.args.least) (sorted_of c.result_of.result) r.0 c.loop-number.invariant c.loop-number-test.true r.1 r.2
    (c.is_below.ensures.0 c.if-not-is_below.false)
