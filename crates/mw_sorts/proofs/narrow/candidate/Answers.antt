use Rattle.std.proofs.Common.{ap, sym, subst, take, ◌+◌}
use Rattle.mw_logic.specs.Signature.{Sorted, SameKind}
use Rattle.mw_logic.specs.Accepted.{number_of_sort}
use Rattle.mw_term.specs.Signatures.{sorted_of}
use Rattle.std.proofs.lemmas.Bool.{iff_false}
use Rattle.mw_sorts.specs.States.{ways}
use Rattle.mw_sorts.proofs.Choosing.{alive-there, IsCandidate, among-kind, results-kind, candidate-new, candidate-old}
use Rattle.mw_sorts.proofs.narrow.candidate.Goals as goal
use Rattle.mw_sorts.proofs.narrow.candidate.Goals.{then-is_below, else-is_below}

pub result_of-result-requires : goal.result_of-result-requires
result_of-result-requires c = alive-there (ways c.args.operator.now) c.args.alive.now c.loop-number.number-index c.requires.alive c.loop-number-test.true

pub is_below-requires-clause-kind : goal.is_below-requires-clause-kind
is_below-requires-clause-kind c =
    let k = among-kind c.args.sorting.now.signature c.args.operator.now c.args.alive.now (sorted_of c.loop-number.least) c.requires.operator c.loop-number.invariant.among in
    let r = c.result_of-result.ensures in
    subst (λ (Q : Sorted). SameKind c.args.sorting.now.signature (number_of_sort Q) (number_of_sort (sorted_of c.loop-number.least))) r.2 (results-kind c.args.sorting.now.signature c.args.operator.now _ r.0 (sorted_of c.loop-number.least) c.requires.operator r.1 k.0)

pub is_below-requires-clause-upper_is_there : goal.is_below-requires-clause-upper_is_there
is_below-requires-clause-upper_is_there c = (among-kind c.args.sorting.now.signature c.args.operator.now c.args.alive.now (sorted_of c.loop-number.least) c.requires.operator c.loop-number.invariant.among).1

pub loop-number-preserved : goal.loop-number-preserved
loop-number-preserved c = elim c.if-is_below.branch [
  | then-is_below w ↦
      let r = c.result_of-result.ensures in
      subst (λ (S : Sorted). IsCandidate c.args.sorting.now.signature (ways c.args.operator.now) c.args.alive.now (take (c.loop-number.number-index + 1) c.args.alive.now) S) (ap sorted_of (sym w.least-is))
      (candidate-new c.args.sorting.now.signature (ways c.args.operator.now) c.args.alive.now c.loop-number.number-index (sorted_of c.loop-number.least) (sorted_of c.result_of-result.result) r.0
      c.loop-number.invariant c.loop-number-test.true r.1 r.2 (c.is_below.ensures.0 w.if-is_below.true))
  | else-is_below w ↦
      let r = c.result_of-result.ensures in
      candidate-old c.args.sorting.now.signature (ways c.args.operator.now) c.args.alive.now c.loop-number.number-index (sorted_of c.loop-number.least) (sorted_of c.result_of-result.result) (sorted_of c.if-is_below.least) r.0
      c.loop-number.invariant c.loop-number-test.true r.1 r.2 (iff_false c.is_below.ensures w.if-is_below.false) (ap sorted_of w.least-is)
]
