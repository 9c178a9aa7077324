use Rattle.std.proofs.Common.{◌∙◌, ap}
use Rattle.mw_term.specs.Signatures.{sorted_of}
use Rattle.std.proofs.lemmas.Bool.{iff_false}
use Rattle.mw_sorts.specs.States.{ways}
use Rattle.mw_sorts.proofs.Choosing.{pairs, alive-there, argument, argument-read, narrowed-kept, narrowed-left, narrowed-done}
use Rattle.mw_sorts.proofs.Getting.{get-within}
use Rattle.mw_sorts.proofs.narrow.narrowed.Goals as goal
use Rattle.mw_sorts.proofs.narrow.narrowed.Goals.{then-is_below+in_ok-push, else-is_below}

pub argument-requires-clause-pairs : goal.argument-requires-clause-pairs
argument-requires-clause-pairs c = pairs c.args.sorting.now.signature c.args.operator.now c.requires.operator

pub argument-requires-clause-declaration : goal.argument-requires-clause-declaration
argument-requires-clause-declaration c = alive-there (ways c.args.operator.now) c.args.alive.now c.loop-number.number-index c.requires.alive c.loop-number-test.true

pub argument-requires-clause-argument : goal.argument-requires-clause-argument
argument-requires-clause-argument c d e =
    let k = c.requires.kind in
    let a = argument c.args.sorting.now.signature c.args.operator.now _ d c.args.place k.0 c.requires.operator e k.1 in
    get-within d.args c.args.place a.sort a.is

pub is_below-requires-clause-kind : goal.is_below-requires-clause-kind
is_below-requires-clause-kind c =
    let k = c.requires.kind in
    let a = c.argument.ensures in
    (argument-read c.args.sorting.now.signature c.args.operator.now c.args.alive.now c.loop-number.number-index c.args.place k.0 a.0 (sorted_of c.args.sort) (sorted_of c.argument.result) c.requires.operator k.1 k.2 a.1 a.2).0

pub is_below-requires-clause-upper_is_there : goal.is_below-requires-clause-upper_is_there
is_below-requires-clause-upper_is_there c =
    let k = c.requires.kind in
    let a = c.argument.ensures in
    (argument-read c.args.sorting.now.signature c.args.operator.now c.args.alive.now c.loop-number.number-index c.args.place k.0 a.0 (sorted_of c.args.sort) (sorted_of c.argument.result) c.requires.operator k.1 k.2 a.1 a.2).1

pub loop-number-preserved : goal.loop-number-preserved
loop-number-preserved c = elim c.if-is_below.branch [
  | then-is_below+in_ok-push w ↦
      let a = c.argument.ensures in
      narrowed-kept c.args.sorting.now.signature (ways c.args.operator.now) c.args.place (sorted_of c.args.sort) (sorted_of c.argument.result) c.args.alive.now c.loop-number.number-index c.loop-number.narrowed.items
      c.if-is_below.narrowed.items a.0 c.loop-number.invariant c.loop-number-test.true a.1 a.2 (c.is_below.ensures.0 w.if-is_below.true) (ap (λ v. v.items) w.narrowed-is ∙ w.in_ok-push.ensures.items)
  | else-is_below w ↦
      let a = c.argument.ensures in
      narrowed-left c.args.sorting.now.signature (ways c.args.operator.now) c.args.place (sorted_of c.args.sort) (sorted_of c.argument.result) c.args.alive.now c.loop-number.number-index c.loop-number.narrowed.items
      c.if-is_below.narrowed.items a.0 c.loop-number.invariant c.loop-number-test.true a.1 a.2 (iff_false c.is_below.ensures w.if-is_below.false) (ap (λ v. v.items) w.narrowed-is)
]

pub returns : goal.returns
returns c = narrowed-done c.args.sorting.now.signature (ways c.args.operator.now) c.args.place (sorted_of c.args.sort) c.args.alive.now c.loop-number.narrowed.items c.loop-number.number-index c.loop-number-test.false c.loop-number.invariant
