use Rattle.mw_check.proofs.RowShared.{not_other, ordered, shared_once, shared_twice, first_pair}
use Rattle.mw_check.proofs.rows.shared.Goals as goal

pub unreachable-requires : goal.unreachable-requires
unreachable-requires c =
    not_other c.args.context.now c.shows.ensures c.args.operator c.args.args.now c.requires.part c.requires.test c.requires.many c.facts.result.now c.facts.ensures c.axioms.result c.axioms.ensures c.in_default.not-Associative

pub are_twice-requires : goal.are_twice-requires
are_twice-requires c =
    ordered c.args.context.now c.shows.ensures c.args.operator c.args.args.now c.requires.part c.requires.test c.requires.many c.facts.result.now c.facts.ensures c.in-Associative.comm c.in-Associative.ensures.1

pub returns-then-not-are_twice : goal.returns-then-not-are_twice
returns-then-not-are_twice c =
    shared_once c.args.context.now c.shows.ensures c.args.operator c.args.args.now c.requires.part c.requires.test c.requires.many c.facts.result.now c.facts.ensures c.in-Associative.comm c.in-Associative.ensures.1
    c.are_twice.result c.are_twice.ensures c.if-not-are_twice.true

pub of_equals-requires-clause-pair : goal.of_equals-requires-clause-pair
of_equals-requires-clause-pair c =
    first_pair c.args.context.now c.shows.ensures c.args.operator c.args.args.now c.requires.part c.requires.test c.requires.many c.index-args-0.result c.index-args-0.is

pub returns : goal.returns
returns c =
    shared_twice c.args.context.now c.shows.ensures c.args.operator c.args.args.now c.requires.part c.requires.test c.requires.many c.facts.result.now c.facts.ensures c.in-Associative.comm c.in-Associative.ensures.1
    c.are_twice.result c.are_twice.ensures c.if-not-are_twice.false c.in_ok-to.to c.in_ok-to.ensures
