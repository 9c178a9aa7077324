use Rattle.std.proofs.Common.{◌∙◌, length, ap, arith}
use Rattle.mw_logic.specs.Terms.{terms_of}
use Rattle.mw_arguments.specs.Places.{numbers_of}
use Rattle.mw_match.proofs.Taking.{is_none, is_some, nothing_left, few_taken, taken_of_bag, taken_of_list}
use Rattle.mw_match.proofs.takes.taken.Goals as goal

pub returns-then-is_empty : goal.returns-then-is_empty
returns-then-is_empty c = nothing_left c.args.comm c.args.args.now c.args.left.now c.args.from (is_none (length c.args.left.now) c.is_empty.result c.is_empty.ensures c.if-is_empty.true)

pub returns-then-left-count : goal.returns-then-left-count
returns-then-left-count c =
    let few = c.if-left-count.true in
    let count = c.saturating_sub-count.ensures in
    few_taken c.args.comm c.args.args.now c.args.left.now c.args.from (omega (arith, few, count))

pub returns-then-comm : goal.returns-then-comm
returns-then-comm c =
    let more = c.if-left-count.false in
    let count = c.saturating_sub-count.ensures in
    taken_of_bag c.args.comm c.args.args.now c.args.left.now c.args.from c.in_ok-made.made c.in_ok-some.some.items (is_some (length c.args.left.now) c.is_empty.result c.is_empty.ensures c.if-is_empty.false) (omega (arith, more, count)) c.if-comm.true
    c.in_ok-some.ensures (c.in_ok-made.ensures ∙ ap (λ xs. numbers_of 1 (terms_of xs) (terms_of c.args.args.now)) c.as_slice.ensures.value)

pub returns : goal.returns
returns c =
    let more = c.if-left-count.false in
    let count = c.saturating_sub-count.ensures in
    taken_of_list c.args.comm c.args.args.now c.args.left.now c.args.from c.in_ok-made-2.made (is_some (length c.args.left.now) c.is_empty.result c.is_empty.ensures c.if-is_empty.false) (omega (arith, more, count)) c.if-comm.false c.in_ok-made-2.ensures
