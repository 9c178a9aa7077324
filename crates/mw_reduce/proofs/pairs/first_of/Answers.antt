use Rattle.std.proofs.Common.{rules}
use Rattle.mw_logic.proofs.OrderLaws.{after-asym}
use Rattle.mw_reduce.proofs.Joining.{own_taken, made_taken, before_found, before_none}
use Rattle.mw_reduce.proofs.pairs.first_of.Goals as goal

pub returns-then-is_in_order-clause-first : goal.returns-then-is_in_order-clause-first
returns-then-is_in_order-clause-first c = λ a b.
    let s = c.in-Some-Some in
    let h = before_found c.args.made.now c.args.left.made s.own.now s.other.now (search rules) (search rules) (c.is_in_order.ensures.yes c.if-is_in_order.true) in
    let z = own_taken c.args.args.now c.args.made.now c.args.left.own c.args.left.made s.own.now (search rules) (search rules) h a b in
    rw (c.own_first.ensures.0, c.own_first.ensures.1, c.own_first.ensures.2) z

pub returns-else-is_in_order-clause-first : goal.returns-else-is_in_order-clause-first
returns-else-is_in_order-clause-first c = λ a b.
    let s = c.in-Some-Some in
    let h = before_found c.args.args.now c.args.left.own s.other.now s.own.now (search rules) (search rules) (after-asym s.own.now s.other.now (c.is_in_order.ensures.no c.if-is_in_order.false)) in
    let z = made_taken c.args.args.now c.args.made.now c.args.left.own c.args.left.made s.other.now (search rules) (search rules) h a b in
    rw (c.made_first.ensures.0, c.made_first.ensures.1, c.made_first.ensures.2) z

pub returns-in-Some-None-clause-first : goal.returns-in-Some-None-clause-first
returns-in-Some-None-clause-first c = λ a b.
    let t = c.in-Some-None.own.now in
    let z = own_taken c.args.args.now c.args.made.now c.args.left.own c.args.left.made t (search rules) (search rules) (before_none c.args.made.now c.args.left.made t (search rules)) a b in
    rw (c.own_first-in-Some-None.ensures.0, c.own_first-in-Some-None.ensures.1, c.own_first-in-Some-None.ensures.2) z

pub returns-in-None-Some-clause-first : goal.returns-in-None-Some-clause-first
returns-in-None-Some-clause-first c = λ a b.
    let t = c.in-None-Some.other.now in
    let z = made_taken c.args.args.now c.args.made.now c.args.left.own c.args.left.made t (search rules) (search rules) (before_none c.args.args.now c.args.left.own t (search rules)) a b in
    rw (c.made_first-in-None-Some.ensures.0, c.made_first-in-None-Some.ensures.1, c.made_first-in-None-Some.ensures.2) z
