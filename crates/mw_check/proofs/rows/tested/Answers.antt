use Rattle.std.proofs.Common.{arith, subst}
use Rattle.std.proofs.lemmas.Bool.{both_ways, ltb-true, ltb-false}
use Rattle.mw_check.specs.RowSides.{AreTold}
use Rattle.mw_check.proofs.RowTested.{two_args, two_listed, first_arg, second_arg, tested_same, tested_normal, tested_reducible, tested_stopped}
use Rattle.mw_check.proofs.rows.tested.Goals as goal
use Rattle.mw_check.proofs.rows.tested.Goals.{in_default-via-then-args-lt2, in_default-via-else-args-lt2+else-args-lt3}

pub shared-requires-clause-many : goal.shared-requires-clause-many
shared-requires-clause-many c =
    let two = two_args c.args.tester.now.context.now c.shows.ensures c.args.operator c.args.args.now c.requires.part c.requires.test in
    elim c.in_default.branch [ in_default-via-then-args-lt2 w ↦ omega (arith, two, ltb-true) | in_default-via-else-args-lt2+else-args-lt3 w ↦ omega (arith, ltb-false) ]

pub returns-then-same : goal.returns-then-same
returns-then-same c =
    let x = c.first-item.result in
    let y = c.second-item.result in
    let is = two_listed c.args.args.now x y c.in-len2.len_at_least c.in-len2.len_below c.first-item.is c.second-item.is in
    tested_same c.args.tester.now.context.now c.shows.ensures c.args.operator c.args.args.now x y is c.requires.part c.args.to c.requires.given c.args.tester.now.most c.args.rank (c.same.ensures.0 c.if-same.true)

pub both-requires-clause-first : goal.both-requires-clause-first
both-requires-clause-first c =
    let x = c.first-item.result in
    let y = c.second-item.result in
    let is = two_listed c.args.args.now x y c.in-len2.len_at_least c.in-len2.len_below c.first-item.is c.second-item.is in
    first_arg c.args.tester.now.context.now c.shows.ensures c.args.operator c.args.args.now x y is c.requires.part

pub both-requires-clause-second : goal.both-requires-clause-second
both-requires-clause-second c =
    let x = c.first-item.result in
    let y = c.second-item.result in
    let is = two_listed c.args.args.now x y c.in-len2.len_at_least c.in-len2.len_below c.first-item.is c.second-item.is in
    second_arg c.args.tester.now.context.now c.shows.ensures c.args.operator c.args.args.now x y is c.requires.part

pub returns-in-Yes : goal.returns-in-Yes
returns-in-Yes c =
    let M = c.args.tester.now.context.now in
    let x = c.first-item.result in
    let y = c.second-item.result in
    let is = two_listed c.args.args.now x y c.in-len2.len_at_least c.in-len2.len_below c.first-item.is c.second-item.is in
    tested_normal M c.shows.ensures c.args.operator c.args.args.now x y is c.requires.part c.args.to c.requires.given c.args.tester.now.most c.args.rank
    (subst (AreTold M c.args.tester.now.most c.args.rank x y) c.in-Yes.is c.in_ok-both.ensures)

pub returns-in-No : goal.returns-in-No
returns-in-No c =
    let M = c.args.tester.now.context.now in
    let x = c.first-item.result in
    let y = c.second-item.result in
    let is = two_listed c.args.args.now x y c.in-len2.len_at_least c.in-len2.len_below c.first-item.is c.second-item.is in
    tested_reducible M c.shows.ensures c.args.operator c.args.args.now x y is c.requires.part c.args.to c.requires.given c.args.tester.now.most c.args.rank c.requires.test
    (λ e. both_ways _ c.if-same.false (c.same.ensures.1 e)) (subst (AreTold M c.args.tester.now.most c.args.rank x y) c.in-No.is c.in_ok-both.ensures)

pub returns-in-Stopped : goal.returns-in-Stopped
returns-in-Stopped c =
    let M = c.args.tester.now.context.now in
    let x = c.first-item.result in
    let y = c.second-item.result in
    let is = two_listed c.args.args.now x y c.in-len2.len_at_least c.in-len2.len_below c.first-item.is c.second-item.is in
    tested_stopped M c.shows.ensures c.args.operator c.args.args.now x y is c.requires.part c.args.to c.requires.given c.args.tester.now.most c.args.rank c.requires.test
    (λ e. both_ways _ c.if-same.false (c.same.ensures.1 e)) (subst (AreTold M c.args.tester.now.most c.args.rank x y) c.in-Stopped.is c.in_ok-both.ensures)
