use Rattle.std.proofs.Common.{◌≡◌, ◌∙◌, arith}
use Rattle.std.proofs.lemmas.List.{take_all}
use Rattle.mw_position.proofs.Meeting.{place-within}
use Rattle.mw_index.proofs.OneByOne.{member_got, its_place, front_taken, met_more}
use Rattle.mw_index.proofs.conditions.bind_all.Goals as goal

pub loop-i-init : goal.loop-i-init
loop-i-init c = front_taken c.args.bound.now c.args.variables.now c.len-i.result c.requires.front c.len-i.ensures

pub at-requires : goal.at-requires
at-requires c = c.requires.among c.index-variables-i.result (member_got c.args.variables.now c.loop-i.i c.index-variables-i.result c.loop-i-test.true c.index-variables-i.is)

pub variable-x-requires : goal.variable-x-requires
variable-x-requires c =
    let l = place-within c.index-variables-i.result c.args.all.now (c.requires.among c.index-variables-i.result (member_got c.args.variables.now c.loop-i.i c.index-variables-i.result c.loop-i-test.true c.index-variables-i.is)) in
    let p = c.at.ensures in
    omega (arith, l, p)

pub loop-i-preserved : goal.loop-i-preserved
loop-i-preserved c =
    let among = c.requires.among c.index-variables-i.result (member_got c.args.variables.now c.loop-i.i c.index-variables-i.result c.loop-i-test.true c.index-variables-i.is) in
    let x : c.variable-x.result.now ≡ c.index-variables-i.result = its_place c.index-variables-i.result c.args.all.now c.at.result c.variable-x.result.now among c.at.ensures c.variable-x.ensures in
    c.in_ok-meet.ensures.ok ∙ met_more c.variable-x.result.now c.index-variables-i.result c.loop-i.bound c.args.variables.now c.loop-i.i x c.loop-i.invariant c.loop-i-test.true c.index-variables-i.is c.requires.distinct

pub returns : goal.returns
returns c = c.loop-i.invariant ∙ take_all c.loop-i.i c.args.variables.now c.loop-i-test.false
