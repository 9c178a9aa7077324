use Rattle.std.proofs.Common.{◌∙◌, sym, arith}
use Rattle.mw_chart.proofs.Lists.{get_below}
use Rattle.mw_chart.proofs.Ends.{vec_length}
use Rattle.mw_chart.proofs.Answers.{item_is, item_spelled, none_spelled, one_spelled}
use Rattle.mw_chart.proofs.parsing.parse.Goals as goal

pub returns-in-None-clause-fault : goal.returns-in-None-clause-fault
returns-in-None-clause-fault c =
    (c.if-text-gt-LIMIT.false, none_spelled c.args.table.now c.args.wanted c.args.text.now c.in_ok-listed.listed.items c.in_ok-listed.ensures c.in-None.ensures.none)

pub index-requires : goal.index-requires
index-requires c =
    let b = get_below c.in_ok-listed.listed.items c.in-Some.k c.in-Some.ensures.some.0 c.in-Some.ensures.some.1 in
    let e = vec_length c.in_ok-listed.listed in omega (arith, b, e)

pub index-requires-in-Some-other_of : goal.index-requires-in-Some-other_of
index-requires-in-Some-other_of c =
    let b = get_below c.in_ok-listed.listed.items c.in-Some-other_of.j c.in-Some-other_of.ensures.some.0 c.in-Some-other_of.ensures.some.1 in
    let e = vec_length c.in_ok-listed.listed in omega (arith, b, e)

pub returns-in-None-other_of-clause-one : goal.returns-in-None-other_of-clause-one
returns-in-None-other_of-clause-one c =
    let found = c.in-Some.ensures.some in
    let is = item_is c.in_ok-listed.listed.items c.in-Some.k found.0 c.index.result.now c.in_ok-first-in-Some.first found.1 c.index.ensures c.in_ok-first-in-Some.ensures in
    record {
      short = c.if-text-gt-LIMIT.false;
      spelled = item_spelled c.args.table.now c.args.wanted c.args.text.now c.in_ok-listed.listed.items c.in-Some.k found.0 c.in_ok-first-in-Some.first c.in_ok-listed.ensures found.1 found.2 is;
      only = one_spelled c.args.table.now c.args.wanted c.args.text.now c.in_ok-listed.listed.items c.in_ok-first-in-Some.first c.in_ok-listed.ensures c.in-None-other_of.ensures.none;
    }

pub returns-clause-fault : goal.returns-clause-fault
returns-clause-fault c =
    let found = c.in-Some.ensures.some in
    let other = c.in-Some-other_of.ensures.some in
    let is = item_is c.in_ok-listed.listed.items c.in-Some.k found.0 c.index.result.now c.in_ok-first-in-Some.first found.1 c.index.ensures c.in_ok-first-in-Some.ensures in
    let is2 = item_is c.in_ok-listed.listed.items c.in-Some-other_of.j other.0 c.index-in-Some-other_of.result.now c.in_ok-second-in-Some-other_of.second other.1 c.index-in-Some-other_of.ensures c.in_ok-second-in-Some-other_of.ensures in (
      c.if-text-gt-LIMIT.false,
      item_spelled c.args.table.now c.args.wanted c.args.text.now c.in_ok-listed.listed.items c.in-Some.k found.0 c.in_ok-first-in-Some.first c.in_ok-listed.ensures found.1 found.2 is,
      item_spelled c.args.table.now c.args.wanted c.args.text.now c.in_ok-listed.listed.items c.in-Some-other_of.j other.0 c.in_ok-second-in-Some-other_of.second c.in_ok-listed.ensures other.1 other.2 is2,
      λ same. other.3 (is2 ∙ sym same),
    )
