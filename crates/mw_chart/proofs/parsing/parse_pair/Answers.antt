use Rattle.std.proofs.Common.{sym, ap, ◌∙◌}
use Rattle.mw_chart.specs.declared.fault.TreePair.{TreePair}
use Rattle.mw_chart.proofs.Lists.{get_below}
use Rattle.mw_chart.proofs.Answers.{pair_is, pair_spelled, no_pair, one_pair}
use Rattle.mw_chart.proofs.parsing.parse_pair.Goals as goal

pub returns-in-None-clause-fault : goal.returns-in-None-clause-fault
returns-in-None-clause-fault c = (
  (c.if-left-gt-LIMIT.false, c.if-right-gt-LIMIT.false),
  no_pair c.args.table.now c.args.left.now c.args.right.now c.in_ok-lefts.lefts.items c.in_ok-rights.rights.items c.in_ok-lefts.ensures c.in_ok-rights.ensures c.in-None.ensures.none,
)

pub pair_at-requires-clause-left : goal.pair_at-requires-clause-left
pair_at-requires-clause-left c = let f = c.in-Some.ensures.some in get_below c.in_ok-lefts.lefts.items c.in-Some.found.left f.0 f.2.0

pub pair_at-requires-clause-right : goal.pair_at-requires-clause-right
pair_at-requires-clause-right c = let f = c.in-Some.ensures.some in get_below c.in_ok-rights.rights.items c.in-Some.found.right f.1 f.2.1

pub pair_at-requires-in-Some-other_pair-clause-left : goal.pair_at-requires-in-Some-other_pair-clause-left
pair_at-requires-in-Some-other_pair-clause-left c = let f = c.in-Some-other_pair.ensures.some in get_below c.in_ok-lefts.lefts.items c.in-Some-other_pair.other.left f.0 f.2.0

pub pair_at-requires-in-Some-other_pair-clause-right : goal.pair_at-requires-in-Some-other_pair-clause-right
pair_at-requires-in-Some-other_pair-clause-right c = let f = c.in-Some-other_pair.ensures.some in get_below c.in_ok-rights.rights.items c.in-Some-other_pair.other.right f.1 f.2.1

pub returns-in-None-other_pair-clause-one : goal.returns-in-None-other_pair-clause-one
returns-in-None-other_pair-clause-one c =
    let f = c.in-Some.ensures.some in
    let p = c.in_ok-first-in-Some.first in
    let is = pair_is c.in_ok-lefts.lefts.items c.in_ok-rights.rights.items c.in-Some.found f.0 f.1 p.left p.right f.2 c.in_ok-first-in-Some.ensures in
    record {
      short = (c.if-left-gt-LIMIT.false, c.if-right-gt-LIMIT.false);
      spelled = pair_spelled c.args.table.now c.args.left.now c.args.right.now c.in_ok-lefts.lefts.items c.in_ok-rights.rights.items c.in-Some.found f.0 f.1 p.left p.right c.in_ok-lefts.ensures c.in_ok-rights.ensures f.2 is.0 is.1;
      only = one_pair c.args.table.now c.args.left.now c.args.right.now c.in_ok-lefts.lefts.items c.in_ok-rights.rights.items p.left p.right c.in_ok-lefts.ensures c.in_ok-rights.ensures c.in-None-other_pair.ensures.none;
    }

pub returns-clause-fault : goal.returns-clause-fault
returns-clause-fault c =
    let f = c.in-Some.ensures.some in
    let o = c.in-Some-other_pair.ensures.some in
    let p = c.in_ok-first-in-Some.first in
    let q = c.in_ok-second-in-Some-other_pair.second in
    let is = pair_is c.in_ok-lefts.lefts.items c.in_ok-rights.rights.items c.in-Some.found f.0 f.1 p.left p.right f.2 c.in_ok-first-in-Some.ensures in
    let is2 = pair_is c.in_ok-lefts.lefts.items c.in_ok-rights.rights.items c.in-Some-other_pair.other o.0 o.1 q.left q.right o.2 c.in_ok-second-in-Some-other_pair.ensures in (
      (c.if-left-gt-LIMIT.false, c.if-right-gt-LIMIT.false),
      pair_spelled c.args.table.now c.args.left.now c.args.right.now c.in_ok-lefts.lefts.items c.in_ok-rights.rights.items c.in-Some.found f.0 f.1 p.left p.right c.in_ok-lefts.ensures c.in_ok-rights.ensures f.2 is.0 is.1,
      pair_spelled c.args.table.now c.args.left.now c.args.right.now c.in_ok-lefts.lefts.items c.in_ok-rights.rights.items c.in-Some-other_pair.other o.0 o.1 q.left q.right c.in_ok-lefts.ensures c.in_ok-rights.ensures o.2 is2.0 is2.1,
      λ same. o.3 (sym is2.0 ∙ sym (ap (λ (r : TreePair). r.left) same)) (sym is2.1 ∙ sym (ap (λ (r : TreePair). r.right) same)),
    )
