use Rattle.mw_chart.specs.Spelling.{BeginsWith, OpensWith}
use Rattle.mw_chart.proofs.Lists.{get_is}
use Rattle.mw_chart.proofs.Listings.{listed_more, listed_all}
use Rattle.mw_chart.proofs.corners.corners_of.Goals as goal

pub loop-production-preserved : goal.loop-production-preserved
loop-production-preserved c =
    let at = get_is c.args.productions.now c.loop-production.production-index (record { state = 0; operator = 0 }) c.loop-production-test.true in
    record {
      by_token = listed_more (BeginsWith c.args.steps.now) c.args.productions.now c.loop-production.production-index _ c.loop-production.corners.by_token.items c.join_first.new.corners.by_token.items at
          c.in_ok-join_first.ensures.by_token c.loop-production.invariant.by_token;
      by_kind = listed_more (OpensWith c.args.steps.now) c.args.productions.now c.loop-production.production-index _ c.loop-production.corners.by_kind.items c.join_first.new.corners.by_kind.items at
          c.in_ok-join_first.ensures.by_kind c.loop-production.invariant.by_kind;
    }

pub returns : goal.returns
returns c = record {
  by_token = listed_all (BeginsWith c.args.steps.now) c.args.productions.now c.loop-production.production-index c.loop-production.corners.by_token.items c.loop-production-test.false c.loop-production.invariant.by_token;
  by_kind = listed_all (OpensWith c.args.steps.now) c.args.productions.now c.loop-production.production-index c.loop-production.corners.by_kind.items c.loop-production-test.false c.loop-production.invariant.by_kind;
}
