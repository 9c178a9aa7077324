use Rattle.mw_chart.specs.Spelling.{BeginsWith, OpensWith}
use Rattle.mw_chart.proofs.Listings.{AreListedTo}
use Rattle.mw_chart.proofs.corners.corners_of.Given as goal

abbrev pub invariant-loop-production : goal.invariant-loop-production
invariant-loop-production l = record {
  by_token : AreListedTo (BeginsWith l.steps) l.productions l.production-index l.corners.by_token.items;
  by_kind : AreListedTo (OpensWith l.steps) l.productions l.production-index l.corners.by_kind.items;
}
