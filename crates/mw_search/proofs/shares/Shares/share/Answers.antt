use Rattle.std.specs.Prelude.{Some}
use Rattle.std.proofs.Common.{subst, sym, arith}
use Rattle.mw_search.specs.Goals.{IsNext, front_share, shares_left}
use Rattle.mw_search.specs.declared.shares.Shares.{Shares}
use Rattle.mw_search.proofs.Meeting.{fronts_next}
use Rattle.mw_search.proofs.shares.Shares.share.Goals as goal

pub returns-in_ok-share-in-OfRow : goal.returns-in_ok-share-in-OfRow
returns-in_ok-share-in-OfRow c =
    let r = c.in-OfRow.fronts in
    let s = c.in_ok-share-in-OfRow.field-0 in
    subst (λ (x : Shares). IsNext (Some (s.0, s.1)) (shares_left x)) (sym c.in-OfRow.is)
    (fronts_next (front_share r) r.next r.end (s.0, s.1) (omega (arith, c.if-fronts.false)) c.in_ok-share-in-OfRow.ensures)
