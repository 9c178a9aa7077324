use Rattle.std.proofs.Common.{◌∙◌, ap, sym, arith}
use Rattle.mw_matching.specs.Multisets.{behind_first}
use Rattle.mw_search.specs.Goals.{front_share, shares_left}
use Rattle.mw_search.specs.declared.shares.Shares.{Shares}
use Rattle.mw_search.proofs.Meeting.{fronts_pass}
use Rattle.mw_search.proofs.shares.Shares.pass.Goals as goal

pub returns-then-fronts : goal.returns-then-fronts
returns-then-fronts c =
    fronts_pass (front_share c.in-OfRow.fronts) c.in-OfRow.fronts.next c.in-OfRow.fronts.end (omega (arith, c.if-fronts.true))
    ∙ ap (λ (s : Shares). behind_first (shares_left s)) (sym c.in-OfRow.is)
