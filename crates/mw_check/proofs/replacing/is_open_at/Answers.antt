use Rattle.std.proofs.Common.{sym, subst, refl}
use Rattle.mw_redex.specs.Replaced.{IsOpenWay, way_of_place}
use Rattle.mw_check.proofs.PlacingParts.{open_way}
use Rattle.mw_check.proofs.replacing.is_open_at.Goals as goal

pub returns-then-not-by_rule : goal.returns-then-not-by_rule
returns-then-not-by_rule c =
    let sig = c.args.facts.now in
    let way = way_of_place c.args.place.now.path c.args.place.now.take in
    (λ h. subst (λ r. IsOpenWay sig r way c.args.term.now) (sym c.if-not-by_rule.true) (open_way sig way c.args.term.now), λ h. refl)
