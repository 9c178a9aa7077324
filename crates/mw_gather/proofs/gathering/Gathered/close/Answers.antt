use Rattle.std.proofs.Common.{◌∙◌, sym, ap, subst}
use Rattle.mw_multiset.specs.Together.{together}
use Rattle.mw_proof.specs.Deductions.{Deduction, IsKept}
use Rattle.mw_gather.specs.Gatherings.{Gathering}
use Rattle.mw_gather.proofs.Gathers.{whole_closed}
use Rattle.mw_gather.proofs.gathering.Gathered.close.Goals as goal

pub of-requires : goal.of-requires
of-requires c =
    let i = c.self.inside in
    let M = i.context.now in
    subst (λ t. IsKept M 63 i.from t i.trail) (whole_closed M i.operator i.from i.elements.items i.trail c.self.invariant c.facts.result.now c.in_ok-to.to c.facts.ensures c.in_ok-to.ensures) c.self.invariant.kept

pub returns-clause-to : goal.returns-clause-to
returns-clause-to c =
    let i = c.self.inside in
    let M = i.context.now in
    ap (λ (d : Deduction). d.to) c.of.ensures ∙ sym (whole_closed M i.operator i.from i.elements.items i.trail c.self.invariant c.facts.result.now c.in_ok-to.to c.facts.ensures c.in_ok-to.ensures)
    ∙ ap (λ (g : Gathering). together g.over.signature g.operator g.elements) c.self.view_is
