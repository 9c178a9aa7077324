use Rattle.std.proofs.Common.{◌∙◌, ap, sym}
use Rattle.mw_arguments.specs.Bags.{heads, runs, spread}
use Rattle.mw_search.specs.Bags.{Cuts, with_current}
use Rattle.mw_search.proofs.bags.Parts.part.Goals as goal

pub returns : goal.returns
returns c = (
  c.cut.result.now,
  c.self.inside.splits.remaining,
  ap (λ (p : Cuts). p.remaining) (sym c.self.view_is) ∙ ap (λ o. with_current o c.self.inside.splits.remaining) c.cut.ensures,
  c.in_ok-part.ensures ∙ ap (λ ds. spread ds c.cut.result.now) (c.as_slice.ensures.value ∙ c.self.invariant.0.terms ∙ ap (λ (p : Cuts). heads (runs p.elements)) c.self.view_is),
)
