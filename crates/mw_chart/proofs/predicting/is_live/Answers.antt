use Rattle.std.proofs.Common.{◌≡◌, sym, refl, ℕ, subst}
use Rattle.mw_chart.specs.Spelling.{TokenAt}
use Rattle.mw_chart.proofs.Lists.{one_there}
use Rattle.mw_chart.proofs.predicting.is_live.Goals as goal

pub returns-in-Some : goal.returns-in-Some
returns-in-Some c =
    let st = c.in-Some.ensures.some in (
      λ e x next st2.
          let q = one_there _ c.args.state _ _ st2 st in
          let same : x ≡ c.in-Some.token = (cc) in
          subst (λ (m : ℕ). TokenAt c.args.text.now c.args.at m) (sym same) (c.stands.ensures.0 e),
      λ live. c.stands.ensures.1 (live _ _ st),
    )

pub returns-in-None : goal.returns-in-None
returns-in-None c = (λ e x next st. absurd (c.in-None.ensures.none x next st), λ live. refl)
