use Rattle.std.proofs.Common.{refl, sym, subst, arith}
use Rattle.std.proofs.lemmas.Option.{slice_get_within}
use Rattle.mw_logic.specs.Substitution.{Extends}
use Rattle.mw_rule.specs.Finding.{Keeps}
use Rattle.mw_rule.proofs.Alike.{all_kept}
use Rattle.mw_rule.proofs.finding.keeps_all.Goals as goal

pub returns : goal.returns
returns c =
    let bs = c.args.pairs.now in
    let r = c.args.others.now in (
      λ yes. subst (λ s. Extends s r) (sym c.requires) (all_kept bs r (λ i b at.
          let low = slice_get_within bs i b at in
          let done = c.loop-pair-test.false in
          subst (λ s. Keeps s r b.variable) c.requires (c.loop-pair.invariant i b (omega (arith, low, done)) at))),
      λ all. refl,
    )
