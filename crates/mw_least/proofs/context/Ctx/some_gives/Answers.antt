use Rattle.std.proofs.Common.{refl, sym, subst}
use Rattle.std.proofs.lemmas.Bool.{both_ways}
use Rattle.mw_logic.specs.Signature.{Declaration, sort}
use Rattle.mw_logic.specs.Sorts.{IsBelow}
use Rattle.mw_least.proofs.Tops.{rest_member, first_member, later_member}
use Rattle.mw_least.proofs.context.Ctx.some_gives.Goals as goal

pub returns-then-is_at_most : goal.returns-then-is_at_most
returns-then-is_at_most c =
    let first = c.loop-rest.invariant.kept _ (first_member c.loop-rest.rest.now _ _ c.in-len1-up.len_at_least c.declaration-item.is) in
    let below = subst (λ (d : Declaration). IsBelow c.args.self.now.signature d.result (sort c.args.sort)) c.declaration.view_is (c.is_at_most.ensures.0 c.if-is_at_most.true) in
    (λ h. (c.declaration-item.result, first, below), λ h. refl)

pub loop-rest-preserved : goal.loop-rest-preserved
loop-rest-preserved c =
    let P : Declaration → Type 0 = λ d. IsBelow c.args.self.now.signature d.result (sort c.args.sort) in
    let above : P c.declaration-item.result → ⊥ = λ b. both_ways _ c.if-is_at_most.false (c.is_at_most.ensures.1 (subst P (sym c.declaration.view_is) b)) in
    record {
      kept = λ d m. c.loop-rest.invariant.kept d (rest_member c.loop-rest.rest.now c.in-len1-up.len_at_least d m);
      ahead = λ d m b.
          later_member c.loop-rest.rest.now c.in-len1-up.len_at_least c.declaration-item.result d c.declaration-item.is (λ e. above (subst P (sym e) b)) (c.loop-rest.invariant.ahead d m b);
    }
