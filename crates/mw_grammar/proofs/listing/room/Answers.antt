use Rattle.std.proofs.Common.{◌∙◌, ◌≡◌, ℕ, List, [], ◌∷◌, length, ap, sym, subst, arith, length-append}
use Rattle.std.specs.Global.{Global}
use Rattle.std.specs.declared.vec.Vec.{Vec}
use Rattle.mw_chart.specs.Listed.{inner}
use Rattle.mw_chart.proofs.Listings.{inner_grown}
use Rattle.mw_grammar.proofs.listing.room.Goals as goal

pub loop-alloc-preserved : goal.loop-alloc-preserved
loop-alloc-preserved c =
    let old = c.loop-alloc.lists.items in
    let more : length c.push.new.self.items ≡ _ = ap length c.in_ok-push.ensures.items ∙ length-append old (c.new.result ∷ []) in
    let h = c.loop-alloc.invariant in
    record {
      low = (let l = h.low in omega (arith, more, l));
      high = (let l = h.high in let t = c.loop-alloc-test.true in let n = c.len.ensures in omega (arith, more, l, t, n));
      same = λ k. subst (λ (ps : List (Vec ℕ Global)). inner ps k ≡ inner old k) (sym c.in_ok-push.ensures.items) (inner_grown old c.new.result k c.new.ensures.items) ∙ h.same k;
    }
