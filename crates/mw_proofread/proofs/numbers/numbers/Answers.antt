use Rattle.std.proofs.Common.{◌∙◌, ◌∷◌, ◌++◌, [], length, ap, refl, arith}
use Rattle.mw_proofread.proofs.Places.{numbers_more, entry_more}
use Rattle.mw_proofread.proofs.numbers.numbers.Goals as goal

pub loop-number-init : goal.loop-number-init
loop-number-init c = ([], refl, c.new-found.ensures.items)

pub loop-number-smaller : goal.loop-number-smaller
loop-number-smaller c = let (n, e, v) = c.in-Some.ensures in let k = ap length e in omega (arith, k)

pub loop-number-preserved : goal.loop-number-preserved
loop-number-preserved c =
    let (ns, e, f) = c.loop-number.invariant in
    let (n, d, v) = c.in-Some.ensures in
    (ns ++ n ∷ [], numbers_more ns n _ _ _ e d, entry_more ns n c.in-Some.number c.entry_number.result _ _ c.in_ok-push.ensures.items f c.entry_number.ensures v)

pub returns : goal.returns
returns c = let (ns, e, f) = c.loop-number.invariant in record { numbers = ns; is = e; ends = c.in_default.ensures; are = c.of.ensures ∙ f }
