use Rattle.std.proofs.Common.{◌∙◌, ◌∷◌, false, length, ap, sym, refl, arith}
use Rattle.std.proofs.lemmas.Bool.{both_ways}
use Rattle.mw_proofread.proofs.Digits.{rises_one, rises_none, rises_not, rises_on}
use Rattle.mw_proofread.proofs.numbers.rises.Goals as goal

pub loop-number-init : goal.loop-number-init
loop-number-init c = λ ns e. (ns, e, ((λ h. h), (λ h. h)))

pub returns-in_default-first : goal.returns-in_default-first
returns-in_default-first c = λ ns e.
    let (ms, m, r) = c.loop-number.invariant ns e in
    ((λ h. r.0 (rises_one ms _ (ap (λ z. c.in-Some.number.now.text ∷ z) (sym c.in_default-first.ensures) ∙ sym c.in-Some.ensures ∙ m))), (λ h. refl))

pub returns-then-not-is_below : goal.returns-then-not-is_below
returns-then-not-is_below c = λ ns e.
    let (ms, m, r) = c.loop-number.invariant ns e in
    let all = ap (λ z. c.in-Some.number.now.text ∷ z) (sym c.in-Some-first.ensures) ∙ sym c.in-Some.ensures ∙ m in
    let no = rises_not ms _ _ _ all (λ i j p q k. both_ways c.is_below.result c.if-not-is_below.true ((c.is_below.ensures i j p q).1 k)) in
    ((λ h. absurd (both_ways false refl h)), (λ h. absurd (no (r.1 h))))

pub loop-number-smaller : goal.loop-number-smaller
loop-number-smaller c = let e = ap length c.in-Some.ensures in omega (arith, e)

pub loop-number-preserved : goal.loop-number-preserved
loop-number-preserved c = λ ns e.
    let (ms, m, r) = c.loop-number.invariant ns e in
    let all = ap (λ z. c.in-Some.number.now.text ∷ z) (sym c.in-Some-first.ensures) ∙ sym c.in-Some.ensures ∙ m in
    let (ks, k, s) = rises_on ms _ _ _ all (λ i j p q. (c.is_below.ensures i j p q).0 c.if-not-is_below.false) in
    (ks, c.in-Some-first.ensures ∙ k, ((λ h. r.0 (s.0 h)), (λ h. s.1 (r.1 h))))

pub returns : goal.returns
returns c = λ ns e.
    let (ms, m, r) = c.loop-number.invariant ns e in
    ((λ h. r.0 (rises_none ms (sym c.in_default.ensures ∙ m))), (λ h. refl))
