use Rattle.std.proofs.Common.{take, sym, subst, [], ◌∷◌, All}
use Rattle.std.proofs.lemmas.List.{take_more}
use Rattle.std.proofs.lemmas.List.Elements.{All-nil, All-cons, All-append}
use Rattle.mw_spot.specs.Spots.{IsFree}
use Rattle.mw_spot.proofs.spotting.free.Goals as goal

pub loop-i-preserved : goal.loop-i-preserved
loop-i-preserved c =
    let P = IsFree c.args.facts.now in
    let levels = c.args.levels.now in
    let o = c.index-levels-i.result in
    subst (All P) (sym (take_more levels c.loop-i.i o c.loop-i-test.true))
    (All-append P (take c.loop-i.i levels) _ c.loop-i.invariant (subst (λ o. All P (o ∷ [])) c.index-levels-i.is (All-cons P o [] (c.is_free.ensures.0 c.if-not-is_free.false) (All-nil P))))
