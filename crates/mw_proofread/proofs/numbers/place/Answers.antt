use Rattle.mw_proofread.specs.TokenTexts.{token_texts}
use Rattle.mw_proofread.specs.Parts.{NoTake, NoPlace}
use Rattle.mw_proofread.proofs.Causes.{on_outside, passed}
use Rattle.mw_proofread.proofs.Places.{no_place, place_is, place_not}
use Rattle.mw_proofread.proofs.numbers.place.Goals as goal

pub returns-in_default-clause-outside : goal.returns-in_default-clause-outside
returns-in_default-clause-outside c = no_place _ c.in_default.ensures

pub returns-in_err-take-clause-outside : goal.returns-in_err-take-clause-outside
returns-in_err-take-clause-outside c =
    passed _ _ c.in_err-take.field-0.0 c.from_residual-in_err-take.ensures.1
    (on_outside (NoTake (token_texts c.in_ok-path.rest.now)) (NoPlace (token_texts c.args.tokens.now)) c.in_err-take.field-0.0 (place_not _ _ _ _ c.in-Some.ensures c.in_ok-path.ensures) c.in_err-take.ensures.outside)

pub returns-clause-ok : goal.returns-clause-ok
returns-clause-ok c = place_is _ _ _ _ c.in-Some.ensures c.in_ok-path.ensures _ _ c.in_ok-take.ensures.ok
