use Rattle.std.proofs.Common.{◌∙◌, ap, subst, sym}
use Rattle.mw_logic.specs.Signature.{IsRawTerm}
use Rattle.mw_logic.specs.Parts.{IsTooDeep, IsTooLarge}
use Rattle.mw_logic.specs.NormalForm.{normal_form}
use Rattle.mw_canon.specs.Causes.{HasCause}
use Rattle.mw_term.specs.Raws.{raw_term}
use Rattle.mw_build.proofs.Sides.{nested_is}
use Rattle.mw_build.proofs.sizes.canonical.Goals as goal

pub canon-requires : goal.canon-requires
canon-requires c = record { raw = subst (IsRawTerm c.args.facts.now) (sym (nested_is c.args.facts.now c.shows.ensures (raw_term c.args.raw.now) c.requires)) c.requires }

pub returns-in-Ok : goal.returns-in-Ok
returns-in-Ok c =
    let sig = c.args.facts.now in
    let n = nested_is sig c.shows.ensures (raw_term c.args.raw.now) c.requires in (
      record {
        not_deep = subst (λ t. ¬ IsTooDeep sig t) n c.in-Ok.ensures.not_deep;
        not_large = subst (λ t. ¬ IsTooLarge sig t) n c.in-Ok.ensures.not_large;
      },
      c.in-Ok.ensures.canonical ∙ ap (normal_form sig) n,
    )

pub returns-in_ok-oversized-in-Err : goal.returns-in_ok-oversized-in-Err
returns-in_ok-oversized-in-Err c =
    let sig = c.args.facts.now in
    let n = nested_is sig c.shows.ensures (raw_term c.args.raw.now) c.requires in
    c.in_ok-oversized-in-Err.ensures sig (raw_term c.args.raw.now) (subst (λ t. HasCause sig t c.in-Err.error) n c.in-Err.ensures.cause)
