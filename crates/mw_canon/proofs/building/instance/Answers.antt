use Rattle.std.proofs.Common.{◌≡◌, ◌∙◌, ap}
use Rattle.std.proofs.lemmas.Result.{IfOk-weaker, IfErr-weaker}
use Rattle.mw_logic.specs.Term.{RawTerm}
use Rattle.mw_logic.specs.Signature.{Signature}
use Rattle.mw_logic.specs.Parts.{nested}
use Rattle.mw_logic.specs.NormalForm.{normal_form}
use Rattle.mw_logic.specs.Substitution.{instance as instance_of}
use Rattle.mw_term.specs.Raws.{raw_term}
use Rattle.mw_canon.specs.Canonical.{meant}
use Rattle.mw_canon.specs.Made.{made}
use Rattle.mw_canon.proofs.Limits.{low_enough, small_enough, cause}
use Rattle.mw_canon.proofs.building.instance.Goals as goal

pub returns-clause-not_deep : goal.returns-clause-not_deep
returns-clause-not_deep c =
    let sig : Signature = c.args.facts.now in
    let t : RawTerm = instance_of (meant sig c.args.substitution.now) (nested sig (raw_term c.args.raw.now)) in
    let e : c.in_ok-term.term ≡ normal_form sig t = c.in_ok-term.ensures.is ∙ ap (λ s. made sig s (raw_term c.args.raw.now)) c.in_ok-values.ensures in
    IfOk-weaker c.limited.result _ _ (λ v h. low_enough sig c.shows.ensures t c.requires.raw c.in_ok-term.term e c.built.new.large c.in_ok-term.ensures.large h) c.limited.ensures.low

pub returns-clause-not_large : goal.returns-clause-not_large
returns-clause-not_large c =
    let sig : Signature = c.args.facts.now in
    let t : RawTerm = instance_of (meant sig c.args.substitution.now) (nested sig (raw_term c.args.raw.now)) in
    let e : c.in_ok-term.term ≡ normal_form sig t = c.in_ok-term.ensures.is ∙ ap (λ s. made sig s (raw_term c.args.raw.now)) c.in_ok-values.ensures in
    IfOk-weaker c.limited.result _ _ (λ v h. small_enough sig c.shows.ensures t c.requires.raw c.in_ok-term.term e c.built.new.large c.in_ok-term.ensures.large h) c.limited.ensures.small

pub returns-clause-cause : goal.returns-clause-cause
returns-clause-cause c =
    let sig : Signature = c.args.facts.now in
    let t : RawTerm = instance_of (meant sig c.args.substitution.now) (nested sig (raw_term c.args.raw.now)) in
    let e : c.in_ok-term.term ≡ normal_form sig t = c.in_ok-term.ensures.is ∙ ap (λ s. made sig s (raw_term c.args.raw.now)) c.in_ok-values.ensures in
    IfErr-weaker c.limited.result _ _ (λ x h. cause sig c.shows.ensures t c.requires.raw c.in_ok-term.term e c.built.new.large c.in_ok-term.ensures.large x h) c.limited.ensures.cause
