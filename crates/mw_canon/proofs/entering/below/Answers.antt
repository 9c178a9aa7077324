use Rattle.std.proofs.Common.{◌∙◌, ◌==◌, ap, sym, refl}
use Rattle.std.proofs.lemmas.Bool.{both_ways}
use Rattle.mw_term.specs.Raws.{raw_term}
use Rattle.mw_canon.proofs.Waiting.{entered_own}
use Rattle.mw_canon.proofs.entering.below.Goals as goal

pub returns-else-is_empty : goal.returns-else-is_empty
returns-else-is_empty c =
    entered_own c.args.operator c.in-Op.inner (raw_term c.args.raw.now) c.in-Op.args c.in-Op.args c.as_slice-args.result.now (ap raw_term c.in-Op.is) refl c.as_slice-args.ensures c.if-inner-operator.true
    (λ e. both_ways _ (sym c.is_empty.ensures ∙ c.if-is_empty.false) (ap (λ n. n == 0) e))
