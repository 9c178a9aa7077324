use Rattle.std.proofs.Common.{◌∙◌, ap, sym}
use Rattle.mw_logic.specs.Term.{apply}
use Rattle.mw_term.specs.Raws.{raw_term}
use Rattle.mw_omod.proofs.Moving.{same_terms}
use Rattle.mw_omod.proofs.copying.+copied.Goals as goal

pub copied-returns-in_ok-args-in-Op : goal.copied-returns-in_ok-args-in-Op
copied-returns-in_ok-args-in-Op t c =
    ap (apply c.in-Op.operator) (c.of.ensures ∙ same_terms c.in_ok-args-in-Op.args.items c.as_slice.result.now c.in_ok-args-in-Op.ensures ∙ c.as_slice.ensures) ∙ ap raw_term (sym c.in-Op.is)
