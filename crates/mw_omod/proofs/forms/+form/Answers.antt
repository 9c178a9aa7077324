use Rattle.std.proofs.Common.{◌∙◌, ap, sym}
use Rattle.mw_logic.specs.NormalForm.{applied_in, normal_form, normal_forms}
use Rattle.mw_logic.specs.Terms.{terms_of}
use Rattle.mw_term.specs.Raws.{raw_term}
use Rattle.mw_omod.proofs.Arguments.{if_ok}
use Rattle.mw_omod.proofs.Moving.{forms_told}
use Rattle.mw_omod.proofs.forms.+form.Goals as goal

pub form-returns-in_ok-made-in-Op : goal.form-returns-in_ok-made-in-Op
form-returns-in_ok-made-in-Op t c =
    let sig = c.args.facts.now in
    if_ok c.rebuild.result (λ u e. e
    ∙ ap (applied_in sig c.in-Op.operator) (ap terms_of c.in_ok-made-in-Op.ensures ∙ forms_told sig c.as_slice.result.now ∙ ap (normal_forms sig) c.as_slice.ensures)
    ∙ ap (λ r. normal_form sig (raw_term r)) (sym c.in-Op.is)) c.rebuild.ensures
