use Rattle.std.proofs.Common.{◌∙◌, sym, ap, Some}
use Rattle.mw_logic.specs.Signature.{constant_of}
use Rattle.mw_logic.specs.NormalForm.{is_identity}
use Rattle.mw_term.specs.Shapes.{viewed}
use Rattle.mw_canon.proofs.Listing.{constant_alone}
use Rattle.mw_canon.proofs.elements.is_constant.Goals as goal

pub returns-then-f-constant : goal.returns-then-f-constant
returns-then-f-constant c =
    c.is_empty.ensures ∙ sym (constant_alone c.args.constant c.in-Op.f c.in-Op.args.now (sym c.if-f-constant.true))
    ∙ ap (is_identity (Some (constant_of c.args.constant))) (sym (c.view.ensures ∙ ap viewed c.in-Op.is))
