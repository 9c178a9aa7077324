use Rattle.std.proofs.Common.{◌∙◌, ap, sym, subst}
use Rattle.mw_term.specs.Shapes.{viewed}
use Rattle.mw_builtin.specs.Schemata.{IsNamedTruth}
use Rattle.mw_builtin.specs.declared.schema.Schema.TheVariants.{Truth}
use Rattle.mw_builtin.proofs.Denoting.{same_constant, has_none}
use Rattle.mw_builtin.proofs.table.Schemata.truth.Goals as goal

pub returns-then-not-is_empty : goal.returns-then-not-is_empty
returns-then-not-is_empty c sig a b (k, e, named) =
    has_none c.in-Op.args.now c.is_empty.result c.is_empty.ensures c.if-not-is_empty.true (same_constant c.in-Op.args.now (sym (c.view.ensures ∙ ap viewed c.in-Op.is) ∙ e)).1

pub returns-in_default-schema : goal.returns-in_default-schema
returns-in_default-schema c sig a b (k, e, named) =
    let same = same_constant c.in-Op.args.now (sym (c.view.ensures ∙ ap viewed c.in-Op.is) ∙ e) in
    c.in_default-schema.not-Truth b (c.schema.ensures ∙ sym ((a.schemas c.in-Op.operator).only (Truth b) (subst (IsNamedTruth sig b) (sym same.0) named)))
