use Rattle.std.proofs.Common.{◌∙◌, sym, subst}
use Rattle.mw_builtin.specs.Schemata.{IsSchemaOf}
use Rattle.mw_builtin.proofs.Denoting.{sums, no_sums}
use Rattle.mw_builtin.proofs.table.Schemata.sum.Goals as goal

pub returns-in-Number : goal.returns-in-Number
returns-in-Number c sig a = sums sig c.args.operator c.in-Number.on_numbers c.sum_of.result (subst (IsSchemaOf sig c.args.operator) (sym c.schema.ensures ∙ c.in-Number.is) (a.schemas c.args.operator)) c.sum_of.ensures

pub returns-in_default : goal.returns-in_default
returns-in_default c sig a = no_sums sig c.args.operator c.schema.result (subst (IsSchemaOf sig c.args.operator) (sym c.schema.ensures) (a.schemas c.args.operator)) c.in_default.not-Number
