use Rattle.std.proofs.Common.{◌∙◌, sym}
use Rattle.mw_builtin.specs.declared.schema.Schema.TheVariants.{Choice}
use Rattle.mw_builtin.proofs.table.Schemata.is_choice.Goals as goal

pub returns-in_default : goal.returns-in_default
returns-in_default c sig a = (λ t. cc, λ h. absurd (c.in_default.not-Choice (c.schema.ensures ∙ sym ((a.schemas c.args.operator).only Choice h))))
