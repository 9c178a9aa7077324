use Rattle.std.proofs.Common.{◌≡◌, ◌∙◌, sym, inl, inr}
use Rattle.mw_builtin.specs.declared.schema.Schema.TheVariants.{Equality, Inequality}
use Rattle.mw_builtin.specs.Steps.{IsTestOf}
use Rattle.mw_builtin.proofs.table.Schemata.test.Goals as goal

pub returns-in_default : goal.returns-in_default
returns-in_default c sig a = by_case
  where
    by_case : IsTestOf sig c.args.operator → ⊥
    by_case (inl h) = absurd (c.in_default.not-Equality (c.schema.ensures ∙ sym ((a.schemas c.args.operator).only Equality h)))
    by_case (inr h) = absurd (c.in_default.not-Inequality (c.schema.ensures ∙ sym ((a.schemas c.args.operator).only Inequality h)))
