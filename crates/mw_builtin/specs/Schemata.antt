-- Which schema an operator has, and a table of the schemata of all operators with the truth values.
use Rattle.std.specs.Prelude.{◌≡◌, ◌⊎◌, ℕ, List, [], Bool, true, false, cond, Option, Some, None, unwrap_or, codes}
use Rattle.mw_logic.specs.Signature.{Signature, at_number}
use Rattle.mw_logic.specs.Module.{BuiltIn as OnNumbers, plus, times, difference, quotient, remainder, least, greatest, less_than, at_most, more_than, at_least, IsBuiltIn, IsNamed, IsPolymorphic}
use Rattle.mw_builtin.specs.declared.schema.BuiltIn.{BuiltIn}
use Rattle.mw_builtin.specs.declared.schema.BuiltIn.TheVariants.{Plus, Times, Difference, Quotient, Remainder, Least, Greatest, LessThan, AtMost, MoreThan, AtLeast}
use Rattle.mw_builtin.specs.declared.schema.Schema.{Schema}
use Rattle.mw_builtin.specs.declared.schema.Schema.TheVariants.{Nothing, Number, Equality, Inequality, Choice, Truth}
use Rattle.mw_builtin.specs.declared.table.Schemata.{Schemata}
use Rattle.mw_builtin.specs.declared.table.Sum.{Sum}
use Rattle.mw_builtin.specs.declared.table.Sum.TheVariants as sums

-- the operator on numbers that is meant
abbrev pub on_numbers : BuiltIn → OnNumbers
on_numbers Plus = plus
on_numbers Times = times
on_numbers Difference = difference
on_numbers Quotient = quotient
on_numbers Remainder = remainder
on_numbers Least = least
on_numbers Greatest = greatest
on_numbers LessThan = less_than
on_numbers AtMost = at_most
on_numbers MoreThan = more_than
on_numbers AtLeast = at_least

abbrev pub of_sum : Sum → OnNumbers
of_sum sums.Plus = plus
of_sum sums.Times = times

-- c is the constant `true`, or `false`
abbrev pub IsNamedTruth : Signature → Bool → ℕ → Type 0
IsNamedTruth sig b c = IsNamed sig c (cond b (codes "true") (codes "false")) [] (codes "Bool")

-- operator number f computes by this schema
abbrev pub Computes : Signature → ℕ → Schema → Type 0
Computes sig f Nothing = ⊥
Computes sig f (Number b) = IsBuiltIn sig f (on_numbers b)
Computes sig f Equality = IsPolymorphic sig f (codes "_==_")
Computes sig f Inequality = IsPolymorphic sig f (codes "_=/=_")
Computes sig f Choice = IsPolymorphic sig f (codes "if_then_else_fi")
Computes sig f (Truth b) = IsNamedTruth sig b f

-- f's only schema, or that it has none
pub record IsSchemaOf (sig : Signature) (f : ℕ) (schema : Schema) : Type 0 where
  pub computes : (schema ≡ Nothing) ⊎ Computes sig f schema
  pub only : (other : Schema) → Computes sig f other → other ≡ schema

-- a constant for this truth value, or that there is none
abbrev pub IsConstantFor : Signature → Bool → Option ℕ → Type 0
IsConstantFor sig b None = (c : ℕ) → IsNamedTruth sig b c → ⊥
IsConstantFor sig b (Some c) = IsNamedTruth sig b c

-- each operator has the schema of its row
abbrev pub AreSchemas : Signature → List Schema → Type 0
AreSchemas sig rows = (f : ℕ) → IsSchemaOf sig f (unwrap_or (at_number rows f) Nothing)

-- a signature's schemata and truth values
pub record AreSchemataOf (sig : Signature) (s : Schemata) : Type 0 where
  pub schemas : AreSchemas sig s.rows
  pub yes : IsConstantFor sig true s.yes
  pub no : IsConstantFor sig false s.no
