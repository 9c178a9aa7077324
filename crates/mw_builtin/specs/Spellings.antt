-- How the operators of each schema are spelled.
use Rattle.std.specs.Prelude.{◌≡◌, ℕ, List, cond, codes}
use Rattle.mw_logic.specs.Module.{spelling_of}
use Rattle.mw_builtin.specs.declared.schema.Schema.{Schema}
use Rattle.mw_builtin.specs.declared.schema.Schema.TheVariants.{Nothing, Number, Equality, Inequality, Choice, Truth}
use Rattle.mw_builtin.specs.Schemata.{on_numbers}

abbrev pub IsSpelled : Schema → List ℕ → Type 0
IsSpelled Nothing x = ⊥
IsSpelled (Number b) x = spelling_of (on_numbers b) ≡ x
IsSpelled Equality x = codes "_==_" ≡ x
IsSpelled Inequality x = codes "_=/=_" ≡ x
IsSpelled Choice x = codes "if_then_else_fi" ≡ x
IsSpelled (Truth b) x = cond b (codes "true") (codes "false") ≡ x
