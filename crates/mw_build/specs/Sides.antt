-- The equations and rules among a module's statements.
use Rattle.std.specs.Prelude.{ℕ, List, [], ◌∷◌, ◌++◌, Bool, map}
use Rattle.mw_lex.specs.declared.token.Token.{Token}
use Rattle.mw_module.specs.Conditions.{WrittenFragment, seen_fragments}
use Rattle.mw_module.specs.Forms.{Shape, Sorts, Subsorts, Operators, Variables, Statement, Import, Class}
use Rattle.mw_module.specs.Units.{SeenLined}
use Rattle.mw_build.specs.declared.statements.WrittenStatement.{WrittenStatement}

-- an equation or a rule: its line, its sides as tokens, the fragments of its condition, and whether it is executable
pub record Sides : Type 0 where
  pub line : ℕ
  pub rule : Bool
  pub left : List Token
  pub right : List Token
  pub fragments : List WrittenFragment
  pub executable : Bool

abbrev pub sides_in : ℕ → Shape → List Sides
sides_in line (Sorts names) = []
sides_in line (Subsorts groups) = []
sides_in line (Operators names args result said) = []
sides_in line (Variables names S) = []
sides_in line (Statement rule left right fragments executable) = record { line = line; rule = rule; left = left; right = right; fragments = fragments; executable = executable } ∷ []
sides_in line (Import m) = []
sides_in line (Class c as_) = []

-- all of them, in order
abbrev pub sides_of : List SeenLined → List Sides
sides_of [] = []
sides_of (s ∷ rest) = sides_in s.line s.shape ++ sides_of rest

abbrev pub seen_sides : WrittenStatement → Sides
seen_sides e = record { line = e.line; rule = e.rule; left = e.left.now; right = e.right.now; fragments = seen_fragments e.fragments.now; executable = e.executable }

abbrev pub all_seen_sides : List WrittenStatement → List Sides
all_seen_sides = map seen_sides
