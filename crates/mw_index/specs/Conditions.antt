-- Conditions as they are tested: fragments by their canonical sides, with positions for the variables in the order in which they are bound.
use Rattle.std.specs.Prelude.{◌≡◌, ◌||◌, List, [], ◌∷◌, map, MatchOption, IsTrue, ⊤}
use Rattle.mw_logic.specs.Term.{Variable, RawTerm}
use Rattle.mw_logic.specs.Signature.{Signature}
use Rattle.mw_logic.specs.Module.{Fragment, equal, matches, has_sort, is_true, Statement}
use Rattle.mw_logic.specs.NormalForm.{normal_form}
use Rattle.mw_logic.specs.Confluence.{AreBound}
use Rattle.mw_position.specs.Variables.{is_in, met, place, placed, AreDistinct}
use Rattle.mw_pattern.specs.Clean.{clean}
use Rattle.mw_term.specs.Signatures.{sorted_of}
use Rattle.mw_compile.specs.Compiled.{IsCompiled, AreAmong}
use Rattle.mw_least.specs.Conditions.{occurs_among, AreRawFragments}
use Rattle.mw_canon.specs.Free.{IsFree}
use Rattle.mw_index.specs.declared.conditions.Side.{Side}
use Rattle.mw_index.specs.declared.conditions.Matched.{Matched}
use Rattle.mw_index.specs.declared.conditions.Test.{Test}
use Rattle.mw_index.specs.declared.conditions.Test.TheVariants as test
use Rattle.mw_index.specs.declared.conditions.Condition.{Condition}

-- s is the canonical form of t, with positions for the variables xs
pub record IsSideOf (sig : Signature) (xs : List Variable) (t : RawTerm) (s : Side) : Type 0 where
  pub pattern : clean s.pattern ≡ placed xs (normal_form sig t)
  pub free : IsTrue s.free → IsFree sig (clean s.pattern)

-- m matches the pattern l, behind the variables xs, with t
pub record IsMatchOf (sig : Signature) (xs : List Variable) (l t : RawTerm) (m : Matched) : Type 0 where
  pub compiled : IsCompiled sig (normal_form sig l) xs m.compiled
  pub side : IsSideOf sig xs t m.side

-- the test of a fragment where the variables xs are bound
abbrev pub IsTestOf : Signature → List Variable → Fragment → Test → Type 0
IsTestOf sig xs (equal u v) (test.Equal p q) = IsSideOf sig xs u p × IsSideOf sig xs v q
IsTestOf sig xs (matches l t) (test.Match m) = IsMatchOf sig xs l t m.value
IsTestOf sig xs (has_sort t S) (test.HasSort p T) = IsSideOf sig xs t p × (sorted_of T ≡ S)
IsTestOf sig xs (is_true b) (test.Holds p) = IsSideOf sig xs b p
IsTestOf sig xs f t = ⊥

-- the variables that are bound behind a test, where xs are bound before it
abbrev pub bound_by : List Variable → Test → List Variable
bound_by xs (test.Match m) = m.value.compiled.variables
bound_by xs t = xs

-- tests of fragments one by one
abbrev pub AreTests : Signature → List Variable → List Fragment → List Test → Type 0
AreTests sig xs [] [] = ⊤
AreTests sig xs (f ∷ C) (t ∷ ts) = IsTestOf sig xs f t × AreTests sig (bound_by xs t) C ts
AreTests sig xs C ts = ⊥

-- the variables that are bound behind all tests
abbrev pub all_bound : List Variable → List Test → List Variable
all_bound xs [] = xs
all_bound xs (t ∷ ts) = all_bound (bound_by xs t) ts

-- The condition of a statement, where the variables of its left side are bound before it. In the end all variables of the statement are bound: in their order,
-- or in one that `order` tells.
pub record IsConditionOf (sig : Signature) (e : Statement) (c : Condition) : Type 0 where
  pub tests : AreTests sig (met [] e.left) e.fragments c.tests
  pub order : MatchOption c.order (all_bound (met [] e.left) c.tests ≡ e.variables) (λ ns. ns ≡ map (λ x. place x (all_bound (met [] e.left) c.tests)) e.variables)

-- each side of a fragment has variables that are bound
abbrev pub AreSidesAmong : Signature → List Variable → Fragment → Type 0
AreSidesAmong sig xs (equal u v) = AreAmong xs (normal_form sig u) × AreAmong xs (normal_form sig v)
AreSidesAmong sig xs (matches l t) = AreAmong xs (normal_form sig t)
AreSidesAmong sig xs (has_sort t S) = AreAmong xs (normal_form sig t)
AreSidesAmong sig xs (is_true b) = AreAmong xs (normal_form sig b)

-- Fragments whose turn comes: their sides are raw terms, whose variables are bound in turn, and all variables are among those of the statement.
pub record AreReady (sig : Signature) (all xs : List Variable) (C : List Fragment) : Type 0 where
  pub raw : AreRawFragments sig C
  pub in_turn : AreBound (λ x. is_in x xs) C
  pub distinct : AreDistinct xs
  pub among : (x : Variable) → IsTrue (is_in x xs || occurs_among x C) → IsTrue (is_in x all)
