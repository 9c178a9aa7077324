-- Rules that apply at parts of a term, but for those that are known to fail there.
use Rattle.std.specs.Prelude.{◌≡◌, ℕ, List, [], true, Some, IsTrue}
use Rattle.std.specs.List.{zip}
use Rattle.mw_logic.specs.Term.{Variable, RawTerm, Context}
use Rattle.mw_logic.specs.Signature.{Member}
use Rattle.mw_logic.specs.Parts.{nested, IsPartForRules}
use Rattle.mw_logic.specs.Substitution.{Substitution, value, Extends, IsSubstitution, IsSolution, SameSolution}
use Rattle.mw_logic.specs.Module.{Module, Statement, IsStatement}
use Rattle.mw_logic.specs.Judgements.{Fails}
use Rattle.mw_canon.specs.Canonical.{meant}
use Rattle.mw_position.specs.Variables.{met, bound_values}
use Rattle.mw_redex.specs.Replaced.{IsPartAt, IsOpenWay, way_of_place}
use Rattle.mw_proof.specs.Failures.{Failure, IsFailure}
use Rattle.mw_index.specs.Choices.{Tried, solution_of}
use Rattle.mw_index.specs.declared.choices.Choice.{Choice}
use Rattle.mw_reduce.specs.Attempts.{IsTriable}
use Rattle.mw_reduce.specs.Judgements.{IsAskedOf}
use Rattle.mw_rule.specs.declared.finding.Redex.{Redex}

-- r has the value of s for x, if there is one
abbrev pub Keeps : Substitution → Substitution → Variable → Type 0
Keeps s r x = (t : RawTerm) → value s x ≡ Some t → value r x ≡ Some t

-- the failure is of the statement of number k, with the values of s and no others
abbrev pub IsFailureOf : Failure → ℕ → Substitution → Type 0
IsFailureOf f k s = (f.statement ≡ k) × Extends s f.subst × Extends f.subst s

-- one of the failures is
abbrev pub IsAmong : List Failure → ℕ → Substitution → Type 0
IsAmong fs k s = (f : Failure) × Member f fs × IsFailureOf f k s

-- the redex as a choice of its rule
pub record IsChoiceOf (x : Redex) (c : Choice) : Type 0 where
  pub by : c.by.now ≡ x.by.now
  pub values : c.values.items ≡ bound_values x.subst
  pub take : c.take ≡ x.place.take

-- An executable rule has a solution for a part of t that rules may change. It is the part at the place. The rule with this solution isn't among the failures,
-- may be asked of its condition, and may be tried as a choice.
pub record IsRedexOf (M : Module) (fs : List Failure) (t : RawTerm) (x : Redex) : Type 0 where
  pub statement : Statement
  pub is_there : IsStatement M x.by.now.number statement
  pub rule : IsTrue statement.rule
  pub context : Context
  pub part : RawTerm
  pub for_rules : IsPartForRules M.signature (nested M.signature t) context (nested M.signature part)
  pub solves : IsSolution M.signature statement.left (nested M.signature part) [] (meant M.signature x.subst)
  pub place : IsPartAt M.signature x.place.path x.place.take t part
  pub open_way : IsOpenWay M.signature true (way_of_place x.place.path x.place.take) t
  pub other : IsAmong fs x.by.now.number x.subst → ⊥
  pub asked : IsAskedOf M x.by.now.number x.by.now.condition x.subst statement
  pub triable : (c : Choice) → IsChoiceOf x c → IsTriable M place.end c × (c.by.now.rule ≡ true)

-- the statement e, which has number k, is among the failures with the same solution, so its condition fails for it
pub record IsKnown (M : Module) (fs : List Failure) (k : ℕ) (e : Statement) (s : Substitution) : Type 0 where
  pub failure : Failure
  pub listed : Member failure fs
  pub number : failure.statement ≡ k
  pub same : SameSolution M.signature s (meant M.signature failure.subst)
  pub fails : Fails M 63 e.fragments s

-- so is each executable rule with each solution that it has for a part of t that rules may change
abbrev pub AreAllKnown : Module → List Failure → RawTerm → Type 0
AreAllKnown M fs t =
    (C : Context) (w : RawTerm) → IsPartForRules M.signature (nested M.signature t) C w → (k : ℕ) (r : Statement) → IsStatement M k r → IsTrue r.rule
    → (s : Substitution) → IsSolution M.signature r.left w [] s → IsKnown M fs k r s

-- What was tried is a solution of the statement e that is among the failures.
pub record IsTriedAmong (M : Module) (fs : List Failure) (c : Tried) (e : Statement) : Type 0 where
  pub substitution : IsSubstitution M.signature (solution_of M.signature e c.values)
  pub failure : Failure
  pub listed : Member failure fs
  pub is : IsFailureOf failure c.number (zip (met [] e.left) c.values)
  pub fails : IsFailure failure

abbrev pub AreTriedAmong : Module → List Failure → List Tried → Type 0
AreTriedAmong M fs tried = (c : Tried) → Member c tried → (e : Statement) → IsStatement M c.number e → IsTriedAmong M fs c e
