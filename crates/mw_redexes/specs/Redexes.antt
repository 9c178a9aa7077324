-- How far rules are asked at the parts of a term.
use Rattle.std.specs.Prelude.{◌≡◌, ◌⊎◌, ◌<◌, ℕ, List, [], true, Option, Some, slice_get, length}
use Rattle.mw_logic.specs.Term.{RawTerm, RawTerms, apply}
use Rattle.mw_logic.specs.Signature.{Member}
use Rattle.mw_logic.specs.CanonicalPart.{IsOpen}
use Rattle.mw_logic.specs.Substitution.{Substitution, IsSolution}
use Rattle.mw_logic.specs.Parts.{nested}
use Rattle.mw_logic.specs.Module.{Module, Statement, IsStatement}
use Rattle.mw_solving.specs.Values.{IsValue}
use Rattle.mw_redex.specs.Paths.{at_path}
use Rattle.mw_redex.specs.Replaced.{IsOpenWay, way_of_place}
use Rattle.mw_index.specs.Index.{Asks, IsOf, operator_of}
use Rattle.mw_index.specs.Choices.{Tried, tried_of, IsTried, IsChoice, IsKept, IsUnderWay}
use Rattle.mw_index.specs.declared.index.Rule.{Rule}
use Rattle.mw_index.specs.declared.choices.Choice.{Choice}
use Rattle.mw_index.specs.declared.choices.Choices.{Choices}
use Rattle.mw_redexes.specs.Spots.{IsOpenTop}
use Rattle.mw_redexes.specs.declared.spots.Spot.{Spot}
use Rattle.mw_redexes.specs.declared.redexes.Found.{Found}
use Rattle.mw_redexes.specs.declared.redexes.Redexes.{Redexes}

-- the parts are values
abbrev pub AreValuesAt : Module → List Spot → Type 0
AreValuesAt M spots = (s : Spot) → Member s spots → IsValue M.signature s.term.now

-- Where the rule is asked for the term v, each of its solutions for v, or for several of its arguments that rules may change, is tried.
abbrev pub AreTriedOpen : Module → RawTerm → List Tried → Rule → Type 0
AreTriedOpen M v tried r =
    Asks r.section (operator_of v) → (e : Statement) → IsStatement M r.by.number e → (w : RawTerm) → IsOpenTop M.signature v w → (s : Substitution) → IsSolution M.signature e.left (nested M.signature w) [] s
    → IsTried M.signature tried r.by.number e s

-- a choice of a rule at the term v, which takes several arguments only where rules may change them
pub record IsFoundAt (M : Module) (v : RawTerm) (c : Choice) : Type 0 where
  pub choice : IsChoice M v c
  pub sized : length c.values.items ≡ length c.by.now.sorts
  pub rule : c.by.now.rule ≡ true
  pub free : (ks : List ℕ) (f : ℕ) (ts : RawTerms) → c.take ≡ Some ks → v ≡ apply f ts → IsOpen M.signature true f 1

-- The choice is one of a rule at the part of t to which the path leads, or at several of its arguments. Rules may change what stands there.
pub record IsRedexAt (M : Module) (t : RawTerm) (path : List ℕ) (c : Choice) : Type 0 where
  pub part : RawTerm
  pub there : at_path t path ≡ Some part
  pub open_way : IsOpenWay M.signature true (way_of_place path c.take) t
  pub found : IsFoundAt M part c
  pub top : Option ℕ
  pub of : IsOf M top c.by.now

-- c takes several arguments of v that rules may not change
pub record IsShut (M : Module) (v : RawTerm) (c : Tried) : Type 0 where
  pub choice : Choice
  pub is : tried_of choice ≡ c
  pub chosen : IsChoice M v choice
  pub numbers : List ℕ
  pub takes : choice.take ≡ Some numbers
  pub operator : ℕ
  pub args : RawTerms
  pub term : v ≡ apply operator args
  pub shut : IsOpen M.signature true operator 1 → ⊥

-- The rule is asked at the term v: what was answered is tried, but for what is left aside.
pub record IsAskedThere (M : Module) (v : RawTerm) (r : Rule) (tried : List Tried) (c : Choices) : Type 0 where
  pub answered : List Tried
  pub kept : IsKept v c.subject
  pub under_way : IsUnderWay M v answered r.by c
  pub all : (x : Tried) → Member x answered → Member x tried ⊎ IsShut M v x

-- a choice of a rule at a part
pub record IsFoundIn (M : Module) (spots : List Spot) (f : Found) : Type 0 where
  pub spot : Spot
  pub there : slice_get spots f.at ≡ Some spot
  pub found : IsFoundAt M spot.term.now f.choice

-- Rules before this one are tried at all parts, and this one at the parts before.
pub record AreBehind (M : Module) (rules : List Rule) (spots : List Spot) (tried : List Tried) (rule at : ℕ) : Type 0 where
  pub passed : (i : ℕ) (r : Rule) → i < rule → slice_get rules i ≡ Some r → (s : Spot) → Member s spots → AreTriedOpen M s.term.now tried r
  pub before : (r : Rule) → slice_get rules rule ≡ Some r → (j : ℕ) (s : Spot) → j < at → slice_get spots j ≡ Some s → AreTriedOpen M s.term.now tried r

-- so far rules are asked; at the part where it stands the present one is asked
pub record AreAsked (M : Module) (rules : List Rule) (spots : List Spot) (tried : List Tried) (x : Redexes) : Type 0 where
  pub behind : AreBehind M rules spots tried x.rule x.at
  pub here : (r : Rule) (s : Spot) → slice_get rules x.rule ≡ Some r → slice_get spots x.at ≡ Some s → IsAskedThere M s.term.now r tried x.choices

-- all rules are tried at all parts
abbrev pub AreAllAsked : Module → List Rule → List Spot → List Tried → Type 0
AreAllAsked M rules spots tried = (r : Rule) → Member r rules → (s : Spot) → Member s spots → AreTriedOpen M s.term.now tried r
