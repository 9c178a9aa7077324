-- All solutions of a pattern that extend a substitution, each once: among candidates, told by their values' sorts.
use Rattle.std.specs.Prelude.{ℕ, ◌≡◌, Bool, List, ◌++◌, Option, Some, slice_get, option_to_list}
use Rattle.std.specs.List.{zip}
use Rattle.mw_logic.specs.Term.{Variable, RawTerm}
use Rattle.mw_logic.specs.Signature.{Signature, Member}
use Rattle.mw_logic.specs.Substitution.{Substitution, SameSolution}
use Rattle.mw_canon.specs.Canonical.{meant}
use Rattle.mw_position.specs.Variables.{bound_variables, bound_values}
use Rattle.mw_matching.specs.Found.{Values}
use Rattle.mw_solving.specs.Values.{AreValues}
use Rattle.mw_solving.specs.Inside.{IsSolutionOf, Entry}
use Rattle.mw_search.specs.Lacking.{HaveTheirSorts, OneLacksItsSort, Skips}
use Rattle.mw_search.specs.Searches.{Matches}
use Rattle.mw_match.specs.declared.solutions.Solution.{Solution}

-- Solutions that are still to come: candidates, in order. Those are solutions whose new values have their variables'
-- sorts; the first values were given.
pub record Coming : Type 0 where
  pub signature : Signature
  pub sorts : List ℕ
  pub given : ℕ
  pub candidates : List Solution

-- the values of its variables, in order
abbrev pub values : Solution → List RawTerm
values r = bound_values r.subst

-- each new value of r has its sort
abbrev pub FitsSorts : Coming → Solution → Type 0
FitsSorts c r = HaveTheirSorts c.signature c.sorts c.given (values r)

-- a new value of r lacks its sort
abbrev pub Lacks : Coming → Solution → Type 0
Lacks c r = OneLacksItsSort c.signature c.sorts c.given (values r)

-- the list is what is still to come behind some that lack a sort
abbrev pub PassesTo : Coming → List Solution → Type 0
PassesTo c rest = Skips (Lacks c) c.candidates rest

-- Solutions of p for t that extend s0: for the whole of t, and (`inside`) for its proper parts on top. A candidate whose new values have their sorts is a
-- solution for what it takes, and one with a new value that lacks its sort is none; each solution is such a candidate modulo the axioms, and no two candidates
-- of one part are the same one.
pub record IsAllSolutions (sig : Signature) (inside : Bool) (p t : RawTerm) (s0 : Substitution) (c : Coming) : Type 0 where
  pub sound : (r : Solution) → Member r c.candidates → FitsSorts c r → IsSolutionOf sig inside p t s0 r.take (meant sig r.subst)
  pub lacking : (r : Solution) → Member r c.candidates → Lacks c r → IsSolutionOf sig inside p t s0 r.take (meant sig r.subst) → ⊥
  pub complete : (ks : Option (List ℕ)) (s : Substitution) → IsSolutionOf sig inside p t s0 ks s
      → (r : Solution) × Member r c.candidates × FitsSorts c r × (r.take ≡ ks) × SameSolution sig s (meant sig r.subst)
  pub once : (i j : ℕ) (q r : Solution) → slice_get c.candidates i ≡ Some q → slice_get c.candidates j ≡ Some r → q.take ≡ r.take
      → SameSolution sig (meant sig q.subst) (meant sig r.subst) → i ≡ j

-- the candidate of values by position, and of what they take
abbrev pub candidate : List Variable → Entry → Solution
candidate xs e = record { subst = zip xs e.1; take = e.0 }

-- a match at hand, if there is one, and those behind it
abbrev pub matches_of : Option Values → List Values → List Values
matches_of found coming = option_to_list found ++ coming

-- a new value of a match lacks its sort
abbrev pub LacksBySearch : Matches → Values → Type 0
LacksBySearch m vs = OneLacksItsSort m.signature m.sorts m.given vs

-- Each candidate has these variables, and its values are canonical terms that mean ground raw terms.
abbrev pub AreNamed : Signature → List Variable → Coming → Type 0
AreNamed sig xs c = (r : Solution) → Member r c.candidates → (bound_variables r.subst ≡ xs) × AreValues sig (values r)
