-- Numbers of arguments, and the place that they give: the levels of a walk, from the innermost on, tell where what stands in the hole is found in the
-- canonical term that comes of them.
use Rattle.std.specs.Prelude.{◌≡◌, ◌<◌, ◌+◌, ℕ, suc, List, [], ◌∷◌, length, map, Bool, true, false, cond, ◌&&◌, nat_eq, Option, Some, None, option_map, unwrap_or, ⊤}
use Rattle.mw_logic.specs.Term.{RawTerm, numeral, quoted, variable, apply, RawTerms, nil, cons, join}
use Rattle.mw_logic.specs.Terms.{list_of, args_of}
use Rattle.mw_logic.specs.Signature.{Signature, at_number}
use Rattle.mw_logic.specs.Parts.{is_assoc, number_of_terms}
use Rattle.mw_logic.specs.TermOrder.{stands_after}
use Rattle.mw_logic.specs.NormalForm.{is_comm}
use Rattle.mw_logic.specs.CanonicalPart.{IsOpen}
use Rattle.mw_logic.proofs.Canonical.{IsCanonical}
use Rattle.mw_deduction.specs.Standing.{Open, AreClear, IsSeen}
use Rattle.mw_redex.specs.Paths.{at_path}
use Rattle.mw_redex.specs.Replaced.{ReplacesAt}
use Rattle.mw_spot.specs.Walks.{AreOrderly}

-- Where arguments of the operator at the path are taken, they are not all of them.
abbrev pub TakesPart : List ℕ → Option (List ℕ) → RawTerm → Type 0
TakesPart path take t = (ks : List ℕ) (f : ℕ) (ts : RawTerms) → take ≡ Some ks → at_path t path ≡ Some (apply f ts) → length ks < number_of_terms ts

-- w is replaced at such a place
pub record ReplacesPart (sig : Signature) (by_rule : Bool) (w x : RawTerm) (path : List ℕ) (take : Option (List ℕ)) (v y : RawTerm) : Type 0 where
  pub there : ReplacesAt sig by_rule w x path take v y
  pub part : TakesPart path take v

-- how many of the terms, from the first on, stand before t
abbrev pub below : RawTerm → RawTerms → ℕ
below t nil = 0
below t (cons u us) = cond (stands_after t u) (suc (below t us)) 0

-- how many arguments stand before t where it comes among those beside the hole
abbrev pub place : Signature → Open → RawTerm → ℕ
place sig o t = cond (is_comm sig o.operator) (below t (join o.before o.after)) (number_of_terms o.before)

-- the same of several holes, each in the next operator
abbrev pub places : Signature → List Open → RawTerm → ℕ
places sig [] t = 0
places sig (o ∷ os) t = place sig o t + places sig os t

-- Terms come together among others, of which so many (`at`) stand before each. Their numbers then; the first of them has number i among them.
abbrev pub numbers : (RawTerm → ℕ) → ℕ → RawTerms → List ℕ
numbers at i nil = []
numbers at i (cons e es) = (at e + i) ∷ numbers at (suc i) es

-- the number of the one that has number j among them
abbrev pub number_of : (RawTerm → ℕ) → RawTerms → ℕ → ℕ
number_of at es j = unwrap_or (option_map (λ e. at e + j) (at_number (list_of es) j)) j

-- f stands on top, with arguments
abbrev pub stands_on : ℕ → RawTerm → Bool
stands_on f (numeral n) = false
stands_on f (quoted q) = false
stands_on f (variable x) = false
stands_on f (apply g nil) = false
stands_on f (apply g (cons t ts)) = nat_eq f g

-- t comes there as its arguments
abbrev pub is_spread : Signature → Open → RawTerm → Bool
is_spread sig o t = is_assoc sig o.operator && stands_on o.operator t

-- a place in what these terms are under the operator, as a place beside the others
abbrev pub spread_path : (RawTerm → ℕ) → RawTerms → List ℕ → List ℕ
spread_path at es [] = []
spread_path at es (j ∷ path) = number_of at es j ∷ path

abbrev pub spread_take : (RawTerm → ℕ) → RawTerms → List ℕ → Option (List ℕ) → Option (List ℕ)
spread_take at es [] None = Some (numbers at 1 es)
spread_take at es [] (Some ks) = Some (map (number_of at es) ks)
spread_take at es (j ∷ path) take = take

-- a place in t, as a place in what the operator is with t among its arguments: as t's own arguments (`spread`), or as one
abbrev pub raised_path : (RawTerm → ℕ) → Bool → RawTerm → List ℕ → List ℕ
raised_path at spread t path = cond spread (spread_path at (args_of t) path) ((at t + 1) ∷ path)

abbrev pub raised_take : (RawTerm → ℕ) → Bool → RawTerm → List ℕ → Option (List ℕ) → Option (List ℕ)
raised_take at spread t path take = cond spread (spread_take at (args_of t) path take) take

-- a hole of the same operator, which is associative
abbrev pub IsAnother : Signature → ℕ → Open → Type 0
IsAnother sig f o = (is_assoc sig f ≡ true) × (o.operator ≡ f)

abbrev pub AreMore : Signature → ℕ → List Open → Type 0
AreMore sig f [] = ⊤
AreMore sig f (o ∷ os) = IsAnother sig f o × AreMore sig f os

-- what stands before the holes, from the outermost on, and behind them, from the innermost on
abbrev pub all_before : List Open → RawTerms
all_before [] = nil
all_before (o ∷ os) = join (all_before os) o.before

abbrev pub all_after : List Open → RawTerms
all_after [] = nil
all_after (o ∷ os) = join o.after (all_after os)

-- the holes may be changed, each in its operator: for rules (`by_rule`) none is frozen
abbrev pub AreOpenHoles : Signature → Bool → List Open → Type 0
AreOpenHoles sig by_rule [] = ⊤
AreOpenHoles sig by_rule (o ∷ os) = IsOpen sig by_rule o.operator (suc (number_of_terms o.before)) × AreOpenHoles sig by_rule os

-- t stands in the innermost of these holes
pub record StandsIn (sig : Signature) (by_rule : Bool) (os : List Open) (t : RawTerm) : Type 0 where
  pub orderly : AreOrderly sig os
  pub clear : AreClear sig os
  pub open_holes : AreOpenHoles sig by_rule os
  pub canonical : IsCanonical sig t
  pub seen : IsSeen sig os t

-- an operator under which each argument stays where it is, and as it is
abbrev pub IsFree : Signature → Open → Type 0
IsFree sig o = (is_assoc sig o.operator ≡ false) × (is_comm sig o.operator ≡ false)

-- a path through holes that stay where they are
abbrev pub passed : List Open → List ℕ → List ℕ
passed [] path = path
passed (o ∷ os) path = passed os ((number_of_terms o.before + 1) ∷ path)
