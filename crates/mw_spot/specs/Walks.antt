-- A walk: the operators that it went into, and the term in hand, where the moves of a kept proof stand.
use Rattle.std.specs.Prelude.{◌≡◌, ◌-◌, min, ℕ, List, [], ◌∷◌, take, drop, ⊤}
use Rattle.mw_logic.specs.Term.{RawTerm, RawTerms, join}
use Rattle.mw_logic.specs.Terms.{terms_of}
use Rattle.mw_logic.specs.Signature.{Signature}
use Rattle.mw_logic.specs.Parts.{number_of_terms}
use Rattle.mw_logic.specs.NormalForm.{is_comm, arranged}
use Rattle.mw_arguments.specs.Places.{others as others_of}
use Rattle.mw_deduction.specs.Standing.{Open}
use Rattle.mw_deduction.specs.Replay.{Stand}

-- the operators, the innermost first
pub record Walked : Type 0 where
  pub opens : List Open
  pub hand : RawTerm

-- an operator and the arguments beside its hole, where these stand in one list, and so many of them before the hole
abbrev pub level_of : ℕ → ℕ → List RawTerm → Open
level_of f at xs = record { operator = f; before = terms_of (take at xs); after = terms_of (drop at xs) }

-- what is left of an operator on these arguments without those that have these numbers: the hole is where the first of them stood
pub record IsLeft (f first : ℕ) (ns : List ℕ) (ts : RawTerms) (o : Open) : Type 0 where
  pub operator : o.operator ≡ f
  pub others : join o.before o.after ≡ others_of 1 ns ts
  pub before : number_of_terms o.before ≡ min (first - 1) (number_of_terms (others_of 1 ns ts))

-- the arguments beside the hole are in order where the operator is commutative
abbrev pub IsOrderly : Signature → Open → Type 0
IsOrderly sig o = arranged (is_comm sig o.operator) (join o.before o.after) ≡ join o.before o.after

abbrev pub AreOrderly : Signature → List Open → Type 0
AreOrderly sig [] = ⊤
AreOrderly sig (o ∷ os) = IsOrderly sig o × AreOrderly sig os

-- the walk stands where the moves do
pub record IsAt (sig : Signature) (w : Walked) (S : Stand) : Type 0 where
  pub opens : S.opens ≡ w.opens
  pub hand : S.hand ≡ w.hand
  pub orderly : AreOrderly sig w.opens
