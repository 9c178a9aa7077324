-- The arguments that are left where rows are met at two of them at a time.
use Rattle.std.specs.Prelude.{◌≡◌, ℕ}
use Rattle.mw_logic.specs.Term.{RawTerm, RawTerms, nil, cons, join}
use Rattle.mw_logic.specs.TermOrder.{sorted_terms}
use Rattle.mw_logic.proofs.SortedLists.{Climbs}
use Rattle.mw_frames.specs.State.{Run}
use Rattle.mw_frames.specs.Pairs.{IsPairMet}

-- t is the first of those in two lists in order, and these are the others
pub record IsFirst (own made : RawTerms) (t : RawTerm) (own' made' : RawTerms) : Type 0 where
  pub sorted : sorted_terms (join own made) ≡ cons t (sorted_terms (join own' made'))
  pub own_order : Climbs own'
  pub made_order : Climbs made'

-- so are two of them, and there are more
pub record AreFirst (own made : RawTerms) (x y : RawTerm) (own' made' : RawTerms) : Type 0 where
  pub sorted : sorted_terms (join own made) ≡ cons x (cons y (sorted_terms (join own' made')))
  pub own_order : Climbs own'
  pub made_order : Climbs made'
  pub next : RawTerm
  pub others : RawTerms
  pub more : sorted_terms (join own' made') ≡ cons next others

-- a row makes a number of them, which comes behind what was made before
pub record IsJoined (K : Run) (f : ℕ) (own made : RawTerms) (to : RawTerm) (own' made' : RawTerms) : Type 0 where
  pub first : RawTerm
  pub second : RawTerm
  pub are_first : AreFirst own made first second own' made'
  pub met : IsPairMet K f first second to
  pub last : Climbs (join made' (cons to nil))
