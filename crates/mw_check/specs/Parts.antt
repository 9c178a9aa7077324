-- What stands at a place of a term.
use Rattle.std.specs.Prelude.{◌≡◌, ◌<◌, ◌≤◌, ℕ, suc, Bool, false, List, length}
use Rattle.mw_logic.specs.Term.{RawTerm, RawTerms, apply}
use Rattle.mw_logic.specs.Signature.{Signature}
use Rattle.mw_logic.specs.Parts.{number_of_terms}
use Rattle.mw_arguments.specs.Places.{Takes, Rise, Follow}
use Rattle.mw_redex.specs.Replaced.{IsPartAt}
use Rattle.mw_items.specs.Items.{Spot}
use Rattle.mw_prooftext.specs.Passing.{TakesSome}

-- the part of t at the place, of which not all arguments are taken
pub record StandsAt (sig : Signature) (at : Spot) (t w : RawTerm) : Type 0 where
  pub part : IsPartAt sig at.path at.take t w
  pub some : TakesSome at t

-- two or more arguments of an associative operator are taken of t, but not all
pub record TakesSeveral (sig : Signature) (ks : List ℕ) (t w : RawTerm) : Type 0 where
  pub takes : Takes sig ks t w
  pub some : (f : ℕ) (ts : RawTerms) → t ≡ apply f ts → length ks < number_of_terms ts

-- Two or more of so many arguments, but not all, which rise, and are neighbours where order counts.
pub record MayBeTaken (comm : Bool) (count : ℕ) (ks : List ℕ) : Type 0 where
  pub two : 2 ≤ length ks
  pub some : length ks < count
  pub rise : Rise 1 (suc count) ks
  pub follow : comm ≡ false → Follow ks
