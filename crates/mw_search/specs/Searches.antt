-- What contracts see of a search: the matches that are still to come, and what is asked of their values.
use Rattle.std.specs.Prelude.{ℕ, List}
use Rattle.mw_logic.specs.Signature.{Signature}
use Rattle.mw_matching.specs.Found.{Values}
use Rattle.mw_search.specs.Lacking.{HaveTheirSorts, OneLacksItsSort, Skips}

-- Matches in a signature, by position, with the sorts of positions; the first values were given.
pub record Matches : Type 0 where
  pub signature : Signature
  pub sorts : List ℕ
  pub given : ℕ
  pub coming : List Values

-- the list is what is still to come behind some that lack a sort
abbrev pub SkipsTo : Matches → List Values → Type 0
SkipsTo m rest = Skips (OneLacksItsSort m.signature m.sorts m.given) m.coming rest

-- each value that wasn't given has its sort
abbrev pub FitsSorts : Matches → Values → Type 0
FitsSorts m vs = HaveTheirSorts m.signature m.sorts m.given vs
