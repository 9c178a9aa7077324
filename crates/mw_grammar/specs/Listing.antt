-- Sorts listed by the numbers of names.
use Rattle.std.specs.Prelude.{ℕ, ◌≡◌, ◌≤◌, ◌+◌, ◌⊎◌, ◌↔◌, List, [], length}
use Rattle.std.specs.Global.{Global}
use Rattle.std.specs.declared.vec.Vec.{Vec}
use Rattle.mw_logic.specs.Signature.{Member}
use Rattle.mw_chart.specs.Listed.{inner}
use Rattle.mw_text.specs.Interned.{number_of}

-- the sort is listed by the name
abbrev pub IsListed : List (List ℕ) → List (Vec ℕ Global) → List ℕ → ℕ → Type 0
IsListed names lists n S = Member S (inner lists (number_of names n))

-- The lists are those of names: nothing is listed at 0, which no name has.
pub record AreLists (names : List (List ℕ)) (lists : List (Vec ℕ Global)) : Type 0 where
  pub none : inner lists 0 ≡ []
  pub count : length lists ≤ length names + 1

-- each name's list has exactly the sorts that are its own
pub record Lists (names : List (List ℕ)) (lists : List (Vec ℕ Global)) (Own : List ℕ → ℕ → Type 0) : Type 0 where
  pub are : AreLists names lists
  pub own : (n : List ℕ) (S : ℕ) → IsListed names lists n S ↔ Own n S

-- what was listed before, and this sort by this name
abbrev pub OneMore : List (List ℕ) → List (Vec ℕ Global) → List ℕ → ℕ → List ℕ → ℕ → Type 0
OneMore names lists name T n S = IsListed names lists n S ⊎ ((n ≡ name) × (S ≡ T))
