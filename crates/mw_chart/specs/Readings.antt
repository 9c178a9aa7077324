-- Lists of what a whole text spells.
use Rattle.std.specs.Prelude.{ℕ, ◌≡◌, ◌≤◌, List, Some}
use Rattle.std.specs.List.{slice_get}
use Rattle.mw_chart.specs.Tree.{Tree}
use Rattle.mw_chart.specs.Spelling.{NextAt}
use Rattle.mw_chart.specs.Chart.{Has}
use Rattle.mw_chart.specs.Answer.{IsOf}
use Rattle.mw_chart.specs.declared.parsing.Places.{Places}
use Rattle.mw_chart.specs.declared.item.Constituent.{Constituent}
use Rattle.mw_chart.specs.declared.table.Next.TheVariants.{Whole}
use Rattle.mw_chart.specs.declared.table.Table.{Table}
use Rattle.mw_chart.specs.declared.reading.Reading.{Reading}
use Rattle.mw_chart.specs.declared.terminal.Terminal.{Terminal}

-- the list has the tree, as one of the kind
abbrev pub Lists : List Reading → ℕ → Tree → Type 0
Lists listed kind t = (j : ℕ) × (x : Reading) × (slice_get listed j ≡ Some x) × (x.kind ≡ kind) × (x.tree ≡ t)

-- The list has trees of kinds of trees that the text spells alone, and each of them, or two different ones of its kind.
pub record AreReadings (g : Table) (text : List Terminal) (listed : List Reading) : Type 0 where
  pub within : (kind : ℕ) (t : Tree) → Lists listed kind t → kind ≤ g.kinds
  pub sound : (kind : ℕ) (t : Tree) → Lists listed kind t → IsOf g text kind t
  pub complete : (kind : ℕ) (t : Tree) → kind ≤ g.kinds → IsOf g text kind t → Has (Lists listed kind) t

abbrev pub IsAt : List Reading → ℕ → Reading → Type 0
IsAt listed k x = slice_get listed k ≡ Some x

-- at the places of two lists stand trees of one kind
abbrev pub ArePlaces : List Reading → List Reading → Places → Reading → Reading → Type 0
ArePlaces lefts rights p x y = IsAt lefts p.left x × IsAt rights p.right y × (x.kind ≡ y.kind)

-- what a constituent adds to the list of those that end at n
abbrev pub ListedBy : Table → ℕ → Constituent → ℕ → Tree → Type 0
ListedBy g n r kind t = (precedence : ℕ) × NextAt g r.state (Whole kind precedence) × (r.end ≡ n) × (kind ≤ g.kinds) × (t ≡ r.tree)

abbrev pub ListedAny : Table → ℕ → List Constituent → ℕ → Tree → Type 0
ListedAny g n row kind t = (j : ℕ) × (r : Constituent) × (slice_get row j ≡ Some r) × ListedBy g n r kind t
