-- What the chart holds. Cells are counted from the end: the one at an index holds what ends so many tokens before the end of the text.
use Rattle.std.specs.Prelude.{ℕ, ◌+◌, ◌≤◌, ◌<◌, ◌≡◌, ◌≢◌, ◌⊎◌, List, Some, length}
use Rattle.std.specs.List.{slice_get}
use Rattle.std.specs.Global.{Global}
use Rattle.std.specs.declared.vec.Vec.{Vec}
use Rattle.mw_chart.specs.Tree.{Tree, leaf, head, app}
use Rattle.mw_chart.specs.Listed.{inner}
use Rattle.mw_chart.specs.Spelling.{NextAt, TokenAt, LeafAt, IsProduction, IsItem}
use Rattle.mw_chart.specs.declared.table.Next.TheVariants.{Token, Hole, Whole}
use Rattle.mw_chart.specs.declared.table.Table.{Table}
use Rattle.mw_chart.specs.declared.table.Production.{Production}
use Rattle.mw_chart.specs.declared.item.ChartItem.{ChartItem}
use Rattle.mw_chart.specs.declared.item.Constituent.{Constituent}
use Rattle.mw_chart.specs.declared.terminal.Leaf.{Leaf}
use Rattle.mw_chart.specs.declared.terminal.Terminal.{Terminal}

-- two different ones
abbrev pub HasTwo : (Tree → Type 0) → Type 0
HasTwo P = (a b : Tree) × P a × P b × (a ≢ b)

-- this one, or two different ones, which is enough
abbrev pub Has : (Tree → Type 0) → Tree → Type 0
Has P v = P v ⊎ HasTwo P

abbrev pub IsIn : ChartItem → ℕ → Tree → Type 0
IsIn item s v = (item.state ≡ s) × (item.tree ≡ v)

abbrev pub Holds : List ChartItem → ℕ → Tree → Type 0
Holds cell s v = (k : ℕ) × (item : ChartItem) × (slice_get cell k ≡ Some item) × IsIn item s v

abbrev pub HoldsConstituent : List Constituent → ℕ → ℕ → Tree → Type 0
HoldsConstituent row e w t = (k : ℕ) × (r : Constituent) × (slice_get row k ≡ Some r) × (r.end ≡ e) × (r.state ≡ w) × (r.tree ≡ t)

-- one step of a text begun, by the constituents of a row
abbrev pub Goes : Table → List Terminal → List Constituent → ℕ → ℕ → Tree → ℕ → Tree → ℕ → Type 0
Goes g text row k s v next u e =
    ((x : ℕ) × NextAt g s (Token x next) × (TokenAt text k x) × (e ≡ k + 1) × (u ≡ v))
    ⊎ ((kind bound w precedence : ℕ) × (t : Tree) × NextAt g s (Hole kind bound next) × HoldsConstituent row e w t × NextAt g w (Whole kind precedence) × (precedence < bound) × (u ≡ app v t))

-- a row has exactly the constituents that begin at i and end within the bound
pub record IsRow (g : Table) (text : List Terminal) (i bound : ℕ) (row : List Constituent) : Type 0 where
  pub sound : (e w : ℕ) (t : Tree) → HoldsConstituent row e w t → IsItem g text w t i e × ((kind : ℕ) × (precedence : ℕ) × NextAt g w (Whole kind precedence))
  pub complete : (e w kind precedence : ℕ) (t : Tree) → e ≤ bound → IsItem g text w t i e → NextAt g w (Whole kind precedence) → Has (HoldsConstituent row e w) t

-- what is held after a tree was put in at a state: as before, and it, or two different ones
pub record Puts (P Q : ℕ → Tree → Type 0) (s : ℕ) (v : Tree) : Type 0 where
  pub kept : (r : ℕ) (u : Tree) → P r u → Q r u
  pub sound : (r : ℕ) (u : Tree) → Q r u → P r u ⊎ ((r ≡ s) × (u ≡ v))
  pub has : Has (Q s) v

-- what is held after, by key, is what was held before and what is fresh; of what has one key two different ones are enough
pub record Adds {K : Type 0} (P Q F : K → Tree → Type 0) : Type 0 where
  pub kept : (k : K) (u : Tree) → P k u → Q k u
  pub sound : (k : K) (u : Tree) → Q k u → P k u ⊎ F k u
  pub has : (k : K) (u : Tree) → F k u → Has (Q k) u

-- cells by index and state
abbrev pub CellsHold : List (Vec ChartItem Global) → ℕ × ℕ → Tree → Type 0
CellsHold cells k v = Holds (inner cells k.0) k.1 v

abbrev pub IsPut : ℕ → ℕ → Tree → ℕ × ℕ → Tree → Type 0
IsPut at s v k u = (k.0 ≡ at) × (k.1 ≡ s) × (u ≡ v)

-- a row by end and state
abbrev pub RowHolds : List Constituent → ℕ × ℕ → Tree → Type 0
RowHolds row k t = HoldsConstituent row k.0 k.1 t

-- the cell at an index is that of the end which makes n with it
abbrev pub CompletesBy : Table → Constituent → ℕ → ℕ → ℕ → ℕ → Tree → ℕ × ℕ → Tree → Type 0
CompletesBy g r n kind bound next v k u = (precedence : ℕ) × NextAt g r.state (Whole kind precedence) × (precedence < bound) × (k.0 + r.end ≡ n) × (k.1 ≡ next) × (u ≡ app v r.tree)

abbrev pub Completes : Table → List Constituent → ℕ → ℕ → ℕ → ℕ → Tree → ℕ × ℕ → Tree → Type 0
Completes g row n kind bound next v k u = (j : ℕ) × (r : Constituent) × (slice_get row j ≡ Some r) × CompletesBy g r n kind bound next v k u

abbrev pub Advances : Table → List Terminal → List Constituent → ℕ → ℕ → Tree → ℕ × ℕ → Tree → Type 0
Advances g text row at s v k u = (e : ℕ) × (k.0 + e ≡ length text) × Goes g text row at s v k.1 u e

abbrev pub AdvancesItem : Table → List Terminal → List Constituent → ℕ → ChartItem → ℕ × ℕ → Tree → Type 0
AdvancesItem g text row at item k u = (s : ℕ) × (v : Tree) × IsIn item s v × Advances g text row at s v k u

abbrev pub AdvancesCell : Table → List Terminal → List Constituent → ℕ → List ChartItem → ℕ × ℕ → Tree → Type 0
AdvancesCell g text row at cell k u = (j : ℕ) × (item : ChartItem) × (slice_get cell j ≡ Some item) × AdvancesItem g text row at item k u

-- each constituent of the row ends behind the place, within the text
abbrev pub IsWithin : List Constituent → ℕ → ℕ → Type 0
IsWithin row at n = (j : ℕ) (r : Constituent) → slice_get row j ≡ Some r → (at < r.end) × (r.end ≤ n)

-- no token that doesn't stand there comes next
abbrev pub IsLive : Table → List Terminal → ℕ → ℕ → Type 0
IsLive g text at s = (x next : ℕ) → NextAt g s (Token x next) → TokenAt text at x

abbrev pub PredictsProduction : Table → List Terminal → ℕ → ℕ → ℕ → Tree → Production → ℕ → Tree → Type 0
PredictsProduction g text at kind precedence v production k u = (bound : ℕ) × NextAt g production.state (Hole kind bound k) × (precedence < bound) × IsLive g text at k × (u ≡ app (head production.operator) v)

abbrev pub PredictsBy : Table → List Terminal → ℕ → ℕ → ℕ → Tree → ℕ → Tree → Type 0
PredictsBy g text at kind precedence v k u = (j : ℕ) × (production : Production) × (slice_get g.productions.items j ≡ Some production) × PredictsProduction g text at kind precedence v production k u

abbrev pub PredictsItem : Table → List Terminal → ℕ → ChartItem → ℕ → Tree → Type 0
PredictsItem g text at item k u = (kind precedence s : ℕ) × (v : Tree) × IsIn item s v × NextAt g s (Whole kind precedence) × PredictsBy g text at kind precedence v k u

abbrev pub Predicts : Table → List Terminal → ℕ → List ChartItem → ℕ → Tree → Type 0
Predicts g text at cell k u = (j : ℕ) × (item : ChartItem) × (slice_get cell j ≡ Some item) × PredictsItem g text at item k u

abbrev pub KeepsItem : Table → ℕ → ChartItem → ℕ × ℕ → Tree → Type 0
KeepsItem g at item k u = (k.0 ≡ at) × IsIn item k.1 u × ((kind : ℕ) × (precedence : ℕ) × NextAt g k.1 (Whole kind precedence))

abbrev pub KeepsCell : Table → ℕ → List ChartItem → ℕ × ℕ → Tree → Type 0
KeepsCell g at cell k u = (j : ℕ) × (item : ChartItem) × (slice_get cell j ≡ Some item) × KeepsItem g at item k u

abbrev pub ScansProduction : Table → List Terminal → ℕ → Production → ℕ × ℕ → Tree → Type 0
ScansProduction g text i production k u = (x : ℕ) × NextAt g production.state (Token x k.1) × (TokenAt text i x) × (k.0 + (i + 1) ≡ length text) × (u ≡ head production.operator)

abbrev pub ScansProductions : Table → List Terminal → ℕ → ℕ × ℕ → Tree → Type 0
ScansProductions g text i k u = (j : ℕ) × (production : Production) × (slice_get g.productions.items j ≡ Some production) × ScansProduction g text i production k u

-- what a terminal spells by itself
abbrev pub ScansLeaf : List Terminal → ℕ → Leaf → ℕ × ℕ → Tree → Type 0
ScansLeaf text i l k u = (k.0 + (i + 1) ≡ length text) × (k.1 ≡ l.state) × (u ≡ leaf l.value)

abbrev pub ScansLeaves : List Terminal → ℕ → Terminal → ℕ × ℕ → Tree → Type 0
ScansLeaves text i terminal k u = (j : ℕ) × (l : Leaf) × (slice_get terminal.leaves.items j ≡ Some l) × ScansLeaf text i l k u

-- what stands at a place with its first token
abbrev pub Scans : Table → List Terminal → ℕ → ℕ × ℕ → Tree → Type 0
Scans g text i k u = ScansProductions g text i k u ⊎ ((terminal : Terminal) × (slice_get text i ≡ Some terminal) × ScansLeaves text i terminal k u)

abbrev pub GroupsBy : Table → List Terminal → Constituent → ℕ × ℕ → Tree → Type 0
GroupsBy g text r k u = (kind precedence : ℕ) × NextAt g r.state (Whole kind precedence) × (TokenAt text r.end g.close) × (slice_get g.groups.items kind ≡ Some k.1) × (k.0 + (r.end + 1) ≡ length text) × (u ≡ r.tree)

abbrev pub GroupsAny : Table → List Terminal → List Constituent → ℕ × ℕ → Tree → Type 0
GroupsAny g text row k u = (j : ℕ) × (r : Constituent) × (slice_get row j ≡ Some r) × GroupsBy g text r k u

-- one step of a text begun
abbrev pub GoesOn : Table → List Terminal → ℕ → ℕ → Tree → ℕ → Tree → ℕ → Type 0
GoesOn g text k s v next u e =
    ((x : ℕ) × NextAt g s (Token x next) × (TokenAt text k x) × (e ≡ k + 1) × (u ≡ v))
    ⊎ ((kind bound w precedence : ℕ) × (t : Tree) × NextAt g s (Hole kind bound next) × IsItem g text w t k e × NextAt g w (Whole kind precedence) × (precedence < bound) × (u ≡ app v t))

-- A text begun at i whose last step is its first token, which may be all of it, a closing parenthesis, or one from a place behind i and up to done.
pub data Arrives (g : Table) (text : List Terminal) (i : ℕ) (done : ℕ) : ℕ → Tree → ℕ → Type 0 where
  by_token : (s op x next : ℕ) → IsProduction g s op → NextAt g s (Token x next) → TokenAt text i x → Arrives g text i done next (head op) (i + 1)
  by_leaf : (s x : ℕ) → LeafAt text i s x → Arrives g text i done s (leaf x) (i + 1)
  by_group : (w kind precedence m s : ℕ) (t : Tree) → TokenAt text i g.open → IsItem g text w t (i + 1) m → NextAt g w (Whole kind precedence)
      → TokenAt text m g.close → slice_get g.groups.items kind ≡ Some s → Arrives g text i done s t (m + 1)
  by_step : (s k next e : ℕ) (v u : Tree) → i < k → k ≤ done → IsItem g text s v i k → GoesOn g text k s v next u e → Arrives g text i done next u e

-- a cell holds texts begun at i that end at e, and all whose last step is from no further than done
pub record IsCell (g : Table) (text : List Terminal) (i done e : ℕ) (cell : List ChartItem) : Type 0 where
  pub sound : (s : ℕ) (v : Tree) → Holds cell s v → IsItem g text s v i e
  pub complete : (s : ℕ) (v : Tree) → Arrives g text i done s v e → Has (Holds cell s) v

abbrev pub IsCells : Table → List Terminal → ℕ → ℕ → List (Vec ChartItem Global) → Type 0
IsCells g text i done cells = (j e : ℕ) → j + e ≡ length text → j < length cells → IsCell g text i done e (inner cells j)

-- the first cells of a place
abbrev pub AreFirst : Table → List Terminal → ℕ → List (Vec ChartItem Global) → Type 0
AreFirst g text i cells = (i + length cells ≡ length text) × IsCells g text i i cells
