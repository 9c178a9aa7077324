-- How the constituents of a row are found, and which ends are full.
use Rattle.std.specs.Prelude.{ℕ, ◌+◌, ◌-◌, ◌*◌, ◌≤◌, ◌<◌, ◌≡◌, ◌⊎◌, List, [], Some, length}
use Rattle.std.specs.Int.{bit_at}
use Rattle.std.specs.List.{slice_get}
use Rattle.std.specs.Global.{Global}
use Rattle.std.specs.declared.vec.Vec.{Vec}
use Rattle.mw_chart.specs.Tree.{Tree}
use Rattle.mw_chart.specs.Bits.{IsSet}
use Rattle.mw_chart.specs.Spelling.{IsTable}
use Rattle.mw_chart.specs.Listed.{inner, IsListed}
use Rattle.mw_chart.specs.Chart.{HasTwo, Has, CellsHold, CompletesBy, IsRow, IsWithin}
use Rattle.mw_chart.specs.declared.completing.Agenda.{Agenda}
use Rattle.mw_chart.specs.declared.row.ChartRow.{ChartRow}
use Rattle.mw_chart.specs.declared.row.Strip.{Strip}
use Rattle.mw_chart.specs.declared.item.ChartItem.{ChartItem}
use Rattle.mw_chart.specs.declared.item.Constituent.{Constituent}
use Rattle.mw_chart.specs.declared.table.Table.{Table}
use Rattle.mw_chart.specs.declared.terminal.Terminal.{Terminal}

-- a strip of the state has the end
abbrev pub IsInStrip : List Strip → ℕ → ℕ → Type 0
IsInStrip strips w e = (p : ℕ) × (strip : Strip) × (slice_get strips p ≡ Some strip) × (strip.state ≡ w) × IsSet strip.ends.items e

-- the constituents end by the place
abbrev pub EndBy : ℕ → List Constituent → Type 0
EndBy n constituents = (j : ℕ) (r : Constituent) → slice_get constituents j ≡ Some r → r.end ≤ n

-- each constituent is found by its end and by its state
abbrev pub IsIndexed : ChartRow → Type 0
IsIndexed row = (j : ℕ) (r : Constituent) → slice_get row.constituents.items j ≡ Some r → IsListed row.places.items r.end j × IsInStrip row.strips.items r.state r.end

-- Of the ends that are ahead of a place, where cells are counted from the end: those that are marked for a state have two different trees of it.
abbrev pub AreFull : ℕ → List (Vec ℕ Global) → List (Vec ChartItem Global) → Type 0
AreFull n full cells = (s e j : ℕ) → IsSet (inner full s) e → j + e ≡ n → j < length cells → HasTwo (CellsHold cells (j, s))

-- Cells for m ends lie ahead in a text of n tokens; what is marked is full, and the row's constituents are found and end at one of them.
pub record IsReady (n m : ℕ) (row : ChartRow) (agenda : Agenda) : Type 0 where
  pub short : n ≤ 1024
  pub shape : m ≤ n
  pub indexed : IsIndexed row
  pub within : IsWithin row.constituents.items (n - m) n
  pub count : length agenda.cells.items ≡ m
  pub full : AreFull n agenda.full.items agenda.cells.items

-- what the constituent at an index adds
abbrev pub CompletesAt : Table → List Constituent → ℕ → ℕ → ℕ → ℕ → Tree → ℕ → ℕ × ℕ → Tree → Type 0
CompletesAt g constituents n kind below next v place k u = (r : Constituent) × (slice_get constituents place ≡ Some r) × CompletesBy g r n kind below next v k u

-- what is held after is what was held before, and some of what is fresh
pub record Grows {K : Type 0} (P Q F : K → Tree → Type 0) : Type 0 where
  pub kept : (k : K) (u : Tree) → P k u → Q k u
  pub sound : (k : K) (u : Tree) → Q k u → P k u ⊎ F k u

-- what these constituents add is held
abbrev pub Covers : (ℕ × ℕ → Tree → Type 0) → Table → List Constituent → ℕ → ℕ → ℕ → ℕ → Tree → (Constituent → Type 0) → Type 0
Covers Q g constituents n kind below next v X = (j : ℕ) (r : Constituent) → slice_get constituents j ≡ Some r → X r → (k : ℕ × ℕ) (u : Tree) → CompletesBy g r n kind below next v k u → Has (Q k) u

-- what the constituents at a list of indexes add
abbrev pub CompletesListed : Table → List Constituent → List ℕ → ℕ → ℕ → ℕ → ℕ → Tree → ℕ × ℕ → Tree → Type 0
CompletesListed g constituents places n kind below next v k u = (p : ℕ) × (place : ℕ) × (slice_get places p ≡ Some place) × CompletesAt g constituents n kind below next v place k u

-- the constituent ends at an end of the word at an index
abbrev pub IsInWord : ℕ → ℕ → Constituent → Type 0
IsInWord index word r = (i : ℕ) × (r.end ≡ index * 64 + i) × (bit_at word i ≡ 1)

-- so many rows without constituents
abbrev pub AreBare : ℕ → List ChartRow → Type 0
AreBare n rows = (length rows ≡ n) × ((k : ℕ) (row : ChartRow) → slice_get rows k ≡ Some row → row.constituents.items ≡ [])

-- the rows from a place on are those of the text
abbrev pub AreRows : Table → List Terminal → ℕ → List ChartRow → Type 0
AreRows g text i rows = (k : ℕ) (row : ChartRow) → i ≤ k → slice_get rows k ≡ Some row → IsRow g text k (length text) row.constituents.items × IsIndexed row

-- the rows behind a place of a text are those of the text
pub record AreBehind (g : Table) (text : List Terminal) (i : ℕ) (behind : List ChartRow) : Type 0 where
  pub table : IsTable g
  pub short : length text ≤ 1024
  pub below : i < length text
  pub count : length behind ≡ length text + 1
  pub rows : AreRows g text (i + 1) behind
