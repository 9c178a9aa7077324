-- The loops of rows.
use Rattle.std.proofs.Common.{◌≡◌, ◌∙◌, ◌+◌, ◌-◌, ◌<◌, ◌≤◌, ℕ, List, [], ◌∷◌, ◌++◌, length, get_or, Some, sym, ap, inl, inr, arith, subst, length-append}
use Rattle.std.specs.List.{slice_get}
use Rattle.std.specs.Global.{Global}
use Rattle.std.specs.declared.vec.Vec.{Vec}
use Rattle.std.proofs.Math.ListN.{set}
use Rattle.mw_chart.specs.Spelling.{IsTable}
use Rattle.mw_chart.specs.declared.table.Table.{Table}
use Rattle.mw_chart.specs.Row.{IsIndexed, AreBare, AreRows}
use Rattle.mw_chart.specs.declared.row.ChartRow.{ChartRow}
use Rattle.mw_chart.specs.declared.item.ChartItem.{ChartItem}
use Rattle.mw_chart.specs.declared.item.Constituent.{Constituent}
use Rattle.mw_chart.specs.Chart.{IsCell, IsCells, IsRow}
use Rattle.mw_chart.proofs.Lists.{one_there, get_below, get_set_same, get_set_other, get_item, get_back, eq_or}
use Rattle.std.specs.Vec.{vec_len}
use Rattle.mw_chart.proofs.Begins.{whole_moves}
use Rattle.mw_chart.proofs.Turned.{inner_front, inner_last}
use Rattle.mw_chart.specs.declared.terminal.Terminal.{Terminal}

-- what holds of the elements before an index, and of the one there
pub all_next : {A : Type 0} → (xs : List A) (k : ℕ) (x : A) (P : A → Type 0) → ((j : ℕ) (r : A) → j < k → slice_get xs j ≡ Some r → P r) → slice_get xs k ≡ Some x → P x
    → (j : ℕ) (r : A) → j < k + 1 → slice_get xs j ≡ Some r → P r
all_next {A} xs k x P before at here j r low got =
    elim (eq_or j k) [
      | inl e ↦ let there : slice_get xs k ≡ Some r = subst (λ (m : ℕ). slice_get xs m ≡ Some r) e got in subst P (one_there xs k x r at there) here
      | inr n ↦ before j r (omega (arith, low, n)) got
    ]

pub all_done : {A : Type 0} → (xs : List A) (k : ℕ) (P : A → Type 0) → length xs ≤ k → ((j : ℕ) (r : A) → j < k → slice_get xs j ≡ Some r → P r)
    → (j : ℕ) (r : A) → slice_get xs j ≡ Some r → P r
all_done xs k P all before j r got = before j r (let b = get_below xs j r got in omega (arith, b, all)) got

pub bare_push : (n : ℕ) (rows : List ChartRow) (new : ChartRow) → AreBare n rows → new.constituents.items ≡ [] → AreBare (n + 1) (rows ++ new ∷ [])
bare_push n rows new (len, none) bare = (
  length-append rows (new ∷ []) ∙ (omega (arith, len)),
  λ k row got. elim (get_back rows new k row got) [ inl h ↦ none k row h | inr e ↦ ap (λ (r : ChartRow). r.constituents.items) (sym e) ∙ bare ],
)

-- the last cell, and those before it
pub last_cell : (g : Table) (text : List Terminal) (i done : ℕ) (front : List (Vec ChartItem Global)) (cell : Vec ChartItem Global) (e : ℕ) → length front + e ≡ length text
    → IsCells g text i done (front ++ cell ∷ []) → IsCell g text i done e cell.items
last_cell g text i done front cell e n all =
    subst (λ (c : List ChartItem). IsCell g text i done e c) (inner_last front cell) (all (length front) e n (rw (length-append front (cell ∷ [])) (omega arith)))

pub front_cells : (g : Table) (text : List Terminal) (i done : ℕ) (front : List (Vec ChartItem Global)) (cell : Vec ChartItem Global)
    → IsCells g text i done (front ++ cell ∷ []) → IsCells g text i done front
front_cells g text i done front cell all = λ j e n low.
    subst (λ (c : List ChartItem). IsCell g text i done e c) (inner_front front cell j low) (all j e n (rw (length-append front (cell ∷ [])) (omega (arith, low))))

-- no whole text ends where it begins
pub no_row : (g : Table) (text : List Terminal) (i : ℕ) → IsTable g → IsRow g text i i ([])
no_row g text i wf = record {
  sound = λ e w t (k, r, got, x, y, z). let bad : ⊥ = (cc) in absurd bad;
  complete = λ e w kind precedence t low d wh. let f = whole_moves g text w kind precedence t i e wf d wh in absurd (omega (arith, f, low));
}

-- rows without constituents are indexed
no_index : (row : ChartRow) → row.constituents.items ≡ [] → IsIndexed row
no_index row e j r got = let bad : slice_get [] j ≡ Some r = subst (λ (l : List Constituent). slice_get l j ≡ Some r) e got in let h : ⊥ = (cc) in absurd h

pub rows_end : (g : Table) (text : List Terminal) (n : ℕ) (rows : List ChartRow) → IsTable g → n ≡ length text + 1 → AreBare n rows → AreRows g text (length text) rows
rows_end g text n rows wf count (len, none) = λ k row low got.
    let below = get_below rows k row got in
    let same : k ≡ length text = omega (arith, low, below, len, count) in (
      subst (λ (r : List Constituent). IsRow g text k (length text) r) (sym (none k row got)) (subst (λ (m : ℕ). IsRow g text m (length text) ([])) (sym same) (no_row g text (length text) wf)),
      no_index row (none k row got),
    )

pub rows_more : (g : Table) (text : List Terminal) (i : ℕ) (rows : List ChartRow) (row : ChartRow) → i < length rows
    → AreRows g text (i + 1) rows → IsRow g text i (length text) row.constituents.items → IsIndexed row → AreRows g text i (set rows i row)
rows_more g text i rows row low behind here index = λ k other from got.
    elim (eq_or k i) [
      | inl e ↦
          let there : slice_get (set rows i row) i ≡ Some other = subst (λ (m : ℕ). slice_get (set rows i row) m ≡ Some other) e got in
          let same : row ≡ other = one_there (set rows i row) i row other (get_set_same rows i row low) there in
          subst (λ (m : ℕ). IsRow g text m (length text) other.constituents.items × IsIndexed other) (sym e)
          (subst (λ (r : ChartRow). IsRow g text i (length text) r.constituents.items × IsIndexed r) same (here, index))
      | inr n ↦ behind k other (omega (arith, from, n)) (sym (get_set_other rows k i row n) ∙ got)
    ]

-- the row that code read
pub row_of : (g : Table) (text : List Terminal) (i k : ℕ) (rows : List ChartRow) (row : ChartRow) → AreRows g text i rows → i ≤ k
    → k < length rows → row ≡ get_or rows k row → IsRow g text k (length text) row.constituents.items × IsIndexed row
row_of g text i k rows row all low below is = all k row low (get_item rows k row below is)

pub popped_cell : (g : Table) (text : List Terminal) (i at : ℕ) (all front : List (Vec ChartItem Global)) (cell : Vec ChartItem Global) → all ≡ front ++ cell ∷ []
    → i + length all ≤ length text → at ≡ length text - length front → IsCells g text i (length text - length all) all → IsCell g text i (at - 1) at cell.items
popped_cell g text i at all front cell e shape is cells =
    let len : length all ≡ length front + 1 = ap length e ∙ length-append front (cell ∷ []) ∙ omega arith in
    let d : length text - length all ≡ at - 1 = omega (arith, len, shape, is) in
    last_cell g text i (at - 1) front cell at (omega (arith, len, shape, is))
    (subst (λ (c : List (Vec ChartItem Global)). IsCells g text i (at - 1) c) e (subst (λ (m : ℕ). IsCells g text i m all) d cells))

pub popped_cells : (g : Table) (text : List Terminal) (i at : ℕ) (all front : List (Vec ChartItem Global)) (cell : Vec ChartItem Global) → all ≡ front ++ cell ∷ []
    → i + length all ≤ length text → at ≡ length text - length front → IsCells g text i (length text - length all) all → IsCells g text i (at - 1) front
popped_cells g text i at all front cell e shape is cells =
    let len : length all ≡ length front + 1 = ap length e ∙ length-append front (cell ∷ []) ∙ omega arith in
    let d : length text - length all ≡ at - 1 = omega (arith, len, shape, is) in
    front_cells g text i (at - 1) front cell
    (subst (λ (c : List (Vec ChartItem Global)). IsCells g text i (at - 1) c) e (subst (λ (m : ℕ). IsCells g text i m all) d cells))

pub vec_length : {A : Type 0} → (v : Vec A Global) → vec_len v ≡ length v.items
vec_length v = v.ok.0
