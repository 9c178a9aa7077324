-- Ends that are full stay full.
use Rattle.std.proofs.Common.{◌≡◌, ◌∙◌, ◌+◌, ◌<◌, ◌≤◌, ◌⊎◌, ◌↔◌, get_or, ℕ, zero, suc, List, [], ◌∷◌, ◌++◌, length, refl, sym, ap, inl, inr, arith, subst, length-append}
use Rattle.std.specs.Global.{Global}
use Rattle.std.specs.declared.vec.Vec.{Vec}
use Rattle.std.proofs.Math.ListN.{set}
use Rattle.mw_chart.specs.Tree.{Tree}
use Rattle.mw_chart.specs.Bits.{IsSet}
use Rattle.mw_chart.specs.Listed.{inner}
use Rattle.mw_chart.specs.Chart.{HasTwo, Holds, CellsHold}
use Rattle.mw_chart.specs.Row.{AreFull}
use Rattle.mw_chart.specs.declared.item.ChartItem.{ChartItem}
use Rattle.mw_chart.proofs.Lists.{eq_or}
use Rattle.mw_chart.proofs.Cells.{two_more}
use Rattle.mw_chart.proofs.Adding.{inner_same, inner_other, inner_is}
use Rattle.mw_chart.proofs.Turned.{inner_front}

-- more is held
pub full_more : (n : ℕ) (full : List (Vec ℕ Global)) (cells more : List (Vec ChartItem Global)) → ((k : ℕ × ℕ) (u : Tree) → CellsHold cells k u → CellsHold more k u)
    → length more ≡ length cells → AreFull n full cells → AreFull n full more
full_more n full cells more kept len all = λ s e j marked at low. two_more (CellsHold cells (j, s)) (CellsHold more (j, s)) (kept (j, s)) (all s e j marked at (omega (arith, low, len)))

-- the last cell is taken
pub full_front : (n : ℕ) (full : List (Vec ℕ Global)) (front : List (Vec ChartItem Global)) (cell : Vec ChartItem Global) → AreFull n full (front ++ cell ∷ []) → AreFull n full front
full_front n full front cell all = λ s e j marked at low.
    let len : length (front ++ cell ∷ []) ≡ length front + 1 = length-append front (cell ∷ []) in
    subst (λ (c : List ChartItem). HasTwo (Holds c s)) (inner_front front cell j low) (all s e j marked at (omega (arith, low, len)))

-- there is room for more states
pub full_grown : (n : ℕ) (full grown : List (Vec ℕ Global)) (cells : List (Vec ChartItem Global)) → ((s : ℕ) → inner grown s ≡ inner full s) → AreFull n full cells → AreFull n grown cells
full_grown n full grown cells same all = λ s e j marked at low. all s e j (subst (λ (l : List ℕ). IsSet l e) (same s) marked) at low

-- an end is marked
pub full_mark : (n end state : ℕ) (full : List (Vec ℕ Global)) (new : Vec ℕ Global) (cells : List (Vec ChartItem Global)) → state < length full
    → ((y : ℕ) → IsSet new.items y → IsSet (inner full state) y ⊎ (y ≡ end)) → ((j : ℕ) → j + end ≡ n → HasTwo (CellsHold cells (j, state)))
    → AreFull n full cells → AreFull n (set full state new) cells
full_mark n end state full new cells low is two all = λ s e j marked at below.
    elim (eq_or s state) [
      | inl same ↦
          let here : IsSet new.items e = subst (λ (l : List ℕ). IsSet l e) (ap (λ m. inner (set full state new) m) same ∙ inner_same full state new low) marked in
          elim (is e here) [
            | inl old ↦ subst (λ (m : ℕ). HasTwo (CellsHold cells (j, m))) (sym same) (all state e j old at below)
            | inr fresh ↦ subst (λ (m : ℕ). HasTwo (CellsHold cells (j, m))) (sym same) (two j (omega (arith, at, fresh)))
          ]
      | inr other ↦ all s e j (subst (λ (l : List ℕ). IsSet l e) (inner_other full s state new other) marked) at below
    ]

pub inner_past_all : {A : Type 0} → (xs : List (Vec A Global)) (k : ℕ) → length xs ≤ k → inner xs k ≡ []
inner_past_all [] k h = refl
inner_past_all (x ∷ xs) zero h = absurd (omega arith)
inner_past_all (x ∷ xs) (suc k) h = inner_past_all xs k (omega arith)

pub either_set : (full : List (Vec ℕ Global)) (state end : ℕ) (old new : Vec ℕ Global) → state < length full → old ≡ get_or full state old
    → ((y : ℕ) → IsSet new.items y ↔ (IsSet old.items y ⊎ (y ≡ end))) → (y : ℕ) → IsSet new.items y → IsSet (inner full state) y ⊎ (y ≡ end)
either_set full state end old new low is both y h =
    elim ((both y).0 h) [
      | inl before ↦ inl (subst (λ (l : List ℕ). IsSet l y) (sym (inner_is full state old low is)) before)
      | inr fresh ↦ inr fresh
    ]
