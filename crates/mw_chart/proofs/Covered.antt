-- Filling a hole from the constituents of a row, end by end.
use Rattle.std.proofs.Common.{◌≡◌, ◌∙◌, ◌+◌, ◌*◌, ◌/◌, ◌%◌, ◌-◌, ◌<◌, ◌≤◌, ◌⊎◌, ℕ, zero, suc, List, [], ◌∷◌, length, Some, refl, sym, ap, inl, inr, arith, subst, slice_index}
use Rattle.std.specs.List.{slice_get}
use Rattle.std.specs.Global.{Global}
use Rattle.std.specs.declared.vec.Vec.{Vec}
use Rattle.std.specs.Int.{bit_at}
use Rattle.std.proofs.lemmas.Nat.Bits.{bit_at-zero}
use Rattle.mw_chart.specs.Tree.{Tree}
use Rattle.mw_chart.specs.Bits.{IsSet}
use Rattle.mw_chart.specs.Spelling.{NextAt}
use Rattle.mw_chart.specs.Listed.{inner}
use Rattle.mw_chart.specs.Chart.{HasTwo, Has, Holds, Adds, CellsHold, CompletesBy, Completes, IsWithin}
use Rattle.mw_chart.specs.Row.{IsIndexed, IsReady, AreFull, CompletesAt, CompletesListed, IsInWord, Grows, Covers}
use Rattle.mw_chart.specs.declared.completing.Agenda.{Agenda}
use Rattle.mw_chart.specs.declared.row.ChartRow.{ChartRow}
use Rattle.mw_chart.specs.declared.row.Strip.{Strip}
use Rattle.mw_chart.specs.declared.table.Table.{Table}
use Rattle.mw_chart.specs.declared.table.Next.TheVariants.{Whole}
use Rattle.mw_chart.specs.declared.item.ChartItem.{ChartItem}
use Rattle.mw_chart.specs.declared.item.Constituent.{Constituent}
use Rattle.mw_chart.proofs.Lists.{get_below, one_there, eq_or}
use Rattle.mw_chart.proofs.Begins.{le_or}
use Rattle.mw_chart.proofs.Cells.{has_more}
use Rattle.mw_chart.proofs.Adding.{adds_as, adds_none}
use Rattle.mw_chart.proofs.Filling.{Takes}

pub grows_same : {K : Type 0} → (P F : K → Tree → Type 0) → Grows P P F
grows_same P F = record { kept = λ k u p. p; sound = λ k u p. inl p }

pub grows_then : {K : Type 0} → (P Q R F : K → Tree → Type 0) → Grows P Q F → Grows Q R F → Grows P R F
grows_then P Q R F a b = record {
  kept = λ k u p. b.kept k u (a.kept k u p);
  sound = λ k u r. elim (b.sound k u r) [ inl q ↦ a.sound k u q | inr f ↦ inr f ];
}

pub grows_adds : {K : Type 0} → (P Q F G : K → Tree → Type 0) → Adds P Q G → ((k : K) (u : Tree) → G k u → F k u) → Grows P Q F
grows_adds P Q F G a to = record {
  kept = a.kept;
  sound = λ k u q. elim (a.sound k u q) [ inl p ↦ inl p | inr x ↦ inr (to k u x) ];
}

pub adds_grows : {K : Type 0} → (P Q F : K → Tree → Type 0) → Grows P Q F → ((k : K) (u : Tree) → F k u → Has (Q k) u) → Adds P Q F
adds_grows P Q F a has = record { kept = a.kept; sound = a.sound; has = has }

pub within_same : (constituents : List Constituent) (n a b : ℕ) → a ≡ b → IsWithin constituents (n - a) n → IsWithin constituents (n - b) n
within_same constituents n a b same all = λ j r got. let w = all j r got in (let low = w.0 in omega (arith, low, same), w.1)

-- the constituent at an index
-- one more step of what is ready
pub ready_again : (n m : ℕ) (row : ChartRow) (a : Agenda) → IsReady n m row a → IsReady n (length a.cells.items) row a
ready_again n m row a r = subst (λ (k : ℕ). IsReady n k row a) (sym r.count) r

pub ready_then : (n m : ℕ) (row : ChartRow) (a b : Agenda) → IsReady n m row a → IsReady n (length a.cells.items) row b → IsReady n m row b
ready_then n m row a b r s = subst (λ (k : ℕ). IsReady n k row b) r.count s

pub fills_at : (P Q : ℕ × ℕ → Tree → Type 0) (g : Table) (constituents : List Constituent) (n kind below next : ℕ) (v : Tree) (place : ℕ) (r : Constituent)
    → slice_get constituents place ≡ Some r → Adds P Q (CompletesBy g r n kind below next v) → Adds P Q (CompletesAt g constituents n kind below next v place)
fills_at P Q g constituents n kind below next v place r got a =
    adds_as P Q (CompletesBy g r n kind below next v) (CompletesAt g constituents n kind below next v place) a
    (λ k u x. (r, got, x))
    (λ k u (r2, got2, x). subst (λ (s : Constituent). CompletesBy g s n kind below next v k u) (one_there constituents place r2 r got2 got) x)

pub fills_nowhere : (P : ℕ × ℕ → Tree → Type 0) (g : Table) (constituents : List Constituent) (n kind below next : ℕ) (v : Tree) (place : ℕ)
    → length constituents ≤ place → Adds P P (CompletesAt g constituents n kind below next v place)
fills_nowhere P g constituents n kind below next v place past =
    adds_none P (CompletesAt g constituents n kind below next v place) (λ k u (r, got, x). let b = get_below constituents place r got in omega (arith, b, past))

-- the constituents at an end
pub grows_listed : (P Q : ℕ × ℕ → Tree → Type 0) (g : Table) (constituents : List Constituent) (places : List ℕ) (n kind below next : ℕ) (v : Tree)
    → Adds P Q (CompletesListed g constituents places n kind below next v) → Grows P Q (Completes g constituents n kind below next v)
grows_listed P Q g constituents places n kind below next v a =
    grows_adds P Q (Completes g constituents n kind below next v) (CompletesListed g constituents places n kind below next v) a (λ k u (p, place, got, (r, at, x)). (place, r, at, x))

pub covers_listed : (P Q : ℕ × ℕ → Tree → Type 0) (g : Table) (row : ChartRow) (list : List ℕ) (end n kind below next : ℕ) (v : Tree) → IsIndexed row
    → list ≡ inner row.places.items end → Adds P Q (CompletesListed g row.constituents.items list n kind below next v)
    → Covers Q g row.constituents.items n kind below next v (λ r. r.end ≡ end)
covers_listed P Q g row list end n kind below next v index is a = λ j r got at k u x.
    let l = (index j r got).0 in
    let there : slice_get list l.0 ≡ Some j = subst (λ (xs : List ℕ). slice_get xs l.0 ≡ Some j) (ap (λ m. inner row.places.items m) at ∙ sym is) l.1 in
    a.has k u (l.0, j, there, (r, got, x))

pub inner_far : {A : Type 0} → (xs : List (Vec A Global)) (k : ℕ) → length xs ≤ k → inner xs k ≡ []
inner_far [] k h = refl
inner_far (x ∷ xs) zero h = absurd (omega arith)
inner_far (x ∷ xs) (suc k) h = inner_far xs k (omega arith)

-- The constituents of a word's ends, of which those in `left` are to come.
abbrev pub IsDone : ℕ → ℕ → ℕ → Constituent → Type 0
IsDone index word left r = (i : ℕ) × (r.end ≡ index * 64 + i) × (bit_at word i ≡ 1) × (bit_at left i ≡ 1 → ⊥)

pub covers_bit : (P Q : ℕ × ℕ → Tree → Type 0) (g : Table) (constituents : List Constituent) (n kind below next : ℕ) (v : Tree) (index word left rest bit : ℕ)
    → ((i : ℕ) → bit_at left i ≡ 1 → (bit_at rest i ≡ 1) ⊎ (i ≡ bit)) → ((k : ℕ × ℕ) (u : Tree) → P k u → Q k u)
    → Covers P g constituents n kind below next v (IsDone index word left) → Covers Q g constituents n kind below next v (λ r. r.end ≡ index * 64 + bit)
    → Covers Q g constituents n kind below next v (IsDone index word rest)
covers_bit P Q g constituents n kind below next v index word left rest bit split kept before here = λ j r got (i, at, set, gone) k u x.
    elim (eq_or (bit_at left i) 1) [
      | inl still ↦ elim (split i still) [
        | inl rests ↦ absurd (gone rests)
        | inr same ↦ here j r got (at ∙ ap (λ m. index * 64 + m) same) k u x
      ]
      | inr done ↦ has_more (P k) (Q k) u (kept k) (before j r got (i, at, set, done) k u x)
    ]

pub done_none : (P : ℕ × ℕ → Tree → Type 0) (g : Table) (constituents : List Constituent) (n kind below next : ℕ) (v : Tree) (index word : ℕ)
    → Covers P g constituents n kind below next v (IsDone index word word)
done_none P g constituents n kind below next v index word = λ j r got (i, at, set, gone) k u x. absurd (gone set)

pub done_all : (P : ℕ × ℕ → Tree → Type 0) (g : Table) (constituents : List Constituent) (n kind below next : ℕ) (v : Tree) (index word left : ℕ) → left ≡ 0
    → Covers P g constituents n kind below next v (IsDone index word left) → Covers P g constituents n kind below next v (IsInWord index word)
done_all P g constituents n kind below next v index word left none all = λ j r got (i, at, set) k u x.
    all j r got (i, at, set, λ still. let z = bit_at-zero i in let s : bit_at 0 i ≡ 1 = subst (λ (m : ℕ). bit_at m i ≡ 1) none still in omega (arith, z, s)) k u x

-- A strip's constituents whose ends lie before a word.
abbrev pub IsBefore : Strip → ℕ → Constituent → Type 0
IsBefore strip index r = (strip.state ≡ r.state) × IsSet strip.ends.items r.end × (r.end < index * 64)

pub covers_word : (cells more : List (Vec ChartItem Global)) (g : Table) (constituents : List Constituent) (n kind below next : ℕ) (v : Tree) (strip : Strip) (full : List (Vec ℕ Global)) (index word : ℕ)
    → length cells ≤ n → IsWithin constituents (n - length cells) n → AreFull n full cells
    → ((i : ℕ) → bit_at (slice_index strip.ends.items index) i ≡ 1 → (bit_at word i ≡ 1) ⊎ (bit_at (slice_index (inner full next) index) i ≡ 1))
    → ((k : ℕ × ℕ) (u : Tree) → CellsHold cells k u → CellsHold more k u)
    → Covers (CellsHold cells) g constituents n kind below next v (IsBefore strip index) → Covers (CellsHold more) g constituents n kind below next v (IsInWord index word)
    → Covers (CellsHold more) g constituents n kind below next v (IsBefore strip (index + 1))
covers_word cells more g constituents n kind below next v strip full index word shape within fulls opens kept before here = λ j r got (state, set, low) k u x.
    elim (le_or r.end (index * 64)) [
      | inl f ↦ has_more (CellsHold cells k) (CellsHold more k) u (kept k) (before j r got (state, set, f) k u x)
      | inr f ↦
          let at : r.end / 64 ≡ index = omega (arith, f, low) in
          let whole : r.end ≡ index * 64 + r.end % 64 = omega (arith, at) in
          elim (opens (r.end % 64) (subst (λ (m : ℕ). bit_at (slice_index strip.ends.items m) (r.end % 64) ≡ 1) at set)) [
            | inl bit ↦ here j r got (r.end % 64, whole, bit) k u x
            | inr marked ↦
                let w = within j r got in
                let end : k.0 + r.end ≡ n = x.3 in
                let w0 = w.0 in
                let two = fulls next r.end k.0 (subst (λ (m : ℕ). bit_at (slice_index (inner full next) m) (r.end % 64) ≡ 1) (sym at) marked) end (omega (arith, end, w0, shape)) in
                let key : k.1 ≡ next = x.4 in
                has_more (CellsHold cells k) (CellsHold more k) u (kept k) (inr (subst (λ (s : ℕ). HasTwo (Holds (inner cells k.0) s)) (sym key) two))
          ]
    ]

pub covers_first : (Q : ℕ × ℕ → Tree → Type 0) (g : Table) (constituents : List Constituent) (n a kind below next : ℕ) (v : Tree) (strip : Strip) (index : ℕ)
    → IsWithin constituents a n → index * 64 ≤ a → Covers Q g constituents n kind below next v (IsBefore strip index)
covers_first Q g constituents n a kind below next v strip index within low = λ j r got (state, set, before) k u x.
    let w = (within j r got).0 in absurd (omega (arith, w, low, before))

pub covers_last : (Q : ℕ × ℕ → Tree → Type 0) (g : Table) (constituents : List Constituent) (n a kind below next : ℕ) (v : Tree) (strip : Strip) (index : ℕ)
    → IsWithin constituents a n → n < index * 64 → Covers Q g constituents n kind below next v (IsBefore strip index)
    → Covers Q g constituents n kind below next v (λ r. (strip.state ≡ r.state) × IsSet strip.ends.items r.end)
covers_last Q g constituents n a kind below next v strip index within high all = λ j r got (state, set) k u x.
    all j r got (state, set, let w = (within j r got).1 in omega (arith, w, high)) k u x

-- a strip that the hole doesn't take
pub covers_none : (Q : ℕ × ℕ → Tree → Type 0) (g : Table) (constituents : List Constituent) (n kind below next : ℕ) (v : Tree) (strip : Strip) → (Takes g strip.state kind below → ⊥)
    → Covers Q g constituents n kind below next v (λ r. (strip.state ≡ r.state) × IsSet strip.ends.items r.end)
covers_none Q g constituents n kind below next v strip never = λ j r got (state, set) k u (precedence, st, lt, end, key, same).
    absurd (never (precedence, subst (λ (m : ℕ). NextAt g m (Whole kind precedence)) (sym state) st, lt))

-- the constituents of the strips before an index
abbrev pub IsInSome : List Strip → ℕ → Constituent → Type 0
IsInSome strips index r = (p : ℕ) × (strip : Strip) × (slice_get strips p ≡ Some strip) × (p < index) × (strip.state ≡ r.state) × IsSet strip.ends.items r.end

pub covers_strip : (P Q : ℕ × ℕ → Tree → Type 0) (g : Table) (constituents : List Constituent) (n kind below next : ℕ) (v : Tree) (strips : List Strip) (index : ℕ) (strip : Strip)
    → slice_get strips index ≡ Some strip → ((k : ℕ × ℕ) (u : Tree) → P k u → Q k u)
    → Covers P g constituents n kind below next v (IsInSome strips index) → Covers Q g constituents n kind below next v (λ r. (strip.state ≡ r.state) × IsSet strip.ends.items r.end)
    → Covers Q g constituents n kind below next v (IsInSome strips (index + 1))
covers_strip P Q g constituents n kind below next v strips index strip at kept before here = λ j r got (p, other, there, low, state, set) k u x.
    elim (eq_or p index) [
      | inl e ↦
          let same : other ≡ strip = one_there strips index other strip (subst (λ (m : ℕ). slice_get strips m ≡ Some other) e there) at in
          here j r got (subst (λ (s : Strip). (s.state ≡ r.state) × IsSet s.ends.items r.end) same (state, set)) k u x
      | inr ne ↦ has_more (P k) (Q k) u (kept k) (before j r got (p, other, there, omega (arith, low, ne), state, set) k u x)
    ]

pub fills_row : (P Q : ℕ × ℕ → Tree → Type 0) (g : Table) (row : ChartRow) (n kind below next : ℕ) (v : Tree) (index : ℕ) → IsIndexed row → length row.strips.items ≤ index
    → Grows P Q (Completes g row.constituents.items n kind below next v) → Covers Q g row.constituents.items n kind below next v (IsInSome row.strips.items index)
    → Adds P Q (Completes g row.constituents.items n kind below next v)
fills_row P Q g row n kind below next v index indexed all grows covers =
    adds_grows P Q (Completes g row.constituents.items n kind below next v) grows
    (λ k u (j, r, got, x).
    let s = (indexed j r got).1 in
    covers j r got (s.0, s.1, s.2, let b = get_below row.strips.items s.0 s.1 s.2 in omega (arith, b, all), s.3, s.4) k u x)

-- the open ends of a word, as code found them
pub predicted : (index i a b word : ℕ) (ends full : List ℕ) → a ≡ slice_index ends index → b ≡ slice_index full index
    → ((j : ℕ) → bit_at a j ≡ 1 → (bit_at word j ≡ 1) ⊎ (bit_at b j ≡ 1)) → bit_at (slice_index ends index) i ≡ 1
    → (bit_at word i ≡ 1) ⊎ (bit_at (slice_index full index) i ≡ 1)
predicted index i a b word ends full is is2 split set =
    elim (split i (subst (λ (m : ℕ). bit_at m i ≡ 1) (sym is) set)) [ inl x ↦ inl x | inr x ↦ inr (subst (λ (m : ℕ). bit_at m i ≡ 1) is2 x) ]

pub covers_nothing : (Q : ℕ × ℕ → Tree → Type 0) (g : Table) (constituents : List Constituent) (n kind below next : ℕ) (v : Tree) (strips : List Strip)
    → Covers Q g constituents n kind below next v (IsInSome strips 0)
covers_nothing Q g constituents n kind below next v strips = λ j r got (p, strip, there, low, state, set) k u x. absurd (omega (arith, low))

pub within_ahead : (constituents : List Constituent) (n at len : ℕ) → at + len ≡ n → IsWithin constituents at n → IsWithin constituents (n - len) n
within_ahead constituents n at len shape all = λ j r got. let w = all j r got in (let low = w.0 in omega (arith, low, shape), w.1)
