-- Lists that are made by a step for each element of another one; and the rows and columns of a square.
use Rattle.std.proofs.Common.{◌≡◌, ◌∙◌, ℕ, ◌<◌, ◌≤◌, ◌+◌, List, [], ◌∷◌, ◌++◌, length, ap, sym, subst, inl, inr, arith, length-append}
use Rattle.std.specs.Prelude.{slice_get, Some}
use Rattle.mw_logic.specs.Signature.{Sorted}
use Rattle.mw_term.specs.Signatures.{sorted_of}
use Rattle.mw_term.specs.declared.signature.Sorted.{Sorted as Held}
use Rattle.mw_sorts.specs.declared.diagram.Diagram.{Diagram}
use Rattle.mw_sorts.specs.Entries.{place_in}
use Rattle.mw_sorts.specs.Diagrams.{Level}
use Rattle.mw_sorts.specs.Squares.{LeadsBy, EndsBy, AreRowsOf, IsColumnOf, AreColumnsOf, IsTurnedRow, AreTurned}
use Rattle.mw_sorts.specs.States.{AreKept}
use Rattle.mw_sorts.proofs.Getting.{get-same, get-left, get-last, get-within}
use Rattle.mw_sorts.proofs.Growing.{less_or_at}

-- Each of the first n elements has its own at the same place of the other list.
pub record AreMatched {X Y : Type 0} (R : X → Y → Type 0) (n : ℕ) (xs : List X) (ys : List Y) : Type 0 where
  pub size : length ys ≡ n
  pub each : (p : ℕ) (x : X) → p < n → slice_get xs p ≡ Some x → (y : Y) × (slice_get ys p ≡ Some y) × R x y

pub matched-none : {X Y : Type 0} (R : X → Y → Type 0) (xs : List X) (ys : List Y) → ys ≡ [] → AreMatched R 0 xs ys
matched-none R xs ys e = record { size = ap (λ zs. length zs) e; each = λ p x l g. absurd (omega arith) }

pub matched-more : {X Y : Type 0} (R : X → Y → Type 0) (n : ℕ) (xs : List X) (ys new : List Y) (x : X) (y : Y) → AreMatched R n xs ys → slice_get xs n ≡ Some x → R x y → new ≡ ys ++ y ∷ [] → AreMatched R (n + 1) xs new
matched-more R n xs ys new x y h at r e = subst (AreMatched R (n + 1) xs) (sym e) (record {
  size = let a = length-append ys (y ∷ []) in let s = h.size in omega arith;
  each = λ p z l g. elim (less_or_at p n l) [
    | inl b ↦ let (w, k, s) = h.each p z b g in (w, get-left ys (y ∷ []) p w k, s)
    | inr q ↦ (
      y,
      subst (λ (m : ℕ). slice_get (ys ++ y ∷ []) m ≡ Some y) (h.size ∙ sym q) (get-last ys y),
      subst (λ v. R v y) (get-same xs n x z at (subst (λ (m : ℕ). slice_get xs m ≡ Some z) q g)) r,
    )
  ];
})

pub matched-map : {X Y : Type 0} (R S : X → Y → Type 0) (n : ℕ) (xs : List X) (ys : List Y) → ((x : X) (y : Y) → R x y → S x y) → AreMatched R n xs ys → AreMatched S n xs ys
matched-map R S n xs ys f h = record { size = h.size; each = λ p x l g. let (y, k, r) = h.each p x l g in (y, k, f x y r) }

-- y is the row to which S leads, if it leads to one
abbrev pub IsRowFor : List ℕ → Diagram → Sorted → ℕ → Type 0
IsRowFor places d S y = (q : ℕ) → LeadsBy places d S q → y ≡ q

-- Each of the first n numbers has its own at this place of the list.
abbrev pub IsCounted : {Y : Type 0} → (ℕ → Y → Type 0) → ℕ → List Y → Type 0
IsCounted R n ys = (length ys ≡ n) × ((q : ℕ) → q < n → (y : _) × (slice_get ys q ≡ Some y) × R q y)

pub counted-more : {Y : Type 0} (R : ℕ → Y → Type 0) (n : ℕ) (ys new : List Y) (y : Y) → IsCounted R n ys → R n y → new ≡ ys ++ y ∷ [] → IsCounted R (n + 1) new
counted-more R n ys new y h here e = subst (IsCounted R (n + 1)) (sym e) (
  (let a = length-append ys (y ∷ []) in let s = h.0 in omega arith),
  λ q l. elim (less_or_at q n l) [
    | inl low ↦ let (z, g, r) = h.1 q low in (z, get-left ys (y ∷ []) q z g, r)
    | inr at ↦ (y, subst (λ (m : ℕ). slice_get (ys ++ y ∷ []) m ≡ Some y) (h.0 ∙ sym at) (get-last ys y), subst (λ (m : ℕ). R m y) (sym at) here)
  ],
)

-- p is the place of what row q leads to by T, if it leads to something
abbrev pub IsPlaceTo : List ℕ → Diagram → ℕ → Sorted → ℕ → ℕ → Type 0
IsPlaceTo places d width T q p = (R : Held) → EndsBy places d q T R → p ≡ place_in places width (sorted_of R)

-- p stands at place q of the list, if something does
abbrev pub IsCellOf : ℕ → List ℕ → ℕ → Type 0
IsCellOf q list p = (n : ℕ) → slice_get list q ≡ Some n → p ≡ n

-- list number c is the column of T
abbrev pub IsColumnFor : List ℕ → Diagram → ℕ → List (List ℕ) → Sorted → ℕ → Type 0
IsColumnFor places d width lists T c = (column : List ℕ) × (slice_get lists c ≡ Some column) × IsColumnOf places d width T column

pub rows-done : (places : List ℕ) (d : Diagram) (n : ℕ) (entries : List Sorted) (rows : List ℕ) → length entries ≡ n → AreMatched (IsRowFor places d) n entries rows → AreRowsOf places d entries rows
rows-done places d n entries rows e h = record {
  size = h.size ∙ sym e;
  each = λ p S q g l. let (y, k, r) = h.each p S (let b = get-within entries p S g in omega arith) g in k ∙ ap Some (r q l);
}

pub column-done : (places : List ℕ) (d : Diagram) (width : ℕ) (T : Sorted) (n height : ℕ) (column : List ℕ) → ((level : Level) → slice_get d.levels 1 ≡ Some level → height ≡ length level) → height ≤ n → IsCounted (IsPlaceTo places d width T) n column
    → IsColumnOf places d width T column
column-done places d width T n height column high e h q R b =
    let (level, row, end, there, g, k, r) = b in
    let (p, at, is) = h.1 q (let w = get-within level q row g in let f = high level there in omega arith) in
    at ∙ ap Some (is R b)

pub turned_row-done : (lists : List (List ℕ)) (q n : ℕ) (cells : List ℕ) → length lists ≤ n → AreMatched (IsCellOf q) n lists cells → IsTurnedRow lists q cells
turned_row-done lists q n cells e h c p list at g = let (y, k, r) = h.each c list (let b = get-within lists c list at in omega arith) at in k ∙ ap Some (r p g)

pub turned-done : (lists rows : List (List ℕ)) (n height : ℕ) → height ≤ n → IsCounted (IsTurnedRow lists) n rows → AreTurned height lists rows
turned-done lists rows n height e h q l = h.1 q (omega arith)

pub columns-kept : (places : List ℕ) (d : Diagram) (width n : ℕ) (old new : List (List ℕ)) (entries : List Sorted) (columns : List ℕ) → AreKept old new → AreMatched (IsColumnFor places d width old) n entries columns
    → AreMatched (IsColumnFor places d width new) n entries columns
columns-kept places d width n old new entries columns k h =
    matched-map (IsColumnFor places d width old) (IsColumnFor places d width new) n entries columns (λ T c (column, g, r). (column, k c column g, r)) h

pub columns-done : (places : List ℕ) (d : Diagram) (n : ℕ) (entries : List Sorted) (columns : List ℕ) (lists : List (List ℕ)) → length entries ≡ n → AreMatched (IsColumnFor places d n lists) n entries columns
    → AreColumnsOf places d entries columns lists
columns-done places d n entries columns lists e h = record {
  size = h.size ∙ sym e;
  each = λ p T g.
      let (c, k, (column, m, r)) = h.each p T (let b = get-within entries p T g in omega arith) g in
      (c, column, k, m, subst (λ (w : ℕ). IsColumnOf places d w T column) (sym e) r);
}
