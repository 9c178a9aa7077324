use Rattle.std.specs.Prelude.{◌≡◌, ◌≢◌, ℕ, ◌+◌, ◌-◌, ◌<◌, ◌≤◌, List, [], ◌∷◌, ◌++◌, length, cond, max, slice_index, nat_lt, eqb}
use Rattle.atomic_table.specs.Table.{Me, Step}
use Rattle.atomic_table.specs.Seated.{TableId}
use mathlib.Core.Option.{some}
use lib.ListN.{get_elem?}
use Rattle.mw_board.specs.declared.view.View.{View}

-- 1 where they are the same, else 0
abbrev pub is : ℕ → ℕ → ℕ
is x y = cond (eqb x y) 1 0

-- how often x stands in a list
abbrev pub times : ℕ → List ℕ → ℕ
times x [] = 0
times x (y ∷ ys) = is y x + times x ys

-- how many of these pairs are of the element i
abbrev pub elements : ℕ → List (ℕ × ℕ) → ℕ
elements i [] = 0
elements i (p ∷ ps) = is p.0 i + elements i ps

-- the pairs of other elements
abbrev pub without : ℕ → List (ℕ × ℕ) → List (ℕ × ℕ)
without i [] = []
without i (p ∷ ps) = cond (eqb p.0 i) (without i ps) (p ∷ without i ps)

-- one more than the greatest number, or 0
abbrev pub mark_of : List ℕ → ℕ
mark_of [] = 0
mark_of (x ∷ xs) = max (x + 1) (mark_of xs)

-- the sum of what a function has for each view
abbrev pub total : (View → ℕ) → List View → ℕ
total f [] = 0
total f (v ∷ vs) = f v + total f vs

abbrev pub AllViews : (View → Type 0) → List View → Type 0
AllViews P [] = Unit {0}
AllViews P (v ∷ vs) = P v × AllViews P vs

abbrev pub AllHeld : (ℕ × ℕ → Type 0) → List (ℕ × ℕ) → Type 0
AllHeld P [] = Unit {0}
AllHeld P (p ∷ ps) = P p × AllHeld P ps

-- the element's word is the number's, and the number is the seat's own
pub record Stands (words numbers : List ℕ) (p : ℕ × ℕ) : Type 0 where
  pub above : 0 < p.0
  pub word : slice_index words p.0 ≡ p.1 + 1
  pub own : 0 < times p.1 numbers

-- 1 for a number below w, else 0
abbrev pub below : ℕ → ℕ → ℕ
below x w = cond (nat_lt x w) 1 0

-- 0 for the word 0, else 1
abbrev pub full : ℕ → ℕ
full w = cond (eqb w 0) 0 1

-- Word 0 counts the numbers that were given, each to one view; a word above 0 is one more than the number of the one view
-- that holds its element
pub record Kept (n : ℕ) (words : List ℕ) (views : List View) : Type 0 where
  pub sized : length words ≡ n + 1
  pub few : slice_index words 0 ≤ 64
  pub seen : AllViews (λ v. v.saw ≤ slice_index words 0) views
  pub given : (x : ℕ) → total (λ v. times x v.numbers) views ≡ below x (slice_index words 0)
  pub taken : (i : ℕ) → 0 < i → total (λ v. elements i v.held) views ≡ full (slice_index words i)
  pub stands : AllViews (λ v. AllHeld (Stands words v.numbers) v.held) views

-- the views that steps leave
abbrev pub nothing : View
nothing = record { numbers = []; held = []; saw = 0; misses = [] }

abbrev pub has_seen : View → ℕ → View
has_seen v m = record { numbers = v.numbers; held = v.held; saw = m; misses = v.misses }

abbrev pub has_enrolled : View → ℕ → View
has_enrolled v k = record { numbers = v.numbers ++ k ∷ []; held = v.held; saw = k + 1; misses = v.misses }

abbrev pub has_taken : View → ℕ → ℕ → View
has_taken v i k = record { numbers = v.numbers; held = v.held ++ (i, k) ∷ []; saw = v.saw; misses = v.misses }

abbrev pub has_missed : View → ℕ → ℕ → View
has_missed v i w = record { numbers = v.numbers; held = v.held; saw = v.saw; misses = v.misses ++ (i, w) ∷ [] }

abbrev pub has_put : View → ℕ → View
has_put v i = record { numbers = v.numbers; held = without i v.held; saw = v.saw; misses = v.misses }

abbrev pub has_joined : View → View → View
has_joined v w = record { numbers = v.numbers ++ w.numbers; held = v.held ++ w.held; saw = v.saw; misses = v.misses }

-- what contracts see of a seat, and of a board
pub record Worker : Type 0 where
  pub board : TableId
  pub view : View

pub record Ground : Type 0 where
  pub name : TableId
  pub count : ℕ

-- what the steps tell
abbrev pub Looks : {S : Type 0} → Step S → Me S View → ℕ → Me S View → Type 0
Looks s v m w = (w.0 ≡ has_seen v.0 m) × (w.1 ≡ v.1) × (v.0.saw ≤ m) × (m ≤ 64)

abbrev pub Enrols : {S : Type 0} → Step S → Me S View → ℕ → Me S View → Type 0
Enrols s v m w = (w.1 ≡ v.1) × (m ≡ s.first → w.0 ≡ has_enrolled v.0 m)
    × (m ≢ s.first → (w.0 ≡ has_seen v.0 m) × (s.first < m) × (m ≤ 64))

abbrev pub Takes : {S : Type 0} → Step S → Me S View → ℕ → Me S View → Type 0
Takes s v m w = (w.1 ≡ v.1) × (m ≡ 0 → (w.0 ≡ has_taken v.0 s.word (s.second - 1)) × (elements s.word v.0.held ≡ 0))
    × (m ≢ 0 → (w.0 ≡ has_missed v.0 s.word m) × (elements s.word v.0.held ≡ 0 → times (m - 1) v.0.numbers ≡ 0))

abbrev pub Puts : {S : Type 0} → Step S → Me S View → ℕ → Me S View → Type 0
Puts s v m w = (w.1 ≡ v.1) × (w.0 ≡ has_put v.0 s.word)

-- a load that changes nothing: no element is held twice
abbrev pub Tells : {S : Type 0} → Step S → Me S View → ℕ → Me S View → Type 0
Tells s v m w = (w ≡ v) × ((i : ℕ) → 0 < i → elements i v.0.held ≤ 1)

-- The board's rule in the words of the subject
pub record BoardRule (words : List ℕ) (views : List View) : Type 0 where
  pub most : slice_index words 0 ≤ 64
  pub seen : (seat : ℕ) (v : View) → get_elem? views seat ≡ some v → v.saw ≤ slice_index words 0
  pub below_count : (seat : ℕ) (v : View) (x : ℕ) → get_elem? views seat ≡ some v
      → 0 < times x v.numbers → x < slice_index words 0
  pub once : (seat : ℕ) (v : View) (x : ℕ) → get_elem? views seat ≡ some v → times x v.numbers ≤ 1
  pub differ : (seat seat' : ℕ) (v v' : View) (x : ℕ) → get_elem? views seat ≡ some v → get_elem? views seat' ≡ some v'
      → 0 < times x v.numbers → 0 < times x v'.numbers → seat ≡ seat'
  pub stand : (seat : ℕ) (v : View) → get_elem? views seat ≡ some v → AllHeld (Stands words v.numbers) v.held
  pub holder : (i : ℕ) → 0 < i → slice_index words i ≢ 0
      → (seat : ℕ) × (v : View) × (get_elem? views seat ≡ some v) × (0 < elements i v.held)
  pub held_once : (seat : ℕ) (v : View) (i : ℕ) → get_elem? views seat ≡ some v → 0 < i → elements i v.held ≤ 1
  pub held_apart : (seat seat' : ℕ) (v v' : View) (i : ℕ) → get_elem? views seat ≡ some v → get_elem? views seat' ≡ some v'
      → 0 < i → 0 < elements i v.held → 0 < elements i v'.held → seat ≡ seat'
