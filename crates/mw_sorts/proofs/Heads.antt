-- Heads stand for all places: what holds of places with one row and column together holds of all where it holds of the heads. And the groupings of places.
use Rattle.std.proofs.Common.{◌≡◌, ◌∙◌, ◌⊎◌, ℕ, ◌<◌, ◌≤◌, ◌+◌, List, [], ◌∷◌, ◌++◌, length, get_or, ap, sym, subst, inl, inr, arith}
use Rattle.std.specs.Prelude.{slice_get, Some}
use Rattle.std.proofs.lemmas.Bool.{cases_eq, cases_lt}
use Rattle.std.proofs.lemmas.List.{get_or_read}
use Rattle.mw_sorts.specs.declared.grouping.square.Square.{Square}
use Rattle.mw_sorts.specs.Squares.{IsSquare, width, product, Agrees, AreHeads}
use Rattle.mw_sorts.specs.States.{AreKept}
use Rattle.mw_sorts.proofs.Getting.{get-none, get-same, get-left, get-last, get-push, get-within, get-there}
use Rattle.mw_sorts.proofs.Growing.{less_or_at}

module _ (rows columns heads : List ℕ) (h : AreHeads rows columns heads) (P : ℕ → Type 0)
    (kept : (i p : ℕ) → get_or rows i 0 ≡ get_or rows p 0 → get_or columns i 0 ≡ get_or columns p 0 → P i → P p) where
  pub heads-all : ((m i : ℕ) → slice_get heads m ≡ Some i → P i) → (p : ℕ) → p < length rows → P p
  heads-all all p l = let (m, i, g, b, r, c) = h.all p l in kept i p r c (all m i g)

  -- all places before head number n, by the heads before it
  pub heads-before : (n j : ℕ) → slice_get heads n ≡ Some j → ((m i : ℕ) → m < n → slice_get heads m ≡ Some i → P i) → (p : ℕ) → p < j → P p
  heads-before n j at before p l =
      let w = h.within n j at in
      let (m, i, g, b, r, c) = h.all p (omega arith) in
      elim (cases_lt m n) [
        | inl s ↦ kept i p r c (before m i s g)
        | inr s ↦ absurd (elim (cases_eq m n) [
          | inl e ↦ let same : i ≡ j = get-same heads n i j (subst (λ (x : ℕ). slice_get heads x ≡ Some i) e g) at in omega arith
          | inr d ↦ let up = h.rising n m j i (omega arith) at g in omega arith
        ])
      ]

module _ (q : Square) where
  column-same : (x i p : ℕ) → get_or q.columns.items i 0 ≡ get_or q.columns.items p 0 → product q x i ≡ product q x p
  column-same x i p e = ap (λ (c : ℕ). get_or (get_or q.results (get_or q.rows.items x 0) []) c 0) e

  row-same : (i p y : ℕ) → get_or q.rows.items i 0 ≡ get_or q.rows.items p 0 → product q i y ≡ product q p y
  row-same i p y e = ap (λ (r : ℕ). get_or (get_or q.results r []) (get_or q.columns.items y 0) 0) e

  pub agrees-last : (i j k p : ℕ) → get_or q.columns.items k 0 ≡ get_or q.columns.items p 0 → Agrees q i j k → Agrees q i j p
  agrees-last i j k p e a = sym (column-same (product q i j) k p e) ∙ a ∙ ap (product q i) (column-same j k p e)

  pub agrees-middle : (i j k p : ℕ) → get_or q.rows.items j 0 ≡ get_or q.rows.items p 0 → get_or q.columns.items j 0 ≡ get_or q.columns.items p 0 → Agrees q i j k → Agrees q i p k
  agrees-middle i j k p r c a = ap (λ (x : ℕ). product q x k) (sym (column-same i j p c)) ∙ a ∙ ap (product q i) (row-same j p k r)

  pub agrees-first : (i j k p : ℕ) → get_or q.rows.items i 0 ≡ get_or q.rows.items p 0 → Agrees q i j k → Agrees q p j k
  agrees-first i j k p r a = ap (λ (x : ℕ). product q x k) (sym (row-same i p j r)) ∙ a ∙ row-same i p (product q j k) r

-- the row and the column that are read lead to the product
pub product-read : (q : Square) (i j c r : ℕ) (cells : List ℕ) → IsSquare q → i < width q → j < width q → c ≡ get_or q.columns.items j c → r ≡ get_or q.rows.items i r → cells ≡ get_or q.results r cells → (c < length cells) × (get_or cells c 0 ≡ product q i j)
product-read q i j c r cells h li lj ce re ge =
    let c0 : c ≡ get_or q.columns.items j 0 = get_or_read q.columns.items j c (let s = h.size in omega arith) ce 0 in
    let r0 : r ≡ get_or q.rows.items i 0 = get_or_read q.rows.items i r li re 0 in
    let there : r < length q.results = subst (λ (x : ℕ). x < length q.results) (sym r0) (h.rows i li) in
    let same : cells ≡ get_or q.results (get_or q.rows.items i 0) [] = get_or_read q.results r cells there ge [] ∙ ap (λ (x : ℕ). get_or q.results x []) r0 in (
      subst (λ (l : List ℕ). c < length l) (sym same) (subst (λ (x : ℕ). x < length (get_or q.results (get_or q.rows.items i 0) [])) (sym c0) (h.columns i j li lj)),
      ap (λ (l : List ℕ). get_or l c 0) same ∙ ap (λ (x : ℕ). get_or (get_or q.results (get_or q.rows.items i 0) []) x 0) c0,
    )

-- what holds of all before n, and of what stands there, holds of all up to n
pub visited-more : {X : Type 0} (xs : List X) (n : ℕ) (x : X) (P : X → Type 0) → ((m : ℕ) (y : X) → m < n → slice_get xs m ≡ Some y → P y) → slice_get xs n ≡ Some x → P x
    → (m : ℕ) (y : X) → m < n + 1 → slice_get xs m ≡ Some y → P y
visited-more xs n x P all at here m y l g = elim (less_or_at m n l) [
  | inl b ↦ all m y b g
  | inr e ↦ subst P (get-same xs n x y at (subst (λ (k : ℕ). slice_get xs k ≡ Some y) e g)) here
]

pub visited-all : {X : Type 0} (xs : List X) (n : ℕ) (P : X → Type 0) → length xs ≤ n → ((m : ℕ) (y : X) → m < n → slice_get xs m ≡ Some y → P y) → (m : ℕ) (y : X) → slice_get xs m ≡ Some y → P y
visited-all xs n P l all m y g = all m y (let b = get-within xs m y g in omega arith) g

-- the heads of the first places
pub record AreHeadsSoFar (rows columns : List ℕ) (n : ℕ) (seen : List (List ℕ)) (heads : List ℕ) : Type 0 where
  pub rising : (m l i j : ℕ) → m < l → slice_get heads m ≡ Some i → slice_get heads l ≡ Some j → i < j
  pub within : (m i : ℕ) → slice_get heads m ≡ Some i → i < n
  pub all : (p : ℕ) → p < n
      → (m : ℕ) × (i : ℕ) × (slice_get heads m ≡ Some i) × (i ≤ p) × (get_or rows i 0 ≡ get_or rows p 0) × (get_or columns i 0 ≡ get_or columns p 0)
  pub met : (s : ℕ) (list : List ℕ) → slice_get seen s ≡ Some list → (p : ℕ) × (p < n) × (list ≡ get_or rows p 0 ∷ get_or columns p 0 ∷ [])

-- what is seen behind one place more
abbrev pub Seen : List ℕ → List ℕ → ℕ → List (List ℕ) → Type 0
Seen rows columns n seen = (s : ℕ) (list : List ℕ) → slice_get seen s ≡ Some list → (p : ℕ) × (p < n + 1) × (list ≡ get_or rows p 0 ∷ get_or columns p 0 ∷ [])

pub seen-more : (rows columns : List ℕ) (n : ℕ) (seen new : List (List ℕ)) (heads : List ℕ) → AreHeadsSoFar rows columns n seen heads
    → ((s : ℕ) (l : List ℕ) → slice_get new s ≡ Some l → (slice_get seen s ≡ Some l) ⊎ (l ≡ get_or rows n 0 ∷ get_or columns n 0 ∷ [])) → Seen rows columns n new
seen-more rows columns n seen new heads h only s list g = elim (only s list g) [
  | inl old ↦ let (p, l, e) = h.met s list old in (p, omega arith, e)
  | inr e ↦ (n, omega arith, e)
]

-- a place more, which is a head
pub heads-more : (rows columns : List ℕ) (n : ℕ) (seen new : List (List ℕ)) (heads more : List ℕ) → AreHeadsSoFar rows columns n seen heads → more ≡ heads ++ n ∷ [] → Seen rows columns n new → AreHeadsSoFar rows columns (n + 1) new more
heads-more rows columns n seen new heads more h e met = subst (λ (is : List ℕ). AreHeadsSoFar rows columns (n + 1) new is) (sym e) (record {
  rising = λ m l i j b g f. elim (get-push heads n m i g) [
    | inl a ↦ elim (get-push heads n l j f) [
      | inl c ↦ h.rising m l i j b a c
      | inr c ↦ let w = h.within m i a in let z = c.1 in omega arith
    ]
    | inr a ↦ absurd (elim (get-push heads n l j f) [
      | inl c ↦ let w = get-within heads l j c in let z = a.0 in omega arith
      | inr c ↦ let z = a.0 in let y = c.0 in omega arith
    ])
  ];
  within = λ m i g. elim (get-push heads n m i g) [ inl a ↦ let w = h.within m i a in omega arith | inr a ↦ let z = a.1 in omega arith ];
  all = λ p l. elim (less_or_at p n l) [
    | inl b ↦ let (m, i, g, c, r, d) = h.all p b in (m, i, get-left heads (n ∷ []) m i g, c, r, d)
    | inr s ↦ (length heads, n, get-last heads n, omega arith, ap (λ (x : ℕ). get_or rows x 0) (sym s), ap (λ (x : ℕ). get_or columns x 0) (sym s))
  ];
  met = met;
})

-- a place more, whose row and column were seen
pub heads-seen : (rows columns : List ℕ) (n number : ℕ) (seen new : List (List ℕ)) (heads : List ℕ) → AreHeadsSoFar rows columns n seen heads → AreKept seen new → slice_get new number ≡ Some (get_or rows n 0 ∷ get_or columns n 0 ∷ []) → number < length seen
    → Seen rows columns n new → AreHeadsSoFar rows columns (n + 1) new heads
heads-seen rows columns n number seen new heads h kept at known met =
    let (old, there) = get-there seen number known in
    let same : old ≡ get_or rows n 0 ∷ get_or columns n 0 ∷ [] = get-same new number old _ (kept number old there) at in
    let (p, l, e) = h.met number old there in
    let both : get_or rows p 0 ∷ get_or columns p 0 ∷ [] ≡ get_or rows n 0 ∷ get_or columns n 0 ∷ [] = sym e ∙ same in
    let row : get_or rows p 0 ≡ get_or rows n 0 = cc in
    let column : get_or columns p 0 ≡ get_or columns n 0 = cc in
    let (m, i, g, b, r, c) = h.all p l in
    record {
      rising = h.rising;
      within = λ m i g. let w = h.within m i g in omega arith;
      all = λ x k. elim (less_or_at x n k) [
        | inl y ↦ h.all x y
        | inr s ↦ (m, i, g, omega arith, r ∙ row ∙ ap (λ (z : ℕ). get_or rows z 0) (sym s), c ∙ column ∙ ap (λ (z : ℕ). get_or columns z 0) (sym s))
      ];
      met = met;
    }

-- all of them
pub heads-done : (rows columns : List ℕ) (n : ℕ) (seen : List (List ℕ)) (heads : List ℕ) → length rows ≡ n → AreHeadsSoFar rows columns n seen heads → AreHeads rows columns heads
heads-done rows columns n seen heads e h = record {
  rising = h.rising;
  within = λ m i g. let w = h.within m i g in omega arith;
  all = λ p l. h.all p (omega arith);
}

-- the same of equal lists
pub heads-same : {rows rs columns cs heads hs : List ℕ} → rs ≡ rows → cs ≡ columns → hs ≡ heads → AreHeads rs cs heads → AreHeads rows columns hs
heads-same {rows} {rs} {columns} {cs} {heads} {hs} r c h a = subst (λ (x : List ℕ). AreHeads x columns hs) r (subst (λ (x : List ℕ). AreHeads rs x hs) c (subst (λ (x : List ℕ). AreHeads rs cs x) (sym h) a))
