-- One end of a place's texts is gone through.
use Rattle.std.proofs.Common.{◌≡◌, ◌+◌, ◌<◌, ◌≤◌, ◌⊎◌, ℕ, zero, suc, List, [], ◌∷◌, ◌++◌, length, Some, refl, sym, ap, inl, inr, arith, subst}
use Rattle.std.specs.List.{slice_get}
use Rattle.std.specs.Global.{Global}
use Rattle.std.specs.declared.vec.Vec.{Vec}
use Rattle.mw_chart.specs.Tree.{Tree, leaf, head, app}
use Rattle.mw_chart.specs.Spelling.{NextAt, TokenAt, IsItem, predicted, scanned, completed, grouped, alone, IsTable}
use Rattle.mw_chart.specs.Nothing.{Nothing}
use Rattle.mw_chart.specs.declared.table.Table.{Table}
use Rattle.mw_chart.specs.declared.table.Next.TheVariants.{Token, Hole, Whole}
use Rattle.mw_chart.specs.declared.item.ChartItem.{ChartItem}
use Rattle.mw_chart.specs.declared.item.Constituent.{Constituent}
use Rattle.mw_chart.specs.Listed.{inner}
use Rattle.mw_chart.specs.Chart.{Has, Holds, HoldsConstituent, RowHolds, Adds, CellsHold, GoesOn, Goes, Arrives, by_token, by_leaf, by_group, by_step, IsLive, IsCell, IsCells, IsRow, Predicts, AdvancesCell, KeepsCell, IsWithin, Scans, GroupsAny}
use Rattle.mw_chart.proofs.Lists.{get_below}
use Rattle.mw_chart.proofs.Cells.{has_more, has_each, app_left, app_right}
use Rattle.mw_chart.proofs.Begins.{le_or, ends, whole_moves, arrives, not_opens, is_live}
use Rattle.mw_chart.specs.declared.terminal.Terminal.{Terminal}

-- cells without their last
pub inner_front : {A : Type 0} → (xs : List (Vec A Global)) (x : Vec A Global) (j : ℕ) → j < length xs → inner (xs ++ x ∷ []) j ≡ inner xs j
inner_front [] x j h = absurd (omega arith)
inner_front (y ∷ ys) x zero h = refl
inner_front (y ∷ ys) x (suc j) h = inner_front ys x j (omega arith)

pub inner_last : {A : Type 0} → (xs : List (Vec A Global)) (x : Vec A Global) → inner (xs ++ x ∷ []) (length xs) ≡ x.items
inner_last [] x = refl
inner_last (y ∷ ys) x = inner_last ys x

pub within : (g : Table) (text : List Terminal) (at : ℕ) (row : List Constituent) → IsTable g → at ≤ length text → IsRow g text at (length text) row → IsWithin row at (length text)
within g text at row wf low is = λ j r got.
    let s = is.sound r.end r.state r.tree (j, r, got, refl, refl, refl) in
    (whole_moves g text r.state s.1.0 s.1.1 r.tree at r.end wf s.0 s.1.2, ends g text r.state r.tree at r.end s.0 low)

-- what a cell holds goes on
pub steps_on : (g : Table) (text : List Terminal) (i at : ℕ) (row : List Constituent) (s next e : ℕ) (v u : Tree) → IsRow g text at (length text) row
    → IsItem g text s v i at → Goes g text row at s v next u e → IsItem g text next u i e
steps_on g text i at row s next e v u is d (inl (x, st, got, end, same)) = rw (end, same) (scanned s next x v i at d st got)
steps_on g text i at row s next e v u is d (inr (kind, bound, w, precedence, t, st, held, wh, le, same)) =
    rw same (completed s next kind bound v i at d st w precedence t e (is.sound e w t held).0 wh le)

-- what the predicted hold
pub opens_sound : (g : Table) (text : List Terminal) (i at : ℕ) (cell : List ChartItem) (s : ℕ) (u : Tree) → ((w : ℕ) (t : Tree) → Holds cell w t → IsItem g text w t i at)
    → Predicts g text at cell s u → IsItem g text s u i at
opens_sound g text i at cell s u sound (j, item, got, (kind, precedence, w, t, held, wh, (n, production, there, (bound, st, le, live, same)))) =
    rw same (completed production.state s kind bound (head production.operator) i i (predicted production.state production.operator i (n, production, there, refl, refl)) st w precedence t at (sound w t (j, item, got, held)) wh le)

-- every whole text that ends here is held
pub holds_whole : (g : Table) (text : List Terminal) (i at done : ℕ) (cell : List ChartItem) (w kind precedence : ℕ) (t : Tree) → IsTable g → i < at → at ≤ done + 1
    → IsCell g text i done at cell → IsItem g text w t i at → NextAt g w (Whole kind precedence) → Has (Holds cell w) t
holds_whole g text i at done cell w kind precedence t wf h d1 is d wh =
    elim (arrives g text w t i at done wf d h d1) [ inl a ↦ is.complete w t a | inr o ↦ absurd (not_opens g text i at w kind precedence t wf o wh) ]

-- every text begun that ends here, and can go on, is held or predicted
abbrev pub Either : List ChartItem → List ChartItem → ℕ → Tree → Type 0
Either cell more s u = Holds cell s u ⊎ Holds more s u

pub holds_all : (g : Table) (text : List Terminal) (i at done : ℕ) (cell more : List ChartItem) (s : ℕ) (v : Tree) → IsTable g → i < at → at ≤ done + 1
    → IsCell g text i done at cell → Adds Nothing (Holds more) (Predicts g text at cell) → IsItem g text s v i at → IsLive g text at s → Has (Either cell more s) v
holds_all g text i at done cell more s v wf h d1 is op d live =
    elim (arrives g text s v i at done wf d h d1) [
      | inl a ↦ has_more (Holds cell s) (Either cell more s) v (λ u x. inl x) (is.complete s v a)
      | inr (s0, f, kind, bound, w, precedence, t, production, st, r, wh, le, same) ↦
          rw same
          (has_each (Holds cell w) (Either cell more s) (app (head f)) t (app_right (head f))
          (λ a (j, item, got, held).
          has_more (Holds more s) (Either cell more s) (app (head f) a) (λ u x. inr x)
          (op.has s (app (head f) a) (j, item, got, (kind, precedence, w, a, held, wh, (production.0, production.1, production.2, (bound, subst (λ (m : ℕ). NextAt g m (Hole kind bound s)) (sym production.3) st, le, live, ap (λ m. app (head m) a) (sym production.4)))))))
          (holds_whole g text i at done cell w kind precedence t wf h d1 is r wh))
    ]

-- the cells behind are those they were, with what goes on from here
pub turn_sound : (g : Table) (text : List Terminal) (i at done : ℕ) (row : List Constituent) (cell more : List ChartItem) (c0 c1 c2 : List (Vec ChartItem Global)) (j e s : ℕ) (v : Tree)
    → IsRow g text at (length text) row → IsCell g text i done at cell → Adds Nothing (Holds more) (Predicts g text at cell)
    → Adds (CellsHold c0) (CellsHold c1) (AdvancesCell g text row at cell) → Adds (CellsHold c1) (CellsHold c2) (AdvancesCell g text row at more)
    → ((s : ℕ) (v : Tree) → Holds (inner c0 j) s v → IsItem g text s v i e) → j + e ≡ length text
    → Holds (inner c2 j) s v → IsItem g text s v i e
turn_sound g text i at done row cell more c0 c1 c2 j e s v is here op a b before n x =
    elim (b.sound (j, s) v x) [
      | inl y ↦ elim (a.sound (j, s) v y) [
        | inl z ↦ before s v z
        | inr (m, item, got, (s0, v0, held, (e2, n2, go))) ↦
            let same : e2 ≡ e = omega (arith, n, n2) in
            let go2 : Goes g text row at s0 v0 s v e = subst (λ (z : ℕ). Goes g text row at s0 v0 s v z) same go in
            steps_on g text i at row s0 s e v0 v is (here.sound s0 v0 (m, item, got, held)) go2
      ]
      | inr (m, item, got, (s0, v0, held, (e2, n2, go))) ↦
          let same : e2 ≡ e = omega (arith, n, n2) in
          let go2 : Goes g text row at s0 v0 s v e = subst (λ (z : ℕ). Goes g text row at s0 v0 s v z) same go in
          elim (op.sound s0 v0 (m, item, got, held)) [
            | inl never ↦ absurd never
            | inr o ↦ steps_on g text i at row s0 s e v0 v is (opens_sound g text i at cell s0 v0 here.sound o) go2
          ]
    ]

-- a text that goes on from here is put into its cell
pub goes_on : (g : Table) (text : List Terminal) (i at done : ℕ) (row : List Constituent) (cell more : List ChartItem) (c0 c1 c2 : List (Vec ChartItem Global)) (j e s0 s : ℕ) (v0 v : Tree)
    → IsTable g → i < at → at ≤ done + 1
    → IsRow g text at (length text) row → IsCell g text i done at cell → Adds Nothing (Holds more) (Predicts g text at cell)
    → Adds (CellsHold c0) (CellsHold c1) (AdvancesCell g text row at cell) → Adds (CellsHold c1) (CellsHold c2) (AdvancesCell g text row at more)
    → j + e ≡ length text → IsItem g text s0 v0 i at → GoesOn g text at s0 v0 s v e → Has (CellsHold c2 (j, s)) v
goes_on g text i at done row cell more c0 c1 c2 j e s0 s v0 v wf h d1 is here op a b n d go =
    let Q : Tree → Type 0 = CellsHold c2 (j, s) in
    let all = holds_all g text i at done cell more s0 v0 wf h d1 here op d (is_live g text at s0 s e v0 v go) in
    let put : (x y : Tree) → Either cell more s0 x → Goes g text row at s0 x s y e → Has Q y
    = λ x y held goes. elim held [
      | inl (m, item, got, inside) ↦ has_more (CellsHold c1 (j, s)) Q y (b.kept (j, s)) (a.has (j, s) y (m, item, got, (s0, x, inside, (e, n, goes))))
      | inr (m, item, got, inside) ↦ b.has (j, s) y (m, item, got, (s0, x, inside, (e, n, goes)))
    ] in
    elim go [
      | inl (x, st, got, end, same) ↦
          rw same (has_each (Either cell more s0) Q (λ y. y) v0 (λ p q eq. eq) (λ y held. put y y held (inl (x, st, got, end, refl))) all)
      | inr (kind, bound, w, precedence, t, st, r, wh, le, same) ↦
          let low : e ≤ length text = omega (arith, n) in
          rw same
          (has_each (Either cell more s0) Q (λ y. app y t) v0 (λ p q eq. app_left p q t eq)
          (λ y held.
          has_each (HoldsConstituent row e w) Q (app y) t (app_right y)
          (λ z constituent. put y (app y z) held (inr (kind, bound, w, precedence, z, st, constituent, wh, le, refl)))
          (is.complete e w kind precedence t low r wh))
          all)
    ]

-- what arrives by a step from here, or did so before
pub by_arrival : (g : Table) (text : List Terminal) (i at done e s : ℕ) (v : Tree) (C : Type 0)
    → (Arrives g text i done s v e → C) → ((s0 : ℕ) (v0 : Tree) → IsItem g text s0 v0 i at → GoesOn g text at s0 v0 s v e → C)
    → at ≡ done + 1 → Arrives g text i at s v e → C
by_arrival g text i at done e s v C before here d1 (by_token s2 op x next st step got) = before (by_token s2 op x next st step got)
by_arrival g text i at done e s v C before here d1 (by_leaf s2 x l) = before (by_leaf s2 x l)
by_arrival g text i at done e s v C before here d1 (by_group w kind precedence m s2 t o r wh c gr) = before (by_group w kind precedence m s2 t o r wh c gr)
by_arrival g text i at done e s v C before here d1 (by_step s2 k next e2 v2 u low high d go) =
    elim (le_or k at) [
      | inl f ↦ before (by_step s2 k next e2 v2 u low (omega (arith, f, d1)) d go)
      | inr f ↦
          let same : k ≡ at = omega (arith, f, high) in
          here s2 v2 (subst (λ (m : ℕ). IsItem g text s2 v2 i m) same d) (subst (λ (m : ℕ). GoesOn g text m s2 v2 next u e2) same go)
    ]

pub turn_complete : (g : Table) (text : List Terminal) (i at done : ℕ) (row : List Constituent) (cell more : List ChartItem) (c0 c1 c2 : List (Vec ChartItem Global)) (j e s : ℕ) (v : Tree)
    → IsTable g → i < at → at ≡ done + 1
    → IsRow g text at (length text) row → IsCell g text i done at cell → Adds Nothing (Holds more) (Predicts g text at cell)
    → Adds (CellsHold c0) (CellsHold c1) (AdvancesCell g text row at cell) → Adds (CellsHold c1) (CellsHold c2) (AdvancesCell g text row at more)
    → ((s : ℕ) (v : Tree) → Arrives g text i done s v e → Has (Holds (inner c0 j) s) v) → j + e ≡ length text
    → Arrives g text i at s v e → Has (Holds (inner c2 j) s) v
turn_complete g text i at done row cell more c0 c1 c2 j e s v wf h d1 is here op a b before n arrived =
    let kept : (r : ℕ) (u : Tree) → Has (Holds (inner c0 j) r) u → Has (Holds (inner c2 j) r) u
    = λ r u x. has_more (Holds (inner c0 j) r) (Holds (inner c2 j) r) u (λ w y. b.kept (j, r) w (a.kept (j, r) w y)) x in
    by_arrival g text i at done e s v (Has (Holds (inner c2 j) s) v)
    (λ x. kept s v (before s v x))
    (λ s0 v0 d go. goes_on g text i at done row cell more c0 c1 c2 j e s0 s v0 v wf h (omega (arith, d1)) is here op a b n d go)
    d1 arrived

pub turned_cells : (g : Table) (text : List Terminal) (i at done : ℕ) (row : List Constituent) (cell more : List ChartItem) (c0 c1 c2 : List (Vec ChartItem Global))
    → IsTable g → i < at → at ≡ done + 1
    → IsRow g text at (length text) row → IsCell g text i done at cell → Adds Nothing (Holds more) (Predicts g text at cell)
    → Adds (CellsHold c0) (CellsHold c1) (AdvancesCell g text row at cell) → Adds (CellsHold c1) (CellsHold c2) (AdvancesCell g text row at more)
    → length c2 ≡ length c0 → IsCells g text i done c0 → IsCells g text i at c2
turned_cells g text i at done row cell more c0 c1 c2 wf h d1 is here op a b len cells = λ j e n low.
    let old = cells j e n (omega (arith, low, len)) in
    record {
      sound = λ s v x. turn_sound g text i at done row cell more c0 c1 c2 j e s v is here op a b old.sound n x;
      complete = λ s v x. turn_complete g text i at done row cell more c0 c1 c2 j e s v wf h d1 is here op a b old.complete n x;
    }

pub turned_row : (g : Table) (text : List Terminal) (i at done : ℕ) (cell : List ChartItem) (r0 r1 : List Constituent) → IsTable g → i < at → at ≡ done + 1
    → IsCell g text i done at cell → Adds (RowHolds r0) (RowHolds r1) (KeepsCell g at cell) → IsRow g text i done r0 → IsRow g text i at r1
turned_row g text i at done cell r0 r1 wf h d1 here a row = record {
  sound = λ e w t x. elim (a.sound (e, w) t x) [
    | inl y ↦ row.sound e w t y
    | inr (j, item, got, (same, held, wh)) ↦ (subst (λ (m : ℕ). IsItem g text w t i m) (sym same) (here.sound w t (j, item, got, held)), wh)
  ];
  complete = λ e w kind precedence t low d wh. elim (le_or e at) [
    | inl f ↦ has_more (HoldsConstituent r0 e w) (HoldsConstituent r1 e w) t (a.kept (e, w)) (row.complete e w kind precedence t (omega (arith, f, d1)) d wh)
    | inr f ↦
        let same : e ≡ at = omega (arith, f, low) in
        let all = holds_whole g text i at done cell w kind precedence t wf h (omega (arith, d1)) here (subst (λ (m : ℕ). IsItem g text w t i m) same d) wh in
        has_each (Holds cell w) (HoldsConstituent r1 e w) (λ y. y) t (λ p q eq. eq) (λ y (j, item, got, held). a.has (e, w) y (j, item, got, (same, held, (kind, precedence, wh)))) all
  ];
}

no_item : (c0 : List (Vec ChartItem Global)) (j s : ℕ) (v : Tree) → inner c0 j ≡ [] → Holds (inner c0 j) s v → ⊥
no_item c0 j s v none (k, item, got, held) = let bad : slice_get [] k ≡ Some item = subst (λ (l : List ChartItem). slice_get l k ≡ Some item) none got in let h : ⊥ = (cc) in h

begun_sound : (g : Table) (text : List Terminal) (i : ℕ) (c0 c1 : List (Vec ChartItem Global)) (j e s : ℕ) (v : Tree) → ((j : ℕ) → inner c0 j ≡ [])
    → Adds (CellsHold c0) (CellsHold c1) (Scans g text i) → j + e ≡ length text → Holds (inner c1 j) s v → IsItem g text s v i e
begun_sound g text i c0 c1 j e s v none a n x =
    elim (a.sound (j, s) v x) [
      | inl y ↦ absurd (no_item c0 j s v (none j) y)
      | inr f ↦ elim f [
        | inl (m, production, got, (token, st, there, n2, same)) ↦
            let end : e ≡ i + 1 = omega (arith, n, n2) in
            rw (end, same) (scanned production.state s token (head production.operator) i i (predicted production.state production.operator i (m, production, got, refl, refl)) st there)
        | inr (word, here, (m, l, got, (n2, state, same))) ↦
            let end : e ≡ i + 1 = omega (arith, n, n2) in
            rw (end, same) (alone s l.value i (word, here, (m, l, got, sym state, refl)))
      ]
    ]

first_sound : (g : Table) (text : List Terminal) (i : ℕ) (row : List Constituent) (c0 c1 c2 : List (Vec ChartItem Global)) (j e s : ℕ) (v : Tree) → ((j : ℕ) → inner c0 j ≡ [])
    → Adds (CellsHold c0) (CellsHold c1) (Scans g text i)
    → ((TokenAt text i g.open) × Adds (CellsHold c1) (CellsHold c2) (GroupsAny g text row)) ⊎ ((TokenAt text i g.open → ⊥) × (c2 ≡ c1))
    → IsRow g text (i + 1) (length text) row → j + e ≡ length text → Holds (inner c2 j) s v → IsItem g text s v i e
first_sound g text i row c0 c1 c2 j e s v none a (inr (no_open, same)) is n x =
    begun_sound g text i c0 c1 j e s v none a n (subst (λ (c : List (Vec ChartItem Global)). Holds (inner c j) s v) same x)
first_sound g text i row c0 c1 c2 j e s v none a (inl (open_there, b)) is n x =
    elim (b.sound (j, s) v x) [
      | inl y ↦ begun_sound g text i c0 c1 j e s v none a n y
      | inr (m, r, got, (kind, precedence, wh, close_there, to, n2, same)) ↦
          let end : e ≡ r.end + 1 = omega (arith, n, n2) in
          rw (end, same) (grouped r.state kind precedence r.tree i r.end open_there (is.sound r.end r.state r.tree (m, r, got, refl, refl, refl)).0 wh close_there s to)
    ]

first_complete : (g : Table) (text : List Terminal) (i : ℕ) (row : List Constituent) (c0 c1 c2 : List (Vec ChartItem Global)) (j e s : ℕ) (v : Tree)
    → Adds (CellsHold c0) (CellsHold c1) (Scans g text i)
    → ((TokenAt text i g.open) × Adds (CellsHold c1) (CellsHold c2) (GroupsAny g text row)) ⊎ ((TokenAt text i g.open → ⊥) × (c2 ≡ c1))
    → IsRow g text (i + 1) (length text) row → j + e ≡ length text → Arrives g text i i s v e → Has (Holds (inner c2 j) s) v
first_complete g text i row c0 c1 c2 j e s v a b is n (by_token s2 op x next st step got) =
    let first = a.has (j, s) v (inl (st.0, st.1, st.2, (x, subst (λ (m : ℕ). NextAt g m (Token x next)) (sym st.3) step, got, n, ap head (sym st.4)))) in
    elim b [
      | inl (open_there, more) ↦ has_more (CellsHold c1 (j, s)) (CellsHold c2 (j, s)) v (more.kept (j, s)) first
      | inr (no_open, same) ↦ subst (λ (c : List (Vec ChartItem Global)). Has (Holds (inner c j) s) v) (sym same) first
    ]
first_complete g text i row c0 c1 c2 j e s v a b is n (by_leaf s2 x (word, here, (m, l, got, state, tree))) =
    let first = a.has (j, s) v (inr (word, here, (m, l, got, (n, sym state, ap leaf (sym tree))))) in
    elim b [
      | inl (open_there, more) ↦ has_more (CellsHold c1 (j, s)) (CellsHold c2 (j, s)) v (more.kept (j, s)) first
      | inr (no_open, same) ↦ subst (λ (c : List (Vec ChartItem Global)). Has (Holds (inner c j) s) v) (sym same) first
    ]
first_complete g text i row c0 c1 c2 j e s v a b is n (by_group w kind precedence m s2 t o r wh c gr) =
    elim b [
      | inl (open_there, more) ↦
          let low : m ≤ length text = (let q = get_below text m c.0 c.1 in omega (arith, q)) in
          has_each (HoldsConstituent row m w) (CellsHold c2 (j, s)) (λ y. y) v (λ p q eq. eq)
          (λ y (k, x, got, at, state, tree).
          more.has (j, s) y (k, x, got, (kind, precedence, subst (λ (z : ℕ). NextAt g z (Whole kind precedence)) (sym state) wh, subst (λ (z : ℕ). TokenAt text z g.close) (sym at) c, gr, omega (arith, n, at), sym tree)))
          (is.complete m w kind precedence v low r wh)
      | inr (no_open, same) ↦ absurd (no_open o)
    ]
first_complete g text i row c0 c1 c2 j e s v a b is n (by_step s2 k next e2 v2 u low high d go) = absurd (omega (arith, low, high))

-- the first cells
pub first_cells : (g : Table) (text : List Terminal) (i : ℕ) (row : List Constituent) (c0 c1 c2 : List (Vec ChartItem Global)) → ((j : ℕ) → inner c0 j ≡ [])
    → Adds (CellsHold c0) (CellsHold c1) (Scans g text i)
    → ((TokenAt text i g.open) × Adds (CellsHold c1) (CellsHold c2) (GroupsAny g text row)) ⊎ ((TokenAt text i g.open → ⊥) × (c2 ≡ c1))
    → IsRow g text (i + 1) (length text) row → IsCells g text i i c2
first_cells g text i row c0 c1 c2 none a b is = λ j e n low. record {
  sound = λ s v x. first_sound g text i row c0 c1 c2 j e s v none a b is n x;
  complete = λ s v x. first_complete g text i row c0 c1 c2 j e s v a b is n x;
}
