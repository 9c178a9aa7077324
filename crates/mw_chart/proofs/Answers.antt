-- What a whole text spells, as listed.
use Rattle.std.proofs.Common.{◌≡◌, ◌≤◌, ◌∙◌, ℕ, List, [], ◌∷◌, ◌++◌, length, Some, Option, refl, sym, ap, inl, inr, arith, subst, get_or}
use Rattle.std.specs.List.{slice_get}
use Rattle.mw_chart.specs.Tree.{Tree}
use Rattle.mw_chart.specs.Spelling.{NextAt, IsItem}
use Rattle.mw_chart.specs.Nothing.{Nothing}
use Rattle.mw_chart.specs.Answer.{IsWanted, IsSpelled, IsPair}
use Rattle.mw_chart.specs.Readings.{Lists, AreReadings, ListedBy, ListedAny, ArePlaces, IsAt}
use Rattle.mw_chart.specs.declared.table.Table.{Table}
use Rattle.mw_chart.specs.declared.table.Next.TheVariants.{Whole}
use Rattle.mw_chart.specs.declared.parsing.Places.{Places}
use Rattle.mw_chart.specs.declared.item.Constituent.{Constituent}
use Rattle.mw_chart.specs.declared.reading.Reading.{Reading}
use Rattle.mw_chart.specs.declared.terminal.Terminal.{Terminal}
use Rattle.mw_chart.specs.Chart.{Has, HoldsConstituent, IsRow, Adds}
use Rattle.mw_chart.proofs.Lists.{one_there, get_same, get_left, get_last, get_back}
use Rattle.mw_chart.proofs.Cells.{has_each}
use Rattle.mw_chart.proofs.Adding.{adds_as}

-- a tree more
pub lists_push : (listed : List Reading) (kind : ℕ) (t : Tree)
    → Adds (Lists listed) (Lists (listed ++ record { kind = kind; tree = t } ∷ [])) (λ k u. (kind ≡ k) × (t ≡ u))
lists_push listed kind t =
    let new : Reading = record { kind = kind; tree = t } in
    record {
      kept = λ k u (j, x, got, a, b). (j, x, get_left listed (new ∷ []) j x got, a, b);
      sound = λ k u (j, x, got, a, b). elim (get_back listed new j x got) [
        | inl h ↦ inl (j, x, h, a, b)
        | inr e ↦ inr (ap (λ (y : Reading). y.kind) e ∙ a, ap (λ (y : Reading). y.tree) e ∙ b)
      ];
      has = λ k u (a, b). inl (length listed, new, get_last listed new, a, b);
    }

pub list_put : (P Q : ℕ → Tree → Type 0) (g : Table) (n : ℕ) (r : Constituent) (kind precedence : ℕ) (t : Tree) → NextAt g r.state (Whole kind precedence) → r.end ≡ n
    → kind ≤ g.kinds → t ≡ r.tree → Adds P Q (λ k u. (kind ≡ k) × (t ≡ u)) → Adds P Q (ListedBy g n r)
list_put P Q g n r kind precedence t wh end within same a =
    adds_as P Q (λ k u. (kind ≡ k) × (t ≡ u)) (ListedBy g n r) a
    (λ k u (x, y). (precedence, subst (λ (m : ℕ). NextAt g r.state (Whole m precedence)) x wh, end, subst (λ (m : ℕ). m ≤ g.kinds) x within, sym y ∙ same))
    (λ k u (precedence2, wh2, end2, within2, z). ((let q = one_there _ r.state _ _ wh2 wh in cc), same ∙ sym z))

pub are_spelled : (g : Table) (text : List Terminal) (row : List Constituent) (listed : List Reading) → IsRow g text 0 (length text) row
    → Adds Nothing (Lists listed) (ListedAny g (length text) row) → AreReadings g text listed
are_spelled g text row listed is a = record {
  within = λ kind t held. elim (a.sound kind t held) [
    | inl never ↦ absurd never
    | inr (j, r, got, (precedence, wh, end, within, same)) ↦ within
  ];
  sound = λ kind t held. elim (a.sound kind t held) [
    | inl never ↦ absurd never
    | inr (j, r, got, (precedence, wh, end, within, same)) ↦
        let d = (is.sound r.end r.state r.tree (j, r, got, refl, refl, refl)).0 in
        rw same (precedence, (r.state, subst (λ (e : ℕ). IsItem g text r.state r.tree 0 e) end d, wh))
  ];
  complete = λ kind t within (precedence, (w, d, wh)).
      has_each (HoldsConstituent row (length text) w) (Lists listed kind) (λ y. y) t (λ p q e. e)
      (λ y (j, r, got, end, state, tree). a.has kind y (j, r, got, (precedence, subst (λ (m : ℕ). NextAt g m (Whole kind precedence)) (sym state) wh, end, within, sym tree)))
      (is.complete (length text) w kind precedence t (omega arith) d wh);
}

-- the listed tree that code read
pub item_is : (listed : List Reading) (k : ℕ) (x y : Reading) (t : Tree) → slice_get listed k ≡ Some x → y ≡ get_or listed k y → t ≡ y.tree → x.tree ≡ t
item_is listed k x y t got is same = ap (λ (z : Reading). z.tree) (sym (is ∙ get_same listed k x y got)) ∙ sym same

pub item_spelled : (g : Table) (wanted : Option ℕ) (text : List Terminal) (listed : List Reading) (k : ℕ) (x : Reading) (t : Tree) → AreReadings g text listed
    → slice_get listed k ≡ Some x → IsWanted wanted x.kind → x.tree ≡ t → IsSpelled g wanted text t
item_spelled g wanted text listed k x t are got want same = (x.kind, are.within x.kind t (k, x, got, refl, same), want, are.sound x.kind t (k, x, got, refl, same))

pub none_spelled : (g : Table) (wanted : Option ℕ) (text : List Terminal) (listed : List Reading) → AreReadings g text listed
    → ((k : ℕ) (x : Reading) → slice_get listed k ≡ Some x → IsWanted wanted x.kind → ⊥) → (u : Tree) → IsSpelled g wanted text u → ⊥
none_spelled g wanted text listed are never u (kind, within, want, of) =
    let no : (a : Tree) → Lists listed kind a → ⊥ = λ a (j, x, got, same, t). never j x got (subst (IsWanted wanted) (sym same) want) in
    elim (are.complete kind u within of) [ inl x ↦ no u x | inr (a, b, x, y, n) ↦ no a x ]

pub one_spelled : (g : Table) (wanted : Option ℕ) (text : List Terminal) (listed : List Reading) (t : Tree) → AreReadings g text listed
    → ((k : ℕ) (x : Reading) → slice_get listed k ≡ Some x → IsWanted wanted x.kind → x.tree ≡ t) → (u : Tree) → IsSpelled g wanted text u → u ≡ t
one_spelled g wanted text listed t are only u (kind, within, want, of) =
    let one : (a : Tree) → Lists listed kind a → a ≡ t = λ a (j, x, got, same, e). sym e ∙ only j x got (subst (IsWanted wanted) (sym same) want) in
    elim (are.complete kind u within of) [ inl x ↦ one u x | inr (a, b, x, y, n) ↦ absurd (n (one a x ∙ sym (one b y))) ]

-- a pair of held trees
abbrev pub HoldsPair : List Reading → List Reading → Tree → Tree → Type 0
HoldsPair lefts rights a b = (p : Places) × (x : Reading) × (y : Reading) × ArePlaces lefts rights p x y × (x.tree ≡ a) × (y.tree ≡ b)

pub pair_held : (lefts rights : List Reading) (kind : ℕ) (a b : Tree) → Lists lefts kind a → Lists rights kind b → HoldsPair lefts rights a b
pair_held lefts rights kind a b (j, x, got, same, e) (k, y, got2, same2, e2) = (record { left = j; right = k }, x, y, (got, got2, same ∙ sym same2), e, e2)

pub pair_spelled : (g : Table) (left right : List Terminal) (lefts rights : List Reading) (p : Places) (x y : Reading) (a b : Tree) → AreReadings g left lefts → AreReadings g right rights
    → ArePlaces lefts rights p x y → a ≡ x.tree → b ≡ y.tree → IsPair g left right a b
pair_spelled g left right lefts rights p x y a b one two (got, got2, same) e e2 =
    (x.kind, one.within x.kind a (p.left, x, got, refl, sym e), one.sound x.kind a (p.left, x, got, refl, sym e), two.sound x.kind b (p.right, y, got2, sym same, sym e2))

-- what two lists have, or two different ones each, gives
pub no_pair : (g : Table) (left right : List Terminal) (lefts rights : List Reading) → AreReadings g left lefts → AreReadings g right rights
    → ((p : Places) (x y : Reading) → ArePlaces lefts rights p x y → ⊥) → (a b : Tree) → IsPair g left right a b → ⊥
no_pair g left right lefts rights one two never a b (kind, within, is, is2) =
    let some : (P : Tree → Type 0) (t : Tree) → Has P t → (u : Tree) × P u = λ P t h. elim h [ inl x ↦ (t, x) | inr (u, v, x, y, n) ↦ (u, x) ] in
    let u = some (Lists lefts kind) a (one.complete kind a within is) in
    let v = some (Lists rights kind) b (two.complete kind b within is2) in
    let h = pair_held lefts rights kind u.0 v.0 u.1 v.1 in
    never h.0 h.1 h.2 h.3

pub one_pair : (g : Table) (left right : List Terminal) (lefts rights : List Reading) (s t : Tree) → AreReadings g left lefts → AreReadings g right rights
    → ((p : Places) (x y : Reading) → ArePlaces lefts rights p x y → (x.tree ≡ s) × (y.tree ≡ t)) → (a b : Tree) → IsPair g left right a b → (a ≡ s) × (b ≡ t)
one_pair g left right lefts rights s t one two only a b (kind, within, is, is2) =
    let both : (c d : Tree) → Lists lefts kind c → Lists rights kind d → (c ≡ s) × (d ≡ t) = λ c d x y.
    let h = pair_held lefts rights kind c d x y in
    let e = only h.0 h.1 h.2 h.3 in (sym h.4 ∙ e.0, sym h.5 ∙ e.1) in
    let some : (P : Tree → Type 0) (t : Tree) → Has P t → (u : Tree) × P u = λ P t h. elim h [ inl x ↦ (t, x) | inr (u, v, x, y, n) ↦ (u, x) ] in
    let u = some (Lists lefts kind) a (one.complete kind a within is) in
    let v = some (Lists rights kind) b (two.complete kind b within is2) in (
      elim (one.complete kind a within is) [
        | inl x ↦ (both a v.0 x v.1).0
        | inr (c, d, x, y, n) ↦ absurd (n ((both c v.0 x v.1).0 ∙ sym (both d v.0 y v.1).0))
      ],
      elim (two.complete kind b within is2) [
        | inl x ↦ (both u.0 b u.1 x).1
        | inr (c, d, x, y, n) ↦ absurd (n ((both u.0 c u.1 x).1 ∙ sym (both u.0 d u.1 y).1))
      ],
    )

-- the trees that code read at two places
pub pair_is : (lefts rights : List Reading) (p : Places) (x y : Reading) (a b : Tree) → ArePlaces lefts rights p x y
    → ((z w : Reading) × IsAt lefts p.left z × IsAt rights p.right w × (a ≡ z.tree) × (b ≡ w.tree)) → (a ≡ x.tree) × (b ≡ y.tree)
pair_is lefts rights p x y a b (got, got2, same) (z, w, at, at2, e, e2) =
    (e ∙ ap (λ (s : Reading). s.tree) (one_there lefts p.left z x at got), e2 ∙ ap (λ (s : Reading). s.tree) (one_there rights p.right w y at2 got2))
