-- What is predicted and begun.
use Rattle.std.proofs.Common.{◌≡◌, ◌∙◌, ◌-◌, ◌<◌, ℕ, List, [], ◌∷◌, ◌++◌, ap, length, Some, refl, sym, inl, inr, arith, subst}
use Rattle.std.specs.List.{slice_get}
use Rattle.mw_chart.specs.Tree.{Tree, leaf, head, app}
use Rattle.mw_chart.specs.Spelling.{TokenAt, NextAt}
use Rattle.mw_chart.specs.declared.table.Table.{Table}
use Rattle.mw_chart.specs.declared.table.Production.{Production}
use Rattle.mw_chart.specs.declared.table.Next.TheVariants.{Token, Hole, Whole}
use Rattle.mw_chart.specs.declared.item.ChartItem.{ChartItem}
use Rattle.mw_chart.specs.declared.item.Constituent.{Constituent}
use Rattle.mw_chart.specs.Chart.{HasTwo, Has, Puts, Adds, RowHolds, IsPut, IsLive, PredictsProduction, PredictsBy, PredictsItem, KeepsItem, ScansProduction, ScansProductions, ScansLeaf, ScansLeaves, Scans, GroupsBy}
use Rattle.mw_chart.proofs.Lists.{one_there, get_below, get_left, get_last, get_back}
use Rattle.mw_chart.proofs.Adding.{adds_as, adds_none, adds_already, adds_then}
use Rattle.mw_chart.specs.declared.terminal.Leaf.{Leaf}
use Rattle.mw_chart.specs.declared.terminal.Terminal.{Terminal}

pub adds_of_puts : (P Q : ℕ → Tree → Type 0) (s : ℕ) (v : Tree) → Puts P Q s v → Adds P Q (λ r u. (r ≡ s) × (u ≡ v))
adds_of_puts P Q s v p = record {
  kept = p.kept;
  sound = p.sound;
  has = λ r u (x, y). subst (λ (r : ℕ). Has (Q r) u) (sym x) (subst (λ (u : Tree). Has (Q s) u) (sym y) p.has);
}

pub opens_put : (P Q : ℕ → Tree → Type 0) (g : Table) (text : List Terminal) (at kind precedence : ℕ) (v : Tree) (production : Production) (bound next : ℕ) (whole : Tree)
    → NextAt g production.state (Hole kind bound next) → precedence < bound → IsLive g text at next → whole ≡ app (head production.operator) v → Puts P Q next whole
    → Adds P Q (PredictsProduction g text at kind precedence v production)
opens_put P Q g text at kind precedence v production bound next whole st le live is p =
    adds_as P Q (λ r u. (r ≡ next) × (u ≡ whole)) (PredictsProduction g text at kind precedence v production) (adds_of_puts P Q next whole p)
    (λ r u (x, y). (bound, subst (λ (m : ℕ). NextAt g production.state (Hole kind bound m)) (sym x) st, le, subst (λ (m : ℕ). IsLive g text at m) (sym x) live, y ∙ is))
    (λ r u (b, st2, le2, live2, e). ((let q = one_there _ production.state _ _ st2 st in cc), e ∙ sym is))

pub opens_not : (P : ℕ → Tree → Type 0) (g : Table) (text : List Terminal) (at kind precedence : ℕ) (v : Tree) (production : Production) (given bound next : ℕ)
    → NextAt g production.state (Hole given bound next) → (given ≡ kind → precedence < bound → IsLive g text at next → HasTwo (P next))
    → Adds P P (PredictsProduction g text at kind precedence v production)
opens_not P g text at kind precedence v production given bound next st else =
    adds_already P (PredictsProduction g text at kind precedence v production)
    (λ r u (b, st2, le2, live2, e).
    let q = one_there _ production.state _ _ st2 st in
    let x : r ≡ next = (cc) in
    let y : b ≡ bound = (cc) in
    let z : given ≡ kind = (cc) in
    inr (subst (λ (r : ℕ). HasTwo (P r)) (sym x) (else z (omega (arith, le2, y)) (subst (λ (m : ℕ). IsLive g text at m) x live2))))

pub opens_item : (P Q : ℕ → Tree → Type 0) (g : Table) (text : List Terminal) (at kind precedence : ℕ) (item : ChartItem) → NextAt g item.state (Whole kind precedence) → Adds P Q (PredictsBy g text at kind precedence item.tree) → Adds P Q (PredictsItem g text at item)
opens_item P Q g text at kind precedence item st a =
    adds_as P Q (PredictsBy g text at kind precedence item.tree) (PredictsItem g text at item) a
    (λ k u x. (kind, precedence, item.state, item.tree, (refl, refl), st, x))
    (λ k u (kind2, precedence2, s, v, i, st2, x).
    let st3 : NextAt g item.state (Whole kind2 precedence2) = subst (λ (m : ℕ). NextAt g m (Whole kind2 precedence2)) (sym i.0) st2 in
    let q = one_there _ item.state _ _ st3 st in
    let ek : kind2 ≡ kind = (cc) in
    let ep : precedence2 ≡ precedence = (cc) in
    let e = i.1 in rw (e, ← ek, ← ep) x)

pub row_push : (row : List Constituent) (end state : ℕ) (t v : Tree) → t ≡ v
    → Adds (RowHolds row) (RowHolds (row ++ record { end = end; state = state; tree = t } ∷ [])) (IsPut end state v)
row_push row end state t v same =
    let new : Constituent = record { end = end; state = state; tree = t } in
    record {
      kept = λ k u (j, r, got, a, b, e). (j, r, get_left row (new ∷ []) j r got, a, b, e);
      sound = λ k u (j, r, got, a, b, e). elim (get_back row new j r got) [
        | inl h ↦ inl (j, r, h, a, b, e)
        | inr is ↦ inr (sym (ap (λ (x : Constituent). x.end) is ∙ a), sym (ap (λ (x : Constituent). x.state) is ∙ b), sym (ap (λ (x : Constituent). x.tree) is ∙ e) ∙ same)
      ];
      has = λ k u (a, b, e). inl (length row, new, get_last row new, sym a, sym b, same ∙ sym e);
    }

pub keeps_item : (P Q : ℕ × ℕ → Tree → Type 0) (g : Table) (at kind precedence : ℕ) (item : ChartItem) → NextAt g item.state (Whole kind precedence) → Adds P Q (IsPut at item.state item.tree) → Adds P Q (KeepsItem g at item)
keeps_item P Q g at kind precedence item st a =
    adds_as P Q (IsPut at item.state item.tree) (KeepsItem g at item) a
    (λ k u (x, y, z). (x, (sym y, sym z), (kind, precedence, subst (λ (m : ℕ). NextAt g m (Whole kind precedence)) (sym y) st)))
    (λ k u (x, i, w). (x, sym i.0, sym i.1))

pub keeps_none : (P : ℕ × ℕ → Tree → Type 0) (g : Table) (at : ℕ) (item : ChartItem) → ((kind precedence : ℕ) → NextAt g item.state (Whole kind precedence) → ⊥) → Adds P P (KeepsItem g at item)
keeps_none P g at item never =
    adds_none P (KeepsItem g at item)
    (λ k u (x, i, (kind, precedence, st)). never kind precedence (subst (λ (m : ℕ). NextAt g m (Whole kind precedence)) (sym i.0) st))

pub begins_put : (P Q : ℕ × ℕ → Tree → Type 0) (g : Table) (text : List Terminal) (i : ℕ) (production : Production) (token next : ℕ) (v : Tree)
    → NextAt g production.state (Token token next) → TokenAt text i token → v ≡ head production.operator
    → Adds P Q (IsPut (length text - i - 1) next v) → Adds P Q (ScansProduction g text i production)
begins_put P Q g text i production token next v st is same a =
    let below = get_below text i is.0 is.1 in
    adds_as P Q (IsPut (length text - i - 1) next v) (ScansProduction g text i production) a
    (λ k u (x, y, z). (token, subst (λ (m : ℕ). NextAt g production.state (Token token m)) (sym y) st, is, omega (arith, x, below), z ∙ same))
    (λ k u (x, st2, there, e, z). (omega (arith, e, below), (let q = one_there _ production.state _ _ st2 st in cc), z ∙ sym same))

pub begins_not : (P : ℕ × ℕ → Tree → Type 0) (g : Table) (text : List Terminal) (i : ℕ) (production : Production) (token next : ℕ)
    → NextAt g production.state (Token token next) → (TokenAt text i token → ⊥) → Adds P P (ScansProduction g text i production)
begins_not P g text i production token next st never =
    adds_none P (ScansProduction g text i production)
    (λ k u (x, st2, there, e, z).
    let q = one_there _ production.state _ _ st2 st in
    let same : x ≡ token = (cc) in
    never (subst (λ (n : ℕ). TokenAt text i n) same there))

pub groups_put : (P Q : ℕ × ℕ → Tree → Type 0) (g : Table) (text : List Terminal) (r : Constituent) (s : ℕ) (v : Tree) → TokenAt text r.end g.close
    → ((kind precedence : ℕ) × NextAt g r.state (Whole kind precedence) × (slice_get g.groups.items kind ≡ Some s)) → v ≡ r.tree
    → Adds P Q (IsPut (length text - r.end - 1) s v) → Adds P Q (GroupsBy g text r)
groups_put P Q g text r s v is (kind, precedence, st, to) same a =
    let below = get_below text r.end is.0 is.1 in
    adds_as P Q (IsPut (length text - r.end - 1) s v) (GroupsBy g text r) a
    (λ k u (x, y, z). (kind, precedence, st, is, subst (λ (m : ℕ). slice_get g.groups.items kind ≡ Some m) (sym y) to, omega (arith, x, below), z ∙ same))
    (λ k u (kind2, precedence2, st2, there, to2, e, z).
    let q = one_there _ r.state _ _ st2 st in
    let ek : kind2 ≡ kind = (cc) in
    let to3 : slice_get g.groups.items kind ≡ Some k.1 = subst (λ (m : ℕ). slice_get g.groups.items m ≡ Some k.1) ek to2 in
    (omega (arith, e, below), (cc), z ∙ sym same))

pub groups_not : (P : ℕ × ℕ → Tree → Type 0) (g : Table) (text : List Terminal) (r : Constituent)
    → ((kind precedence s : ℕ) → NextAt g r.state (Whole kind precedence) → slice_get g.groups.items kind ≡ Some s → TokenAt text r.end g.close → ⊥)
    → Adds P P (GroupsBy g text r)
groups_not P g text r never = adds_none P (GroupsBy g text r) (λ k u (kind2, precedence2, st2, there, to2, e, z). never kind2 precedence2 k.1 st2 to2 there)

-- what a terminal spells by itself
pub stands_put : (P Q : ℕ × ℕ → Tree → Type 0) (text : List Terminal) (i : ℕ) (l : Leaf) (v : Tree) → i < length text → v ≡ leaf l.value
    → Adds P Q (IsPut (length text - i - 1) l.state v) → Adds P Q (ScansLeaf text i l)
stands_put P Q text i l v below same a =
    adds_as P Q (IsPut (length text - i - 1) l.state v) (ScansLeaf text i l) a
    (λ k u (x, y, z). (omega (arith, x, below), y, z ∙ same))
    (λ k u (e, s, z). (omega (arith, e, below), s, z ∙ sym same))

pub begins_all : (P Q R : ℕ × ℕ → Tree → Type 0) (g : Table) (text : List Terminal) (i : ℕ) (terminal : Terminal) → slice_get text i ≡ Some terminal
    → Adds P Q (ScansProductions g text i) → Adds Q R (ScansLeaves text i terminal) → Adds P R (Scans g text i)
begins_all P Q R g text i terminal there a b =
    adds_then P Q R (ScansProductions g text i) (ScansLeaves text i terminal) (Scans g text i) a b
    (λ k u x. inl x)
    (λ k u x. inr (terminal, there, x))
    (λ k u x. elim x [
      | inl y ↦ inl y
      | inr (other, at, y) ↦ inr (subst (λ (w : Terminal). ScansLeaves text i w k u) (one_there text i other terminal at there) y)
    ])
