-- What the constituents of a row add.
use Rattle.std.proofs.Common.{◌≡◌, ◌∙◌, ◌+◌, ◌-◌, ◌<◌, ◌≤◌, ℕ, List, length, get_or, None, refl, sym, ap, inl, inr, arith, subst}
use Rattle.std.specs.List.{slice_get}
use Rattle.std.specs.Global.{Global}
use Rattle.std.specs.declared.vec.Vec.{Vec}
use Rattle.mw_chart.specs.Tree.{Tree, app}
use Rattle.mw_chart.specs.Spelling.{TokenAt, NextAt}
use Rattle.mw_chart.specs.declared.table.Table.{Table}
use Rattle.mw_chart.specs.declared.table.Next.TheVariants.{Token, Hole, Whole}
use Rattle.mw_chart.specs.declared.item.ChartItem.{ChartItem}
use Rattle.mw_chart.specs.declared.item.Constituent.{Constituent}
use Rattle.mw_chart.specs.Listed.{inner}
use Rattle.mw_chart.specs.Chart.{HasTwo, Holds, Adds, CellsHold, IsPut, CompletesBy, Completes, Advances, AdvancesItem}
use Rattle.mw_chart.proofs.Adding.{adds_as, adds_none, adds_already, inner_is}
use Rattle.mw_chart.proofs.Lists.{one_there, get_below}
use Rattle.mw_chart.specs.declared.terminal.Terminal.{Terminal}

abbrev pub Takes : Table → ℕ → ℕ → ℕ → Type 0
Takes g s kind bound = (precedence : ℕ) × NextAt g s (Whole kind precedence) × (precedence < bound)

pub fills_put : (P Q : ℕ × ℕ → Tree → Type 0) (g : Table) (r : Constituent) (n kind bound next : ℕ) (v whole : Tree) → r.end ≤ n → Takes g r.state kind bound
    → whole ≡ app v r.tree → Adds P Q (IsPut (n - r.end) next whole) → Adds P Q (CompletesBy g r n kind bound next v)
fills_put P Q g r n kind bound next v whole h (precedence, at, le) is a =
    adds_as P Q (IsPut (n - r.end) next whole) (CompletesBy g r n kind bound next v) a
    (λ k u (x, y, z). (precedence, at, le, omega (arith, x, h), y, z ∙ is))
    (λ k u (p, x, y, z, s, e). (omega (arith, z, h), s, e ∙ sym is))

pub fills_not : (P : ℕ × ℕ → Tree → Type 0) (g : Table) (r : Constituent) (n kind bound next : ℕ) (v : Tree) → (Takes g r.state kind bound → ⊥)
    → Adds P P (CompletesBy g r n kind bound next v)
fills_not P g r n kind bound next v never = adds_none P (CompletesBy g r n kind bound next v) (λ k u (p, x, y, z, s, e). never (p, x, y))

pub fills_full : (cells : List (Vec ChartItem Global)) (g : Table) (r : Constituent) (n kind bound next : ℕ) (v : Tree) (cell : Vec ChartItem Global)
    → n - r.end < length cells → r.end ≤ n → cell ≡ get_or cells (n - r.end) cell
    → HasTwo (Holds cell.items next) → Adds (CellsHold cells) (CellsHold cells) (CompletesBy g r n kind bound next v)
fills_full cells g r n kind bound next v cell below h is two =
    adds_already (CellsHold cells) (CompletesBy g r n kind bound next v)
    (λ k u (p, x, y, z, s, e).
    let at : k.0 ≡ n - r.end = omega (arith, z, h) in
    inr (subst (λ (j : ℕ). HasTwo (Holds (inner cells k.0) j)) (sym s)
    (subst (λ (c : List ChartItem). HasTwo (Holds c next)) (sym (ap (λ j. inner cells j) at ∙ inner_is cells (n - r.end) cell below is)) two)))

-- one step on
pub advances_token : (P Q : ℕ × ℕ → Tree → Type 0) (g : Table) (text : List Terminal) (row : List Constituent) (at s token next : ℕ) (v w : Tree)
    → NextAt g s (Token token next) → TokenAt text at token → w ≡ v
    → Adds P Q (IsPut (length text - at - 1) next w) → Adds P Q (Advances g text row at s v)
advances_token P Q g text row at s token next v w st is same a =
    let below = get_below text at is.0 is.1 in
    adds_as P Q (IsPut (length text - at - 1) next w) (Advances g text row at s v) a
    (λ k u (x, y, z). (at + 1, omega (arith, x, below), inl (token, subst (λ (n : ℕ). NextAt g s (Token token n)) (sym y) st, is, refl, z ∙ same)))
    (λ k u (e, x, go). elim go [
      | inl (token2, st2, there, end, z) ↦ (omega (arith, x, end, below), (let q = one_there _ s _ _ st2 st in cc), z ∙ sym same)
      | inr (kind, bound, w2, precedence, t, st2, hr, wh, le, z) ↦ let bad : ⊥ = (let q = one_there _ s _ _ st2 st in cc) in absurd bad
    ])

pub advances_not : (P : ℕ × ℕ → Tree → Type 0) (g : Table) (text : List Terminal) (row : List Constituent) (at s token next : ℕ) (v : Tree)
    → NextAt g s (Token token next) → (TokenAt text at token → ⊥) → Adds P P (Advances g text row at s v)
advances_not P g text row at s token next v st never =
    adds_none P (Advances g text row at s v)
    (λ k u (e, x, go). elim go [
      | inl (token2, st2, there, end, z) ↦ never (let q = one_there _ s _ _ st2 st in let e2 : token2 ≡ token = (cc) in subst (λ (n : ℕ). TokenAt text at n) e2 there)
      | inr (kind, bound, w2, precedence, t, st2, hr, wh, le, z) ↦ let bad : ⊥ = (let q = one_there _ s _ _ st2 st in cc) in absurd bad
    ])

pub advances_hole : (P Q : ℕ × ℕ → Tree → Type 0) (g : Table) (text : List Terminal) (row : List Constituent) (at s kind bound next : ℕ) (v : Tree)
    → NextAt g s (Hole kind bound next) → Adds P Q (Completes g row (length text) kind bound next v) → Adds P Q (Advances g text row at s v)
advances_hole P Q g text row at s kind bound next v st a =
    adds_as P Q (Completes g row (length text) kind bound next v) (Advances g text row at s v) a
    (λ k u (j, r, got, (precedence, x, y, z, n, e)).
    (r.end, z, inr (kind, bound, r.state, precedence, r.tree, subst (λ (m : ℕ). NextAt g s (Hole kind bound m)) (sym n) st, (j, r, got, refl, refl, refl), x, y, e)))
    (λ k u (e, x, go). elim go [
      | inl (token2, st2, there, end, z) ↦ let bad : ⊥ = (let q = one_there _ s _ _ st2 st in cc) in absurd bad
      | inr (kind2, bound2, w, precedence, t, st2, (j, r, got, ends, state, tree), wh, le, z) ↦
          let q = one_there _ s _ _ st2 st in
          let ek : kind2 ≡ kind = (cc) in
          let eb : bound2 ≡ bound = (cc) in
          let en : k.1 ≡ next = (cc) in
          (j, r, got, (precedence, rw (state, ← ek) wh, omega (arith, le, eb), omega (arith, x, ends), en, z ∙ ap (λ y. app v y) (sym tree)))
    ])

pub advances_whole : (P : ℕ × ℕ → Tree → Type 0) (g : Table) (text : List Terminal) (row : List Constituent) (at s kind precedence : ℕ) (v : Tree)
    → NextAt g s (Whole kind precedence) → Adds P P (Advances g text row at s v)
advances_whole P g text row at s kind precedence v st =
    adds_none P (Advances g text row at s v)
    (λ k u (e, x, go). elim go [
      | inl (token2, st2, there, end, z) ↦ let bad : ⊥ = (let q = one_there _ s _ _ st2 st in cc) in bad
      | inr (kind2, bound, w2, precedence2, t, st2, hr, wh, le, z) ↦ let bad : ⊥ = (let q = one_there _ s _ _ st2 st in cc) in bad
    ])

pub advances_none : (P : ℕ × ℕ → Tree → Type 0) (g : Table) (text : List Terminal) (row : List Constituent) (at s : ℕ) (v : Tree)
    → slice_get g.steps.items s ≡ None → Adds P P (Advances g text row at s v)
advances_none P g text row at s v st =
    adds_none P (Advances g text row at s v)
    (λ k u (e, x, go). elim go [
      | inl (token2, st2, there, end, z) ↦ let bad : ⊥ = (cc) in bad
      | inr (kind2, bound, w2, precedence2, t, st2, hr, wh, le, z) ↦ let bad : ⊥ = (cc) in bad
    ])

-- the tree of an item
pub advances_item : (P Q : ℕ × ℕ → Tree → Type 0) (g : Table) (text : List Terminal) (row : List Constituent) (at : ℕ) (item : ChartItem)
    → Adds P Q (Advances g text row at item.state item.tree) → Adds P Q (AdvancesItem g text row at item)
advances_item P Q g text row at item a =
    adds_as P Q (Advances g text row at item.state item.tree) (AdvancesItem g text row at item) a
    (λ k u x. (item.state, item.tree, (refl, refl), x))
    (λ k u (s, v, i, x). rw (i.0, i.1) x)
