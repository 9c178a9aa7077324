-- How texts begun come to where they are.
use Rattle.std.proofs.Common.{◌≡◌, ◌+◌, ◌<◌, ◌≤◌, ◌⊎◌, ℕ, List, length, refl, ap, inl, inr, arith, subst}
use Rattle.mw_chart.specs.Tree.{Tree, head, app}
use Rattle.mw_chart.specs.Spelling.{NextAt, TokenAt, IsProduction, IsItem, predicted, scanned, completed, grouped, alone, IsTable}
use Rattle.mw_chart.specs.declared.table.Table.{Table}
use Rattle.mw_chart.specs.declared.table.Next.TheVariants.{Hole, Whole}
use Rattle.mw_chart.specs.Chart.{GoesOn, Arrives, by_token, by_leaf, by_group, by_step, IsLive}
use Rattle.mw_chart.proofs.Lists.{one_there, get_below}
use Rattle.mw_chart.specs.declared.terminal.Terminal.{Terminal}

pub le_or : (a b : ℕ) → (a < b) ⊎ (b ≤ a)
le_or a b = grind arith

pub spans : (g : Table) (text : List Terminal) (s : ℕ) (v : Tree) (i k : ℕ) → IsItem g text s v i k → i ≤ k
spans g text s v i k (predicted s2 op i2 st) = omega arith
spans g text s v i k (scanned s2 next x v2 i2 k2 d st got) = let h = spans g text s2 v2 i2 k2 d in omega (arith, h)
spans g text s v i k (completed s2 next kind bound v2 i2 k2 d st w precedence t e r wh le) =
    let h = spans g text s2 v2 i2 k2 d in let f = spans g text w t k2 e r in omega (arith, h, f)
spans g text s v i k (grouped w kind precedence t i2 e o r wh c s2 gr) = let h = spans g text w t (i2 + 1) e r in omega (arith, h)
spans g text s v i k (alone s2 x i2 l) = omega arith

pub ends : (g : Table) (text : List Terminal) (s : ℕ) (v : Tree) (i k : ℕ) → IsItem g text s v i k → i ≤ length text → k ≤ length text
ends g text s v i k (predicted s2 op i2 st) h = h
ends g text s v i k (scanned s2 next x v2 i2 k2 d st got) h = let b = get_below text k2 got.0 got.1 in omega (arith, b)
ends g text s v i k (completed s2 next kind bound v2 i2 k2 d st w precedence t e r wh le) h = ends g text w t k2 e r (ends g text s2 v2 i2 k2 d h)
ends g text s v i k (grouped w kind precedence t i2 e o r wh c s2 gr) h = let b = get_below text e c.0 c.1 in omega (arith, b)
ends g text s v i k (alone s2 x i2 l) h = let b = get_below text i2 l.0 l.1 in omega (arith, b)

-- what hasn't moved has only begun
pub at_start : (g : Table) (text : List Terminal) (s : ℕ) (v : Tree) (i k : ℕ) → IsTable g → IsItem g text s v i k → k ≤ i → (op : ℕ) × IsProduction g s op × (v ≡ head op)
at_start g text s v i k wf (predicted s2 op i2 st) h = (op, st, refl)
at_start g text s v i k wf (scanned s2 next x v2 i2 k2 d st got) h = let f = spans g text s2 v2 i2 k2 d in absurd (omega (arith, f, h))
at_start g text s v i k wf (completed s2 next kind bound v2 i2 k2 d st w precedence t e r wh le) h =
    let f = spans g text s2 v2 i2 k2 d in
    let b = at_start g text w t k2 e wf r (omega (arith, f, h)) in
    absurd ((wf.opening w b.0 b.1).0 kind precedence wh)
at_start g text s v i k wf (grouped w kind precedence t i2 e o r wh c s2 gr) h = let f = spans g text w t (i2 + 1) e r in absurd (omega (arith, f, h))
at_start g text s v i k wf (alone s2 x i2 l) h = absurd (omega (arith, h))

pub whole_moves : (g : Table) (text : List Terminal) (w kind precedence : ℕ) (t : Tree) (i k : ℕ) → IsTable g → IsItem g text w t i k → NextAt g w (Whole kind precedence) → i < k
whole_moves g text w kind precedence t i k wf d wh =
    elim (le_or i k) [ inl h ↦ h | inr h ↦ let b = at_start g text w t i k wf d h in absurd ((wf.opening w b.0 b.1).0 kind precedence wh) ]

-- a text whose first hole was filled last
abbrev pub OpensAt : Table → List Terminal → ℕ → ℕ → ℕ → Tree → Type 0
OpensAt g text i e next u = (s op kind bound w precedence : ℕ) × (t : Tree) × IsProduction g s op × NextAt g s (Hole kind bound next) × IsItem g text w t i e × NextAt g w (Whole kind precedence) × (precedence < bound) × (u ≡ app (head op) t)

pub arrives : (g : Table) (text : List Terminal) (s : ℕ) (v : Tree) (i e done : ℕ) → IsTable g → IsItem g text s v i e → i < e → e ≤ done + 1
    → Arrives g text i done s v e ⊎ OpensAt g text i e s v
arrives g text s v i e done wf (predicted s2 op i2 st) h d1 = absurd (omega arith)
arrives g text s v i e done wf (scanned s2 next x v2 i2 k2 d st got) h d1 =
    elim (le_or i2 k2) [
      | inl f ↦ inl (by_step s2 k2 next (k2 + 1) v2 v2 f (omega (arith, d1)) d (inl (x, st, got, refl, refl)))
      | inr f ↦
          let b = at_start g text s2 v2 i2 k2 wf d f in
          let same : k2 ≡ i2 = (let q = spans g text s2 v2 i2 k2 d in omega (arith, q, f)) in
          let ve = b.2 in
          inl (rw (same, ve) (by_token s2 b.0 x next b.1 st (subst (λ (m : ℕ). TokenAt text m x) same got)))
    ]
arrives g text s v i e done wf (completed s2 next kind bound v2 i2 k2 d st w precedence t e2 r wh le) h d1 =
    elim (le_or i2 k2) [
      | inl f ↦
          let m = whole_moves g text w kind precedence t k2 e2 wf r wh in
          inl (by_step s2 k2 next e2 v2 (app v2 t) f (omega (arith, m, d1)) d (inr (kind, bound, w, precedence, t, st, r, wh, le, refl)))
      | inr f ↦
          let b = at_start g text s2 v2 i2 k2 wf d f in
          let same : k2 ≡ i2 = (let q = spans g text s2 v2 i2 k2 d in omega (arith, q, f)) in
          inr (s2, b.0, kind, bound, w, precedence, t, b.1, st, subst (λ (m : ℕ). IsItem g text w t m e2) same r, wh, le, ap (λ x. app x t) b.2)
    ]
arrives g text s v i e done wf (grouped w kind precedence t i2 e2 o r wh c s2 gr) h d1 = inl (by_group w kind precedence e2 s2 t o r wh c gr)
arrives g text s v i e done wf (alone s2 x i2 l) h d1 = inl (by_leaf s2 x l)

pub not_opens : (g : Table) (text : List Terminal) (i e s kind precedence : ℕ) (v : Tree) → IsTable g → OpensAt g text i e s v → NextAt g s (Whole kind precedence) → ⊥
not_opens g text i e s kind precedence v wf (s0, op, k2, bound, w, p2, t, production, st, r, wh, le, is) whole = (wf.opening s0 op production).1 k2 bound s st kind precedence whole

pub is_live : (g : Table) (text : List Terminal) (k s next e : ℕ) (v u : Tree) → GoesOn g text k s v next u e → IsLive g text k s
is_live g text k s next e v u (inl (x, st, got, end, is)) = λ y n st2. let q = one_there _ s _ _ st2 st in let same : y ≡ x = (cc) in rw same got
is_live g text k s next e v u (inr (kind, bound, w, precedence, t, st, r, wh, le, is)) = λ y n st2. let bad : ⊥ = (let q = one_there _ s _ _ st2 st in cc) in absurd bad
