-- Starts in lists by number.
use Rattle.std.proofs.Common.{◌≡◌, ◌≢◌, ◌∙◌, ◌+◌, ◌<◌, ◌≤◌, ℕ, zero, suc, List, [], ◌∷◌, ◌++◌, length, get_or, Option, Some, refl, sym, ap, inl, inr, arith, subst}
use Rattle.std.specs.List.{slice_get}
use Rattle.std.specs.Global.{Global}
use Rattle.std.specs.declared.vec.Vec.{Vec}
use Rattle.std.proofs.Math.ListN.{set}
use Rattle.mw_chart.specs.Tree.{Tree}
use Rattle.mw_chart.specs.Listed.{inner, IsListed, AreListed, Joins}
use Rattle.mw_chart.specs.Spelling.{NextAt, BeginsWith, OpensWith, IsTable}
use Rattle.mw_chart.specs.declared.table.Table.{Table}
use Rattle.mw_chart.specs.declared.table.Production.{Production}
use Rattle.mw_chart.specs.declared.table.Next.{Next}
use Rattle.mw_chart.specs.declared.table.Next.TheVariants.{Token, Hole}
use Rattle.mw_chart.specs.declared.terminal.Terminal.{Terminal}
use Rattle.mw_chart.specs.Chart.{Adds, ScansProduction, ScansProductions, PredictsProduction, PredictsBy}
use Rattle.mw_chart.proofs.Lists.{one_there, get_below, get_left, get_last, get_back, eq_or}
use Rattle.mw_chart.proofs.Adding.{Each, adds_as, inner_same, inner_other, inner_is}

-- an empty list more changes none
pub inner_grown : {A : Type 0} → (lists : List (Vec A Global)) (v : Vec A Global) (i : ℕ) → v.items ≡ [] → inner (lists ++ v ∷ []) i ≡ inner lists i
inner_grown [] v zero e = e
inner_grown [] v (suc i) e = refl
inner_grown (x ∷ xs) v zero e = refl
inner_grown (x ∷ xs) v (suc i) e = inner_grown xs v i e

-- one list has the element more, and the others are as they were
joins_from : {A : Type 0} → (old new : List (Vec A Global)) (n : ℕ) (x : A) → inner new n ≡ inner old n ++ x ∷ [] → ((i : ℕ) → i ≢ n → inner new i ≡ inner old i)
    → Joins (λ i. i ≡ n) x old new
joins_from {A} old new n x here others = record {
  kept = λ i y (p, got). elim (eq_or i n) [
    | inl e ↦
        let at : slice_get (inner old n) p ≡ Some y = subst (λ (m : ℕ). slice_get (inner old m) p ≡ Some y) e got in
        let now : slice_get (inner new n) p ≡ Some y = subst (λ (l : List A). slice_get l p ≡ Some y) (sym here) (get_left (inner old n) (x ∷ []) p y at) in
        (p, subst (λ (m : ℕ). slice_get (inner new m) p ≡ Some y) (sym e) now)
    | inr other ↦ (p, subst (λ (l : List A). slice_get l p ≡ Some y) (sym (others i other)) got)
  ];
  put = λ i e.
      let now : slice_get (inner new n) (length (inner old n)) ≡ Some x = subst (λ (l : List A). slice_get l (length (inner old n)) ≡ Some x) (sym here) (get_last (inner old n) x) in
      (length (inner old n), subst (λ (m : ℕ). slice_get (inner new m) (length (inner old n)) ≡ Some x) (sym e) now);
  only = λ i y (p, got). elim (eq_or i n) [
    | inl e ↦
        let at : slice_get (inner new n) p ≡ Some y = subst (λ (m : ℕ). slice_get (inner new m) p ≡ Some y) e got in
        elim (get_back (inner old n) x p y (subst (λ (l : List A). slice_get l p ≡ Some y) here at)) [
          | inl was ↦ inl (p, subst (λ (m : ℕ). slice_get (inner old m) p ≡ Some y) (sym e) was)
          | inr same ↦ inr (e, sym same)
        ]
    | inr other ↦ inl (p, subst (λ (l : List A). slice_get l p ≡ Some y) (others i other) got)
  ];
}

-- the write of one list, where the others were as at first
pub joins_set : {A : Type 0} → (old grown : List (Vec A Global)) (n : ℕ) (x : A) (was now : Vec A Global) → ((i : ℕ) → inner grown i ≡ inner old i) → n < length grown
    → was ≡ get_or grown n was → now.items ≡ was.items ++ x ∷ [] → Joins (λ i. i ≡ n) x old (set grown n now)
joins_set old grown n x was now same low is put =
    joins_from old (set grown n now) n x
    (inner_same grown n now low ∙ put ∙ ap (λ l. l ++ x ∷ []) (sym (inner_is grown n was low is) ∙ same n))
    (λ i other. inner_other grown i n now other ∙ same i)

-- the same, where the numbers are told otherwise
pub joins_as : {A : Type 0} → (F G : ℕ → Type 0) (x : A) (old new : List (Vec A Global)) → ((i : ℕ) → F i → G i) → ((i : ℕ) → G i → F i) → Joins F x old new → Joins G x old new
joins_as F G x old new to back j = record {
  kept = j.kept;
  put = λ i g. j.put i (back i g);
  only = λ i y l. elim (j.only i y l) [ inl was ↦ inl was | inr f ↦ inr (to i f.0, f.1) ];
}

-- where it has no number, nothing is put
pub joins_none : {A : Type 0} → (G : ℕ → Type 0) (x : A) (lists : List (Vec A Global)) → ((i : ℕ) → G i → ⊥) → Joins G x lists lists
joins_none G x lists never = record {
  kept = λ i y l. l;
  put = λ i g. absurd (never i g);
  only = λ i y l. inl l;
}

-- the production joins the list of the token that comes first, or of the kind of the hole that does, and otherwise none
pub joins_token : (steps : List Next) (production : Production) (token next : ℕ) (old new : List (Vec Production Global)) → slice_get steps production.state ≡ Some (Token token next)
    → Joins (λ i. i ≡ token) production old new → Joins (BeginsWith steps production) production old new
joins_token steps production token next old new st j =
    joins_as (λ i. i ≡ token) (BeginsWith steps production) production old new
    (λ i e. (next, subst (λ (m : ℕ). slice_get steps production.state ≡ Some (Token m next)) (sym e) st))
    (λ i (n, st2). let q = one_there steps production.state (Token i n) (Token token next) st2 st in cc) j

pub joins_kind : (steps : List Next) (production : Production) (kind below next : ℕ) (old new : List (Vec Production Global)) → slice_get steps production.state ≡ Some (Hole kind below next)
    → Joins (λ i. i ≡ kind) production old new → Joins (OpensWith steps production) production old new
joins_kind steps production kind below next old new st j =
    joins_as (λ i. i ≡ kind) (OpensWith steps production) production old new
    (λ i e. (below, next, subst (λ (m : ℕ). slice_get steps production.state ≡ Some (Hole m below next)) (sym e) st))
    (λ i (b, n, st2). let q = one_there steps production.state (Hole i b n) (Hole kind below next) st2 st in cc) j

pub joins_no_token : (steps : List Next) (production : Production) (step : Option Next) (lists : List (Vec Production Global)) → slice_get steps production.state ≡ step
    → ((token next : ℕ) → step ≡ Some (Token token next) → ⊥) → Joins (BeginsWith steps production) production lists lists
joins_no_token steps production step lists st never = joins_none (BeginsWith steps production) production lists (λ i (n, st2). never i n (sym st ∙ st2))

pub joins_no_kind : (steps : List Next) (production : Production) (step : Option Next) (lists : List (Vec Production Global)) → slice_get steps production.state ≡ step
    → ((kind below next : ℕ) → step ≡ Some (Hole kind below next) → ⊥) → Joins (OpensWith steps production) production lists lists
joins_no_kind steps production step lists st never = joins_none (OpensWith steps production) production lists (λ i (b, n, st2). never i b n (sym st ∙ st2))

-- the elements before an index are listed
pub record AreListedTo {A : Type 0} (Key : A → ℕ → Type 0) (elements : List A) (k : ℕ) (lists : List (Vec A Global)) : Type 0 where
  pub listed : (n i : ℕ) (x : A) → n < k → slice_get elements n ≡ Some x → Key x i → IsListed lists i x
  pub only : (i : ℕ) (x : A) → IsListed lists i x → Key x i × ((n : ℕ) × (slice_get elements n ≡ Some x))

pub listed_more : {A : Type 0} → (Key : A → ℕ → Type 0) (elements : List A) (k : ℕ) (x : A) (old new : List (Vec A Global)) → slice_get elements k ≡ Some x
    → Joins (Key x) x old new → AreListedTo Key elements k old → AreListedTo Key elements (k + 1) new
listed_more {A} Key elements k x old new at j before = record {
  listed = λ n i y low got key. elim (eq_or n k) [
    | inl e ↦
        let same : y ≡ x = one_there elements k y x (subst (λ (m : ℕ). slice_get elements m ≡ Some y) e got) at in
        subst (λ (z : A). IsListed new i z) (sym same) (j.put i (subst (λ (z : A). Key z i) same key))
    | inr other ↦ j.kept i y (before.listed n i y (omega (arith, low, other)) got key)
  ];
  only = λ i y l. elim (j.only i y l) [
    | inl was ↦ before.only i y was
    | inr here ↦ (subst (λ (z : A). Key z i) (sym here.1) here.0, (k, subst (λ (z : A). slice_get elements k ≡ Some z) (sym here.1) at))
  ];
}

pub listed_all : {A : Type 0} → (Key : A → ℕ → Type 0) (elements : List A) (k : ℕ) (lists : List (Vec A Global)) → length elements ≤ k → AreListedTo Key elements k lists
    → AreListed Key elements lists
listed_all Key elements k lists all l = record {
  listed = λ n i x got. l.listed n i x (let b = get_below elements n x got in omega (arith, b, all)) got;
  only = l.only;
}

-- What the productions in the list of a token begin is what all begin where it stands: a production of another token begins nothing there.
pub begins_listed : (P Q : ℕ × ℕ → Tree → Type 0) (g : Table) (text : List Terminal) (i : ℕ) (word : Terminal) → IsTable g → slice_get text i ≡ Some word
    → Adds P Q (Each (inner g.corners.by_token.items word.token) (ScansProduction g text i)) → Adds P Q (ScansProductions g text i)
begins_listed P Q g text i word wf there a =
    adds_as P Q (Each (inner g.corners.by_token.items word.token) (ScansProduction g text i)) (ScansProductions g text i) a
    (λ k u (j, production, got, f). let l = (wf.indexed.by_token.only word.token production (j, got)).1 in (l.0, production, l.1, f))
    (λ k u (j, production, got, (x, st, (other, at, is), e, z)).
    let same : x ≡ word.token = sym is ∙ ap (λ (w : Terminal). w.token) (one_there text i other word at there) in
    let l : IsListed g.corners.by_token.items word.token production = wf.indexed.by_token.listed j word.token production got (k.1, subst (λ (m : ℕ). NextAt g production.state (Token m k.1)) same st) in
    (l.0, production, l.1, (x, st, (other, at, is), e, z)))

-- What the productions in the list of a kind open with a tree of it is what all open: a production of another kind opens nothing.
pub opens_listed : (P Q : ℕ → Tree → Type 0) (g : Table) (text : List Terminal) (at kind precedence : ℕ) (v : Tree) → IsTable g
    → Adds P Q (Each (inner g.corners.by_kind.items kind) (PredictsProduction g text at kind precedence v)) → Adds P Q (PredictsBy g text at kind precedence v)
opens_listed P Q g text at kind precedence v wf a =
    adds_as P Q (Each (inner g.corners.by_kind.items kind) (PredictsProduction g text at kind precedence v)) (PredictsBy g text at kind precedence v) a
    (λ k u (j, production, got, f). let l = (wf.indexed.by_kind.only kind production (j, got)).1 in (l.0, production, l.1, f))
    (λ k u (j, production, got, f). let l = wf.indexed.by_kind.listed j kind production got (f.0, k, f.1) in (l.0, production, l.1, f))
