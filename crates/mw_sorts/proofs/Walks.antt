-- The first walk to a place where a least result lacks.
use Rattle.std.proofs.Common.{◌≡◌, ◌∙◌, ◌⊎◌, ℕ, zero, suc, ◌<◌, ◌-◌, List, [], ◌∷◌, length, map, get_or, refl, ap, sym, subst, inl, inr}
use Rattle.std.specs.Prelude.{slice_get, Option, Some, None, is_none, Bool, true, false, ◌||◌}
use Rattle.std.proofs.lemmas.Bool.{both_ways}
use Rattle.std.proofs.lemmas.Option.{get_or_from_slice_get}
use Rattle.mw_logic.specs.Signature.{Signature, Sorted, sort, kind, SameKind, Operator}
use Rattle.mw_logic.specs.Accepted.{number_of_sort}
use Rattle.mw_logic.specs.Preregular.{AreOfKinds}
use Rattle.mw_sorts.specs.Entries.{place_in, IsBefore, IsLevelWith, Precedes, AreEntries}
use Rattle.mw_sorts.specs.Results.{IsEndOn, LacksLeastResult}
use Rattle.mw_sorts.specs.Diagrams.{Row, Level, LeadsTo}
use Rattle.mw_sorts.specs.Sorting.{Sorting, AreEntriesOf}
use Rattle.mw_sorts.specs.Marks.{HaveEntries, EndsAt, IsDrawn, is_marked, marks_of, IsFirstWalk}
use Rattle.mw_sorts.specs.Faults.{IsFirstLack}
use Rattle.mw_sorts.proofs.Getting.{get-same, get-map, some_same}
use Rattle.mw_sorts.proofs.Leading.{leads-read}
use Rattle.mw_sorts.proofs.Taking.{result-least, result-lacks}

-- row q of the first level is marked
abbrev pub lit : List Level → List Bool → ℕ → Bool
lit ls missing q = get_or (marks_of ls missing) q false

-- a row is marked where one of the next rows is
pub lit-row : (l : Level) (ls : List Level) (missing : List Bool) (q : ℕ) (row : Row) → slice_get l q ≡ Some row → lit (l ∷ ls) missing q ≡ is_marked (marks_of ls missing) row
lit-row l ls missing q row e = get_or_from_slice_get _ q _ false (get-map (is_marked (marks_of ls missing)) l q row e)

unmarked_at : (marks : List Bool) (row : Row) (p n : ℕ) → is_marked marks row ≡ false → slice_get row p ≡ Some n → get_or marks n false ≡ false
unmarked_at marks [] p n h e = cc
unmarked_at marks (m ∷ row) zero n h e = subst (λ (k : ℕ). get_or marks k false ≡ false) (some_same e) (by_parts (get_or marks m false) _ h).0
  where
    by_parts : (a b : Bool) → (a || b) ≡ false → (a ≡ false) × (b ≡ false)
    by_parts true b h = absurd (both_ways _ h refl)
    by_parts false b h = (refl, h)
unmarked_at marks (m ∷ row) (suc p) n h e = unmarked_at marks row p n (by_parts (get_or marks m false) _ h) e
  where
    by_parts : (a b : Bool) → (a || b) ≡ false → b ≡ false
    by_parts true b h = absurd (both_ways _ h refl)
    by_parts false b h = h

module _ (sig : Signature) (places : List ℕ) (missing : List Bool) where
  -- from a row without a mark no walk ends at one
  no_mark : (ls : List Level) (q : ℕ) (Ks : List ℕ) (P : List Sorted → ℕ → Type 0) → LeadsTo sig places ls q Ks P → lit ls missing q ≡ false
      → LeadsTo sig places ls q Ks (λ Ss r. P Ss r × (get_or missing r false ≡ false))
  no_mark [] q [] P h e = (h, e)
  no_mark [] q (K ∷ Ks) P h e = absurd h
  no_mark (l ∷ ls) q [] P h e = absurd h
  no_mark (l ∷ ls) q (K ∷ Ks) P h e = (h.0, h.1, λ S k. let n = h.2 S k in (n.0, n.1, no_mark ls n.0 Ks (λ Ss r. P (S ∷ Ss) r) n.2 (unmarked_at (marks_of ls missing) h.0 _ n.0 (sym (lit-row l ls missing q h.0 h.1) ∙ e) n.1)))

level-place : (places : List ℕ) (n : ℕ) (S T : Sorted) → IsLevelWith S T → place_in places n S ≡ place_in places n T
level-place places n (sort S) (sort T) e = ap (λ (U : ℕ). get_or places (U - 1) 0) e
level-place places n (sort S) (kind L) e = absurd e
level-place places n (kind K) (sort T) e = absurd e
level-place places n (kind K) (kind L) e = refl

module _ (sorting : Sorting) (missing : List Bool) where
  -- a step of the first walk, seen as a step of its sort
  record IsStep (l : Level) (row : Row) (K : ℕ) (T : Sorted) (p : ℕ) : Type 0 where
    of_kind : SameKind sorting.signature (number_of_sort T) K
    placed : place_in sorting.places (length row) T ≡ p

  step : (l : Level) (q p K : ℕ) (es : List Sorted) (row : Row) (T : Sorted) → AreEntriesOf sorting K es → ((q : ℕ) (row : Row) → slice_get l q ≡ Some row → length row ≡ length es)
      → slice_get l q ≡ Some row → slice_get es p ≡ Some T → IsStep l row K T p
  step l q p K es row T a w e g = record {
    of_kind = a.of_kind p T g;
    placed = ap (λ (n : ℕ). place_in sorting.places n T) (w q row e) ∙ a.at_place p T g;
  }

  -- the first walk takes entries, and ends at a mark
  walk-end : (ls : List Level) (q : ℕ) (ess : List (List Sorted)) (Ks : List ℕ) (Ts : List Sorted) (P : List Sorted → ℕ → Type 0) → LeadsTo sorting.signature sorting.places ls q Ks P
      → HaveEntries sorting ls ess Ks → IsFirstWalk ls missing q ess Ts → AreEntries sorting.signature Ts Ks × ((r : ℕ) × P Ts r × (get_or missing r false ≡ true))
  walk-end [] q [] [] [] P h a w = (tt, (q, h, w))
  walk-end [] q [] [] (T ∷ Ts) P h a w = absurd w
  walk-end [] q [] (K ∷ Ks) Ts P h a w = absurd h
  walk-end [] q (es ∷ ess) Ks Ts P h a w = absurd a
  walk-end (l ∷ ls) q [] Ks Ts P h a w = absurd a
  walk-end (l ∷ ls) q (es ∷ ess) [] Ts P h a w = absurd h
  walk-end (l ∷ ls) q (es ∷ ess) (K ∷ Ks) [] P h a w = absurd w
  walk-end (l ∷ ls) q (es ∷ ess) (K ∷ Ks) (T ∷ Ts) P h a w =
      let s = step l q w.1 K es w.0 T a.0 a.1 w.3 w.4 in
      let n = h.2 T s.of_kind in
      let rows : h.0 ≡ w.0 = get-same l q h.0 w.0 h.1 w.3 in
      let there : slice_get w.0 w.1 ≡ Some n.0 = subst (λ (p : ℕ). slice_get w.0 p ≡ Some n.0) s.placed (subst (λ (row : Row). slice_get row (place_in sorting.places (length row) T) ≡ Some n.0) rows n.1) in
      let nexts : n.0 ≡ w.2 = get-same w.0 w.1 n.0 w.2 there w.5 in
      let rest = walk-end ls w.2 ess Ks Ts (λ Ss r. P (T ∷ Ss) r) (subst (λ (m : ℕ). LeadsTo sorting.signature sorting.places ls m Ks (λ Ss r. P (T ∷ Ss) r)) nexts n.2) a.2 w.7 in
      ((a.0.entry w.1 T w.4, rest.0), rest.1)

  -- whatever precedes the first walk ends at no mark
  walk-before : (ls : List Level) (q : ℕ) (ess : List (List Sorted)) (Ks : List ℕ) (Ts : List Sorted) (P : List Sorted → ℕ → Type 0) → LeadsTo sorting.signature sorting.places ls q Ks P
      → HaveEntries sorting ls ess Ks → IsFirstWalk ls missing q ess Ts → (Ss : List Sorted) → AreOfKinds sorting.signature Ss Ks → Precedes Ss Ts → (r : ℕ) × P Ss r × (get_or missing r false ≡ false)
  walk-before ls q ess Ks Ts P h a w [] k b = absurd b
  walk-before ls q ess Ks [] P h a w (S ∷ Ss) k b = absurd b
  walk-before [] q [] Ks (T ∷ Ts) P h a w (S ∷ Ss) k b = absurd w
  walk-before [] q (es ∷ ess) Ks (T ∷ Ts) P h a w (S ∷ Ss) k b = absurd a
  walk-before (l ∷ ls) q [] Ks (T ∷ Ts) P h a w (S ∷ Ss) k b = absurd a
  walk-before (l ∷ ls) q (es ∷ ess) [] (T ∷ Ts) P h a w (S ∷ Ss) k b = absurd h
  walk-before (l ∷ ls) q (es ∷ ess) (K ∷ Ks) (T ∷ Ts) P h a w (S ∷ Ss) k b = by_case (λ g c. walk-before ls w.2 ess Ks Ts (λ Us r. P (S ∷ Us) r) g a.2 w.7 Ss k.1 c) b
    where
      s : IsStep l w.0 K T w.1
      s = step l q w.1 K es w.0 T a.0 a.1 w.3 w.4

      rows : h.0 ≡ w.0
      rows = get-same l q h.0 w.0 h.1 w.3

      next : ℕ
      next = (h.2 S k.0).0

      leads : LeadsTo sorting.signature sorting.places ls next Ks (λ Us r. P (S ∷ Us) r)
      leads = (h.2 S k.0).2

      there : slice_get w.0 (place_in sorting.places (length w.0) S) ≡ Some next
      there = subst (λ (row : Row). slice_get row (place_in sorting.places (length row) S) ≡ Some next) rows (h.2 S k.0).1

      wide : length w.0 ≡ length es
      wide = a.1 q w.0 w.3

      by_case : (LeadsTo sorting.signature sorting.places ls w.2 Ks (λ Us r. P (S ∷ Us) r) → Precedes Ss Ts → (r : ℕ) × P (S ∷ Ss) r × (get_or missing r false ≡ false))
          → (IsBefore S T ⊎ (IsLevelWith S T × Precedes Ss Ts)) → (r : ℕ) × P (S ∷ Ss) r × (get_or missing r false ≡ false)
      by_case again (inl less) =
          let before : place_in sorting.places (length es) S < place_in sorting.places (length es) T = a.0.in_order S T k.0 s.of_kind less in
          let at_row = subst (λ (n : ℕ). place_in sorting.places n S < place_in sorting.places n T) (sym wide) before in
          let early : place_in sorting.places (length w.0) S < w.1 = subst (λ (p : ℕ). place_in sorting.places (length w.0) S < p) s.placed at_row in
          let r = leads-read sorting.signature sorting.places ls next Ks (λ Us r. P (S ∷ Us) r × (get_or missing r false ≡ false))
          (no_mark sorting.signature sorting.places missing ls next Ks (λ Us r. P (S ∷ Us) r) leads (w.6 _ next early there)) Ss k.1 in
          (r.0, (r.1).0, (r.1).1)
      by_case again (inr both) =
          let one : place_in sorting.places (length w.0) S ≡ w.1 = level-place sorting.places (length w.0) S T both.0 ∙ s.placed in
          let nexts : next ≡ w.2 = get-same w.0 w.1 next w.2 (subst (λ (p : ℕ). slice_get w.0 p ≡ Some next) one there) w.5 in
          again (subst (λ (m : ℕ). LeadsTo sorting.signature sorting.places ls m Ks (λ Us r. P (S ∷ Us) r)) nexts leads) both.1

module _ (sorting : Sorting) (o : Operator) (levels : List Level) (entries : List (List Sorted)) (ends : List (Option Sorted)) (d : IsDrawn sorting o levels entries ends) where
  -- a marked end lacks its result, and another has it
  end-lacks : (Ss : List Sorted) (r : ℕ) → EndsAt sorting.signature o ends Ss r → get_or (map is_none ends) r false ≡ true → LacksLeastResult sorting.signature o Ss
  end-lacks Ss r h e = by_end h.0 h.2 (sym (get_or_from_slice_get _ r _ false (get-map is_none ends r h.0 h.1)) ∙ e)
    where
      by_end : (end : Option Sorted) → IsEndOn sorting.signature o Ss end → is_none end ≡ true → LacksLeastResult sorting.signature o Ss
      by_end (Some R) is n = cc
      by_end None is n = is

  end-there : (Ss : List Sorted) (r : ℕ) → EndsAt sorting.signature o ends Ss r → get_or (map is_none ends) r false ≡ false → (R : Sorted) × IsEndOn sorting.signature o Ss (Some R)
  end-there Ss r h e = by_end h.0 h.2 (sym (get_or_from_slice_get _ r _ false (get-map is_none ends r h.0 h.1)) ∙ e)
    where
      by_end : (end : Option Sorted) → IsEndOn sorting.signature o Ss end → is_none end ≡ false → (R : Sorted) × IsEndOn sorting.signature o Ss (Some R)
      by_end (Some R) is n = (R, is)
      by_end None is n = cc

  -- the first walk to a mark takes the first sorts on which a least result lacks
  pub first_lack : (Ts : List Sorted) → IsFirstWalk levels (map is_none ends) 0 entries Ts → IsFirstLack sorting.signature o Ts
  first_lack Ts w =
      let missing = map is_none ends in
      let e = walk-end sorting missing levels 0 entries o.args Ts (EndsAt sorting.signature o ends) d.leads d.listed w in
      record {
        entries = e.0;
        lacks = end-lacks Ts (e.1).0 (e.1).1 (e.1).2;
        first = λ Ss k b. let r = walk-before sorting missing levels 0 entries o.args Ts (EndsAt sorting.signature o ends) d.leads d.listed w Ss k b in let R = end-there Ss r.0 r.1 r.2 in result-least sorting.signature o Ss R.0 R.1;
      }

  -- where a least result lacks on some sorts, the first row is marked
  pub marked_first : (Ss : List Sorted) → AreOfKinds sorting.signature Ss o.args → LacksLeastResult sorting.signature o Ss → lit levels (map is_none ends) 0 ≡ true
  marked_first Ss k l = by_test (lit levels (map is_none ends) 0) refl
    where
      by_test : (b : Bool) → lit levels (map is_none ends) 0 ≡ b → lit levels (map is_none ends) 0 ≡ true
      by_test true e = e
      by_test false e =
          let r = leads-read sorting.signature sorting.places levels 0 o.args _ (no_mark sorting.signature sorting.places (map is_none ends) levels 0 o.args (EndsAt sorting.signature o ends) d.leads e) Ss k in
          let R = end-there Ss r.0 (r.1).0 (r.1).1 in
          absurd (result-lacks sorting.signature o Ss R.0 R.1 l)
