-- Each kind of step keeps the rule.
use Rattle.std.proofs.Common.{suc, zero, arith, ◌≡◌, ◌≢◌, ℕ, ◌+◌, ◌-◌, ◌<◌, ◌≤◌, List, [], ◌∷◌, ◌++◌, length, true, false, cond, refl, sym, ◌∙◌, ap, subst, slice_index, slice_set, inl, inr, eqb, nat_lt}
use mathlib.Core.Option.{none, some}
use lib.ListN.{get_elem?}
use prog.Atomic.{either}
use Rattle.std.proofs.lemmas.Bool.Decides.{eqb_tells}
use Rattle.std.proofs.lemmas.Bool.{cases_order, cases_lt, lt-ltb, le-ltb}
use Rattle.std.proofs.lemmas.List.{set-get_or, get_or-set_same, get_or-set_other, length-set}
use Rattle.atomic_table.specs.Table.{State, Me, Act, keeps, Valid, carried_after, Allows, Splits, Joins, step, stepped}
use Rattle.atomic_table.proofs.Lists.{exchanged}
use Rattle.mw_board.specs.declared.view.View.{View}
use Rattle.mw_board.specs.Rule.{is, times, elements, total, AllHeld, Stands, below, full, Kept, BoardRule, nothing, has_seen, has_enrolled, has_taken, has_missed, has_put, has_joined, Looks, Enrols, Takes, Puts, Tells}
use Rattle.mw_board.proofs.Views.{is_same, is_other, total_set, total_more, total_at, all_set, all_more, all_at, all_weaker, all_both, none_at, other_of, times_more, times_append, elements_append, without_same, without_other, held_append, held_weaker, held_without, held_apart, get_set_other}

-- a change of one view alone
pub one_view : (n : ℕ) (words : List ℕ) (views : List View) (id : ℕ) (v w : View) → Kept n words views → get_elem? views id ≡ some v
    → w.saw ≤ slice_index words 0 → w.numbers ≡ v.numbers → w.held ≡ v.held → Kept n words (slice_set views id w)
one_view n words views id v w k at saw numbers held = record {
  sized = k.sized;
  few = k.few;
  seen = all_set (λ u. u.saw ≤ slice_index words 0) views id w k.seen saw;
  given = λ x. let t = total_set (λ u. times x u.numbers) views id v w at in let e : times x w.numbers ≡ times x v.numbers = ap (times x) numbers in let g = k.given x in omega (arith, t, e, g);
  taken = λ i p. let t = total_set (λ u. elements i u.held) views id v w at in let e : elements i w.held ≡ elements i v.held = ap (elements i) held in let g = k.taken i p in omega (arith, t, e, g);
  stands = all_set (λ u. AllHeld (Stands words u.numbers) u.held) views id w k.stands
      (rw (numbers, held) (all_at (λ u. AllHeld (Stands words u.numbers) u.held) views id v k.stands at));
}

-- a load leaves the words
pub same_words : (n : ℕ) (words : List ℕ) (i : ℕ) (views : List View) → Kept n words views → Kept n (slice_set words i (slice_index words i)) views
same_words n words i views k = let P : List ℕ → Type 0 = λ ws. Kept n ws views in subst P (sym (set-get_or words i 0)) k

abbrev pub Holds : ℕ → State (Unit {0}) View → Type 0
Holds n s = Kept n s.words s.views

pub look_allows : (n slots id : ℕ) (me : Me (Unit {0}) View) → Allows (Holds n) slots id me 0 (λ m. m) (Looks (step slots 0 0 0 none) me)
look_allows n slots id me s k sized at small =
    let m = slice_index s.words 0 in
    let saw : me.0.saw ≤ m = all_at (λ u. u.saw ≤ m) s.views id me.0 k.seen at in
    let same : slice_index (slice_set s.words 0 m) 0 ≡ m = ap (λ (ws : List ℕ). slice_index ws 0) (set-get_or s.words 0 0) in
    (has_seen me.0 m, keeps, tt, one_view n (slice_set s.words 0 m) s.views id me.0 (has_seen me.0 m) (same_words n s.words 0 s.views k) at (omega (arith, same)) refl refl, (refl, refl, saw, k.few))

full_one : (w : ℕ) → full w ≤ 1
full_one w = elim (eqb w 0) as (λ b. cond b 0 1 ≤ 1) [ true ↦ omega arith | false ↦ omega arith ]

pub tell_allows : (n slots id : ℕ) (me : Me (Unit {0}) View) → Allows (Holds n) slots id me 0 (λ m. m) (Tells (step slots 0 0 0 none) me)
tell_allows n slots id me s k sized at small =
    let m = slice_index s.words 0 in
    let saw : me.0.saw ≤ m = all_at (λ u. u.saw ≤ m) s.views id me.0 k.seen at in
    let same : slice_index (slice_set s.words 0 m) 0 ≡ m = ap (λ (ws : List ℕ). slice_index ws 0) (set-get_or s.words 0 0) in (
      me.0,
      keeps,
      tt,
      one_view n (slice_set s.words 0 m) s.views id me.0 me.0 (same_words n s.words 0 s.views k) at (omega (arith, saw, same)) refl refl,
      (refl, (λ i p. let t = total_at (λ u. elements i u.held) s.views id me.0 at in let g = k.taken i p in let o = full_one (slice_index s.words i) in omega (arith, t, g, o))),
    )

below_more : (x m : ℕ) → below x (m + 1) ≡ below x m + is m x
below_more x m =
    elim (cases_order x m) as (λ _. below x (m + 1) ≡ below x m + is m x) [
      | inl e ↦ let i = is_same m x (sym e) in let a : below x (m + 1) ≡ 1 = ap (λ b. cond b 1 0) (lt-ltb x (m + 1) (omega (arith, e))) in let b : below x m ≡ 0 = ap (λ b. cond b 1 0) (le-ltb x m (omega (arith, e))) in omega (arith, i, a, b)
      | inr c ↦ elim c [
        | inl l ↦ let i = is_other m x (λ e. omega (arith, e, l)) in let a : below x (m + 1) ≡ 1 = ap (λ b. cond b 1 0) (lt-ltb x (m + 1) (omega (arith, l))) in let b : below x m ≡ 1 = ap (λ b. cond b 1 0) (lt-ltb x m l) in omega (arith, i, a, b)
        | inr g ↦ let i = is_other m x (λ e. omega (arith, e, g)) in let a : below x (m + 1) ≡ 0 = ap (λ b. cond b 1 0) (le-ltb x (m + 1) (omega (arith, g))) in let b : below x m ≡ 0 = ap (λ b. cond b 1 0) (le-ltb x m (omega (arith, g))) in omega (arith, i, a, b)
      ]
    ]

below_one : (x m : ℕ) → below x m ≤ 1
below_one x m = elim (nat_lt x m) as (λ b. cond b 1 0 ≤ 1) [ true ↦ omega arith | false ↦ omega arith ]

full_zero : (w : ℕ) → w ≡ 0 → full w ≡ 0
full_zero w e = rw e refl

full_more : (w : ℕ) → w ≢ 0 → full w ≡ 1
full_more w d = elim (eqb_tells w 0) as (λ _. full w ≡ 1) [ inl t ↦ absurd (d t.1) | inr f ↦ rw f.0 refl ]

abbrev put : List ℕ → ℕ → ℕ → List ℕ
put words i x = slice_set words i x

put_same : (words : List ℕ) (i x : ℕ) → i < length words → slice_index (put words i x) i ≡ x
put_same words i x l = get_or-set_same words i x 0 l

put_other : (words : List ℕ) (i j x : ℕ) → j ≢ i → slice_index (put words i x) j ≡ slice_index words j
put_other words i j x d = get_or-set_other words i j x 0 d

-- the same pair stands after another word has changed, and where the seat has more numbers
stands_on : (words words' numbers numbers' : List ℕ) (p : ℕ × ℕ) → slice_index words' p.0 ≡ slice_index words p.0 → times p.1 numbers ≤ times p.1 numbers' → Stands words numbers p → Stands words' numbers' p
stands_on words words' numbers numbers' p e t s = record { above = s.above; word = e ∙ s.word; own = let o = s.own in omega (arith, o, t) }

pub enrol_kept : (n : ℕ) (words : List ℕ) (views : List View) (id : ℕ) (v : View) → Kept n words views → get_elem? views id ≡ some v → slice_index words 0 < 64
    → Kept n (put words 0 (slice_index words 0 + 1)) (slice_set views id (has_enrolled v (slice_index words 0)))
enrol_kept n words views id v k at room =
    let m = slice_index words 0 in
    let words' = put words 0 (m + 1) in
    let now : slice_index words' 0 ≡ m + 1 = put_same words 0 (m + 1) (let z = k.sized in omega (arith, z)) in
    let stay : (u : View) (numbers' : List ℕ) → ((x : ℕ) → times x u.numbers ≤ times x numbers') → AllHeld (Stands words u.numbers) u.held → AllHeld (Stands words' numbers') u.held =
    λ u numbers' t. held_weaker (Stands words u.numbers) (Stands words' numbers') (λ p s. stands_on words words' u.numbers numbers' p (put_other words 0 p.0 (m + 1) (λ e. let a = s.above in omega (arith, e, a))) (t p.1) s) u.held in
    record {
      sized = length-set words 0 (m + 1) ∙ k.sized;
      few = omega (arith, now, room);
      seen = all_set (λ u. u.saw ≤ slice_index words' 0) views id (has_enrolled v m) (all_weaker (λ u. u.saw ≤ m) (λ u. u.saw ≤ slice_index words' 0) (λ u l. omega (arith, l, now)) views k.seen) (omega (arith, now));
      given = λ x. let t = total_set (λ u. times x u.numbers) views id v (has_enrolled v m) at in let a = times_more x v.numbers m in let g = k.given x in let b = below_more x m in
          let c : below x (slice_index words' 0) ≡ below x (m + 1) = ap (below x) now in omega (arith, t, a, g, b, c);
      taken = λ i p. let t = total_set (λ u. elements i u.held) views id v (has_enrolled v m) at in let g = k.taken i p in
          let c : full (slice_index words' i) ≡ full (slice_index words i) = ap full (put_other words 0 i (m + 1) (λ e. omega (arith, e, p))) in omega (arith, t, g, c);
      stands = all_set (λ u. AllHeld (Stands words' u.numbers) u.held) views id (has_enrolled v m)
          (all_weaker (λ u. AllHeld (Stands words u.numbers) u.held) (λ u. AllHeld (Stands words' u.numbers) u.held) (λ u. stay u u.numbers (λ x. omega arith)) views k.stands)
          (stay v (v.numbers ++ m ∷ []) (λ x. let a = times_more x v.numbers m in omega (arith, a)) (all_at (λ u. AllHeld (Stands words u.numbers) u.held) views id v k.stands at));
    }

pub take_kept : (n : ℕ) (words : List ℕ) (views : List View) (id : ℕ) (v : View) (i k : ℕ) → Kept n words views → get_elem? views id ≡ some v → 0 < i → i ≤ n → slice_index words i ≡ 0 → 0 < times k v.numbers
    → Kept n (put words i (k + 1)) (slice_set views id (has_taken v i k))
take_kept n words views id v i number k at above inside empty own =
    let words' = put words i (number + 1) in
    let w = has_taken v i number in
    let now : slice_index words' i ≡ number + 1 = put_same words i (number + 1) (let z = k.sized in omega (arith, z, inside)) in
    let zero : slice_index words' 0 ≡ slice_index words 0 = put_other words i 0 (number + 1) (λ e. omega (arith, e, above)) in
    let was : total (λ u. elements i u.held) views ≡ 0 = k.taken i above ∙ full_zero (slice_index words i) empty in
    let stay : (u : View) → elements i u.held ≡ 0 → AllHeld (Stands words u.numbers) u.held → AllHeld (Stands words' u.numbers) u.held =
    λ u z. held_apart (Stands words u.numbers) (Stands words' u.numbers) i (λ p d s. stands_on words words' u.numbers u.numbers p (put_other words i p.0 (number + 1) d) (omega arith) s) u.held z in
    let none = none_at (λ u. elements i u.held) views was in
    record {
      sized = length-set words i (number + 1) ∙ k.sized;
      few = let f = k.few in omega (arith, zero, f);
      seen = all_set (λ u. u.saw ≤ slice_index words' 0) views id w (all_weaker (λ u. u.saw ≤ slice_index words 0) (λ u. u.saw ≤ slice_index words' 0) (λ u l. omega (arith, l, zero)) views k.seen)
          (let l = all_at (λ u. u.saw ≤ slice_index words 0) views id v k.seen at in omega (arith, l, zero));
      given = λ x. let t = total_set (λ u. times x u.numbers) views id v w at in let g = k.given x in let c : below x (slice_index words' 0) ≡ below x (slice_index words 0) = ap (below x) zero in omega (arith, t, g, c);
      taken = λ j p. let t = total_set (λ u. elements j u.held) views id v w at in let g = k.taken j p in let a = elements_append j v.held ((i, number) ∷ []) in
          elim (eqb_tells i j) as (λ _. total (λ u. elements j u.held) (slice_set views id w) ≡ full (slice_index words' j)) [
            | inl e ↦
                let one = is_same i j e.1 in
                let c : full (slice_index words' j) ≡ 1 = ap (λ (h : ℕ). full (slice_index words' h)) (sym e.1) ∙ full_more (slice_index words' i) (λ z. omega (arith, z, now)) in
                let b : full (slice_index words j) ≡ 0 = ap (λ (h : ℕ). full (slice_index words h)) (sym e.1) ∙ full_zero (slice_index words i) empty in
                omega (arith, t, g, a, one, c, b)
            | inr d ↦
                let no = is_other i j d.1 in
                let c : full (slice_index words' j) ≡ full (slice_index words j) = ap full (put_other words i j (number + 1) (λ e. d.1 (sym e))) in
                omega (arith, t, g, a, no, c)
          ];
      stands = all_set (λ u. AllHeld (Stands words' u.numbers) u.held) views id w
          (all_both (λ u. elements i u.held ≡ 0) (λ u. AllHeld (Stands words u.numbers) u.held) (λ u. AllHeld (Stands words' u.numbers) u.held) stay views none k.stands)
          (held_append (Stands words' v.numbers) v.held ((i, number) ∷ [])
          (stay v (all_at (λ u. elements i u.held ≡ 0) views id v none at) (all_at (λ u. AllHeld (Stands words u.numbers) u.held) views id v k.stands at))
          (record { above = above; word = now; own = own }, tt));
    }

pub put_kept : (n : ℕ) (words : List ℕ) (views : List View) (id : ℕ) (v : View) (i : ℕ) → Kept n words views → get_elem? views id ≡ some v → 0 < i → i ≤ n → 0 < elements i v.held
    → Kept n (put words i 0) (slice_set views id (has_put v i))
put_kept n words views id v i k at above inside has =
    let words' = put words i 0 in
    let w = has_put v i in
    let now : slice_index words' i ≡ 0 = put_same words i 0 (let z = k.sized in omega (arith, z, inside)) in
    let zero : slice_index words' 0 ≡ slice_index words 0 = put_other words i 0 0 (λ e. omega (arith, e, above)) in
    let stay : (u : View) → elements i u.held ≡ 0 → AllHeld (Stands words u.numbers) u.held → AllHeld (Stands words' u.numbers) u.held =
    λ u z. held_apart (Stands words u.numbers) (Stands words' u.numbers) i (λ p d s. stands_on words words' u.numbers u.numbers p (put_other words i p.0 0 d) (omega arith) s) u.held z in
    let left : total (λ u. elements i u.held) (slice_set views id w) ≡ 0 =
    let t = total_set (λ u. elements i u.held) views id v w at in let g = k.taken i above in let one = full_one (slice_index words i) in let z = without_same i v.held in
    let l = total_at (λ u. elements i u.held) views id v at in omega (arith, t, g, one, z, l, has) in
    let none = none_at (λ u. elements i u.held) (slice_set views id w) left in
    record {
      sized = length-set words i 0 ∙ k.sized;
      few = let f = k.few in omega (arith, zero, f);
      seen = all_set (λ u. u.saw ≤ slice_index words' 0) views id w (all_weaker (λ u. u.saw ≤ slice_index words 0) (λ u. u.saw ≤ slice_index words' 0) (λ u l. omega (arith, l, zero)) views k.seen)
          (let l = all_at (λ u. u.saw ≤ slice_index words 0) views id v k.seen at in omega (arith, l, zero));
      given = λ x. let t = total_set (λ u. times x u.numbers) views id v w at in let g = k.given x in let c : below x (slice_index words' 0) ≡ below x (slice_index words 0) = ap (below x) zero in omega (arith, t, g, c);
      taken = λ j p.
          elim (eqb_tells j i) as (λ _. total (λ u. elements j u.held) (slice_set views id w) ≡ full (slice_index words' j)) [
            | inl e ↦
                let P : ℕ → Type 0 = λ h. total (λ u. elements h u.held) (slice_set views id w) ≡ full (slice_index words' h) in
                subst P (sym e.1) (left ∙ sym (full_zero (slice_index words' i) now))
            | inr d ↦
                let t = total_set (λ u. elements j u.held) views id v w at in let g = k.taken j p in let o = without_other i j v.held d.1 in
                let c : full (slice_index words' j) ≡ full (slice_index words j) = ap full (put_other words i j 0 d.1) in
                omega (arith, t, g, o, c)
          ];
      stands = all_both (λ u. elements i u.held ≡ 0) (λ u. AllHeld (Stands words u.numbers) u.held) (λ u. AllHeld (Stands words' u.numbers) u.held) stay (slice_set views id w) none
          (all_set (λ u. AllHeld (Stands words u.numbers) u.held) views id w k.stands (held_without (Stands words v.numbers) i v.held (all_at (λ u. AllHeld (Stands words u.numbers) u.held) views id v k.stands at)));
    }

-- a pair of the element shows that its word's number is the seat's own
shown : (words numbers : List ℕ) (i : ℕ) (held : List (ℕ × ℕ)) → AllHeld (Stands words numbers) held → 0 < elements i held → 0 < times (slice_index words i - 1) numbers
shown words numbers i [] a h = absurd (omega (arith, h))
shown words numbers i (p ∷ ps) a h =
    elim (eqb_tells p.0 i) as (λ _. 0 < times (slice_index words i - 1) numbers) [
      | inl e ↦
          let w : slice_index words i ≡ p.1 + 1 = ap (λ (j : ℕ). slice_index words j) (sym e.1) ∙ a.0.word in
          let q : p.1 ≡ slice_index words i - 1 = omega (arith, w) in
          subst (λ (k : ℕ). 0 < times k numbers) q a.0.own
      | inr d ↦ let z = is_other p.0 i d.1 in shown words numbers i ps a.1 (omega (arith, h, z))
    ]

-- a word that a seat found and that is of none of its elements is of another seat's number
pub missed_tells : (n : ℕ) (words : List ℕ) (views : List View) (id : ℕ) (v : View) (i : ℕ) → Kept n words views → get_elem? views id ≡ some v → 0 < i → slice_index words i ≢ 0 → elements i v.held ≡ 0
    → times (slice_index words i - 1) v.numbers ≡ 0
missed_tells n words views id v i k at above some_word unheld =
    let x = slice_index words i - 1 in
    let all = all_weaker (λ u. AllHeld (Stands words u.numbers) u.held) (λ u. 0 < elements i u.held → 0 < times x u.numbers) (λ u a. shown words u.numbers i u.held a) views k.stands in
    let t = k.taken i above in
    let f = full_more (slice_index words i) some_word in
    let o = other_of (λ u. elements i u.held) (λ u. times x u.numbers) views id v all at unheld (omega (arith, t, f)) in
    let g = k.given x in
    let b = below_one x (slice_index words 0) in
    omega (arith, o, g, b)

pub more_view : (n : ℕ) (words : List ℕ) (views : List View) → Kept n words views → Kept n words (views ++ nothing ∷ [])
more_view n words views k = record {
  sized = k.sized;
  few = k.few;
  seen = all_more (λ u. u.saw ≤ slice_index words 0) views nothing k.seen (omega arith);
  given = λ x. let t = total_more (λ u. times x u.numbers) views nothing in let g = k.given x in omega (arith, t, g);
  taken = λ i p. let t = total_more (λ u. elements i u.held) views nothing in let g = k.taken i p in omega (arith, t, g);
  stands = all_more (λ u. AllHeld (Stands words u.numbers) u.held) views nothing k.stands tt;
}

pub split_splits : (n id : ℕ) (v : View) → Splits (Holds n) id v v nothing
split_splits n id v s k at =
    let l = all_at (λ u. u.saw ≤ slice_index s.words 0) s.views id v k.seen at in
    more_view n s.words (slice_set s.views id v) (one_view n s.words s.views id v v k at l refl refl)

pub join_joins : (n id : ℕ) (v : View) (other : ℕ) (w : View) → Joins (Holds n) id v other w (has_joined v w) nothing
join_joins n id v other w s k at apart at' =
    let words = s.words in
    let views = s.views in
    let b = has_joined v w in
    let was : get_elem? views other ≡ some w = sym (get_set_other views id other b apart) ∙ at' in
    let of_v = all_at (λ u. AllHeld (Stands words u.numbers) u.held) views id v k.stands at in
    let of_w = all_at (λ u. AllHeld (Stands words u.numbers) u.held) views other w k.stands was in
    let grown : (numbers : List ℕ) (held : List (ℕ × ℕ)) → ((x : ℕ) → times x numbers ≤ times x b.numbers) → AllHeld (Stands words numbers) held → AllHeld (Stands words b.numbers) held =
    λ numbers held t. held_weaker (Stands words numbers) (Stands words b.numbers) (λ p a. stands_on words words numbers b.numbers p refl (t p.1) a) held in
    record {
      sized = k.sized;
      few = k.few;
      seen = all_set (λ u. u.saw ≤ slice_index words 0) (slice_set views id b) other nothing
          (all_set (λ u. u.saw ≤ slice_index words 0) views id b k.seen (all_at (λ u. u.saw ≤ slice_index words 0) views id v k.seen at)) (omega arith);
      given = λ x. let t = total_set (λ u. times x u.numbers) views id v b at in let t' = total_set (λ u. times x u.numbers) (slice_set views id b) other w nothing at' in
          let a = times_append x v.numbers w.numbers in let g = k.given x in omega (arith, t, t', a, g);
      taken = λ i p. let t = total_set (λ u. elements i u.held) views id v b at in let t' = total_set (λ u. elements i u.held) (slice_set views id b) other w nothing at' in
          let a = elements_append i v.held w.held in let g = k.taken i p in omega (arith, t, t', a, g);
      stands = all_set (λ u. AllHeld (Stands words u.numbers) u.held) (slice_set views id b) other nothing
          (all_set (λ u. AllHeld (Stands words u.numbers) u.held) views id b k.stands
          (held_append (Stands words b.numbers) v.held w.held
          (grown v.numbers v.held (λ x. let a = times_append x v.numbers w.numbers in omega (arith, a)) of_v)
          (grown w.numbers w.held (λ x. let a = times_append x v.numbers w.numbers in omega (arith, a)) of_w))) tt;
    }

pub enrol_allows : (n slots id : ℕ) (me : Me (Unit {0}) View) (seen : ℕ) → me.0.saw ≡ seen → seen < 64
    → Allows (Holds n) slots id me 0 (λ m. either (eqb m seen) (seen + 1) m) (Enrols (step slots 0 seen (seen + 1) none) me)
enrol_allows n slots id me seen saw room s k sized at small =
    let m = slice_index s.words 0 in
    let F : ℕ → Type 0 = λ x. (w : View) × (a : Act (Unit {0})) × Valid s.homes me.1 a × Holds n (stepped s 0 x id me.1 w a)
    × Enrols (step slots 0 seen (seen + 1) none) me m (w, carried_after me.1 a) in
    let least : me.0.saw ≤ m = all_at (λ u. u.saw ≤ m) s.views id me.0 k.seen at in
    exchanged m seen (seen + 1) F
    (λ e. let P : ℕ → Type 0 = λ y. Kept n (slice_set s.words 0 (y + 1)) (slice_set s.views id (has_enrolled me.0 m)) in
    (has_enrolled me.0 m, keeps, tt, subst P e (enrol_kept n s.words s.views id me.0 k at (omega (arith, e, room))), (refl, (λ _. refl), (λ d. absurd (d e)))))
    (λ d. let z : slice_index (slice_set s.words 0 m) 0 ≡ m = ap (λ (ws : List ℕ). slice_index ws 0) (set-get_or s.words 0 0) in (
      has_seen me.0 m,
      keeps,
      tt,
      one_view n (slice_set s.words 0 m) s.views id me.0 (has_seen me.0 m) (same_words n s.words 0 s.views k) at (omega (arith, z)) refl refl,
      (refl, (λ e. absurd (d e)), (λ _. (refl, grind (arith, least, saw, d), k.few))),
    ))

pub take_allows : (n slots id : ℕ) (me : Me (Unit {0}) View) (i k : ℕ) → 0 < i → i ≤ n → 0 < times k me.0.numbers
    → Allows (Holds n) slots id me i (λ m. either (eqb m 0) (k + 1) m) (Takes (step slots i 0 (k + 1) none) me)
take_allows n slots id me i number above inside own s k sized at small =
    let m = slice_index s.words i in
    let F : ℕ → Type 0 = λ x. (w : View) × (a : Act (Unit {0})) × Valid s.homes me.1 a × Holds n (stepped s i x id me.1 w a)
    × Takes (step slots i 0 (number + 1) none) me m (w, carried_after me.1 a) in
    let least : me.0.saw ≤ slice_index s.words 0 = all_at (λ u. u.saw ≤ slice_index s.words 0) s.views id me.0 k.seen at in
    exchanged m 0 (number + 1) F
    (λ e. (
      has_taken me.0 i number,
      keeps,
      tt,
      take_kept n s.words s.views id me.0 i number k at above inside e own,
      (refl, (λ _. (ap (λ (h : ℕ). has_taken me.0 i h) (omega arith), (let g = k.taken i above in let z = full_zero m e in let t = total_at (λ u. elements i u.held) s.views id me.0 at in omega (arith, g, z, t)))), (λ d. absurd (d e))),
    ))
    (λ d. let z : slice_index (slice_set s.words i m) 0 ≡ slice_index s.words 0 = ap (λ (ws : List ℕ). slice_index ws 0) (set-get_or s.words i 0) in (
      has_missed me.0 i m,
      keeps,
      tt,
      one_view n (slice_set s.words i m) s.views id me.0 (has_missed me.0 i m) (same_words n s.words i s.views k) at (omega (arith, least, z)) refl refl,
      (refl, (λ e. absurd (d e)), (λ _. (refl, missed_tells n s.words s.views id me.0 i k at above d))),
    ))

pub put_allows : (n slots id : ℕ) (me : Me (Unit {0}) View) (i : ℕ) → 0 < i → i ≤ n → 0 < elements i me.0.held
    → Allows (Holds n) slots id me i (λ _. 0) (λ _. Puts (step slots i 0 0 none) me 0)
put_allows n slots id me i above inside has s k sized at small =
    (has_put me.0 i, keeps, tt, put_kept n s.words s.views id me.0 i k at above inside has, (refl, refl))

total_two : (f : View → ℕ) (vs : List View) (i j : ℕ) (u v : View) → i ≢ j → get_elem? vs i ≡ some u → get_elem? vs j ≡ some v → f u + f v ≤ total f vs
total_two f [] i j u v d a b = cc a
total_two f (w ∷ ws) zero zero u v d a b = absurd (d refl)
total_two f (w ∷ ws) zero (suc j) u v d a b = let e : f w ≡ f u = cc a in let t = total_at f ws j v b in omega (arith, e, t)
total_two f (w ∷ ws) (suc i) zero u v d a b = let e : f w ≡ f v = cc b in let t = total_at f ws i u a in omega (arith, e, t)
total_two f (w ∷ ws) (suc i) (suc j) u v d a b = let t = total_two f ws i j u v (λ e. d (ap (λ (n : ℕ). suc n) e)) a b in omega (arith, t)

total_some : (f : View → ℕ) (vs : List View) → 0 < total f vs → (seat : ℕ) × (v : View) × (get_elem? vs seat ≡ some v) × (0 < f v)
total_some f [] h = absurd (omega (arith, h))
total_some f (w ∷ ws) h =
    elim (eqb_tells (f w) 0) as (λ _. (seat : ℕ) × (v : View) × (get_elem? (w ∷ ws) seat ≡ some v) × (0 < f v)) [
      | inl e ↦ let r = total_some f ws (omega (arith, h, e.1)) in (suc r.0, r.1, r.2, r.3)
      | inr d ↦ (zero, w, refl, grind (arith, d.1))
    ]

same_seat : (f : View → ℕ) (vs : List View) (i j : ℕ) (u v : View) → total f vs ≤ 1 → get_elem? vs i ≡ some u → get_elem? vs j ≡ some v → 0 < f u → 0 < f v → i ≡ j
same_seat f vs i j u v one a b p q =
    elim (eqb_tells i j) as (λ _. i ≡ j) [ inl e ↦ e.1 | inr d ↦ let t = total_two f vs i j u v d.1 a b in absurd (omega (arith, t, one, p, q)) ]

below_yes : (x m : ℕ) → 0 < below x m → x < m
below_yes x m h = elim (cases_lt x m) as (λ _. x < m) [ inl l ↦ l | inr g ↦ let b : below x m ≡ 0 = ap (λ b. cond b 1 0) (le-ltb x m g) in absurd (omega (arith, h, b)) ]

pub rule_of : (n : ℕ) (words : List ℕ) (views : List View) → Kept n words views → BoardRule words views
rule_of n words views k = record {
  most = k.few;
  seen = λ seat v at. all_at (λ u. u.saw ≤ slice_index words 0) views seat v k.seen at;
  below_count = λ seat v x at p. let t = total_at (λ u. times x u.numbers) views seat v at in let g = k.given x in below_yes x (slice_index words 0) (omega (arith, t, g, p));
  once = λ seat v x at. let t = total_at (λ u. times x u.numbers) views seat v at in let g = k.given x in let b = below_one x (slice_index words 0) in omega (arith, t, g, b);
  differ = λ seat seat' v v' x a b p q. same_seat (λ u. times x u.numbers) views seat seat' v v' (let g = k.given x in let o = below_one x (slice_index words 0) in omega (arith, g, o)) a b p q;
  stand = λ seat v at. all_at (λ u. AllHeld (Stands words u.numbers) u.held) views seat v k.stands at;
  holder = λ i p w. let t = k.taken i p in let f = full_more (slice_index words i) w in total_some (λ u. elements i u.held) views (omega (arith, t, f));
  held_once = λ seat v i at p. let t = total_at (λ u. elements i u.held) views seat v at in let g = k.taken i p in let o = full_one (slice_index words i) in omega (arith, t, g, o);
  held_apart = λ seat seat' v v' i a b p q r. same_seat (λ u. elements i u.held) views seat seat' v v' (let g = k.taken i p in let o = full_one (slice_index words i) in omega (arith, g, o)) a b q r;
}
