-- Equations that are asked one after another.
use Rattle.std.specs.Prelude.{◌≡◌, ◌<◌, ◌≤◌, ◌+◌, ◌-◌, ◌⊎◌, ℕ, zero, suc, List, [], ◌∷◌, ◌++◌, length, Bool, true, false, if◌then◌else◌, Option, Some, None, MatchOption, IfSome, is_some, slice_get, ⊤, refl}
use Rattle.std.proofs.Common.{Box, Global, sym, ap, subst, ◌∙◌, arith, inl, inr, ⊎_elim}
use Rattle.std.proofs.lemmas.Bool.{both_ways}
use Rattle.std.proofs.lemmas.Option.{same_Some, slice_get_within}
use Rattle.mw_logic.specs.Signature.{Member}
use Rattle.mw_logic.specs.Term.{RawTerm, RawTerms}
use Rattle.mw_logic.proofs.Members.{member-left, member-right, member-append}
use Rattle.mw_logic.specs.Module.{Module, Statement, IsStatement}
use Rattle.mw_match.proofs.Picking.{at_index, member_at}
use Rattle.mw_solving.specs.Values.{IsValue}
use Rattle.mw_index.specs.Oriented.{IsLeft, IsSearchedLeft}
use Rattle.mw_index.specs.Index.{operator_of, asked, own_asked, others_asked, IsNextOf, IsOf, IsEquationOf, IsIndexOf}
use Rattle.mw_index.specs.Choices.{Tried, tried_of, AreTried, AreAllTried, IsChoice, IsKept, IsUnderWay, IsAnswer, IsSized, Covers, Stays, Passes, IsSearch, IsPlainOne, IsSearchedOne}
use Rattle.mw_index.specs.declared.oriented.Oriented.{Oriented}
use Rattle.mw_index.specs.declared.oriented.Searched.{Searched}
use Rattle.mw_index.specs.declared.oriented.Left.{Left}
use Rattle.mw_index.specs.declared.oriented.Left.TheVariants as left
use Rattle.mw_index.specs.declared.index.Index.{Index}
use Rattle.mw_index.specs.declared.choices.Choice.{Choice}
use Rattle.mw_index.specs.declared.choices.Choices.{Choices}
use Rattle.mw_index.proofs.Trying.{are_tried_more}

module _ (M : Module) (top : Option ℕ) (st : Oriented) (of : IsOf M top st) where
  pub plain_one : (ps : RawTerms) → st.left ≡ left.Plain ps → IsPlainOne M top st ps
  plain_one ps e = by_top top refl (subst (IsLeft M.signature top of.statement) e of.is.left)
    where
      by_top : (o : Option ℕ) → top ≡ o → IsLeft M.signature o of.statement (left.Plain ps) → IsPlainOne M top st ps
      by_top None t h = absurd h
      by_top (Some f) t h = record { of = of; operator = f; is_top = t; left = h }

  pub searched_one : (s : Searched) (b : Box Searched Global) → st.left ≡ left.Searched b → s ≡ b.value → IsSearchedOne M top st s
  searched_one s b e i = by_top top (subst (IsLeft M.signature top of.statement) e of.is.left)
    where
      here : IsSearch st.left s
      here = subst (λ (l : Left). IsSearch l s) (sym e) (sym i)

      by_top : (o : Option ℕ) → IsLeft M.signature o of.statement (left.Searched b) → IsSearchedOne M top st s
      by_top None h = record { of = of; here = here; left = subst (IsSearchedLeft M.signature of.statement) (sym i) h }
      by_top (Some f) h = record { of = of; here = here; left = subst (IsSearchedLeft M.signature of.statement) (sym i) h }

pub choice_of : (M : Module) (top : Option ℕ) (st : Oriented) (o : Option Choice) → IsEquationOf M top st → IsSized st o → IfSome o (λ q. IsEquationOf M top q.by.now)
choice_of M top st None i h = tt
choice_of M top st (Some q) i (e, n) = subst (IsEquationOf M top) (sym e) i

pub sized_choice : (st : Oriented) (o : Option Choice) → IsSized st o → IfSome o (λ q. length q.values.items ≡ length q.by.now.sorts)
sized_choice st None h = tt
sized_choice st (Some q) (e, n) = n ∙ ap (λ (st : Oriented). length st.sorts) (sym e)

-- what is asked is an executable equation
asked_is : (m : Index) (top : Option ℕ) → asked m top ≡ own_asked m top ++ others_asked m top
asked_is m None = refl
asked_is m (Some f) = refl

pub asked_of : (M : Module) (m : Index) (top : Option ℕ) (i j : ℕ) (st : Oriented) (own : Bool) → IsIndexOf M m
    → IsNextOf (slice_get (own_asked m top) i) (slice_get (others_asked m top) j) st own → IsEquationOf M top st
asked_of M m top i j st true h e =
    h.sound top st (subst (Member st) (sym (asked_is m top)) (member-left st (own_asked m top) (others_asked m top) (member_at st (own_asked m top) i e.0)))
asked_of M m top i j st false h e =
    h.sound top st (subst (Member st) (sym (asked_is m top)) (member-right st (own_asked m top) (others_asked m top) (member_at st (others_asked m top) j e.0)))

no_value : {B : Type 0} (o : Option B) (P : B → Type 0) → o ≡ None → MatchOption o ⊤ P
no_value None P e = tt
no_value (Some b) P e = cc

-- a statement alone, at the beginning
pub not_begun : (M : Module) (t : RawTerm) (tried : List Tried) (st : Oriented) (c : Choices) → c.given ≡ false → c.search ≡ None → IsUnderWay M t tried st c
not_begun M t tried st c g s = record { given = λ h. absurd (both_ways _ g h); search = no_value _ _ s }

pub nothing_left : {B : Type 0} (o : Option B) (P : Type 0) (Q : B → Type 0) → MatchOption o P Q → ((b : B) → o ≡ Some b → ⊥) → P
nothing_left None P Q h n = h
nothing_left (Some b) P Q h n = absurd (n b refl)

split_below : (i n : ℕ) → i < n + 1 → (i < n) ⊎ (i ≡ n)
split_below zero zero l = inr refl
split_below zero (suc n) l = inl (omega arith)
split_below (suc i) zero l = absurd (omega (arith, l))
split_below (suc i) (suc n) l = ⊎_elim (λ a. inl (omega (arith, a))) (λ a. inr (ap suc a)) (split_below i n (omega (arith, l)))

-- the next one of two lists is one alone
next_alone : (a b : Option Oriented) (st st' : Oriented) (own own' : Bool) → IsNextOf a b st own → IsNextOf a b st' own' → st ≡ st'
next_alone a b st st' true true h k = same_Some st st' (sym h.0 ∙ k.0)
next_alone a b st st' true false h k = absurd (both_ways _ k.1 h.1)
next_alone a b st st' false true h k = absurd (both_ways _ h.1 k.1)
next_alone a b st st' false false h k = same_Some st st' (sym h.0 ∙ k.0)

module _ (M : Module) (m : Index) (t : RawTerm) (tried : List Tried) where
  abbrev mine : List Oriented
  mine = own_asked m (operator_of t)

  abbrev other : List Oriented
  other = others_asked m (operator_of t)

  module _ (c new : Choices) (st : Oriented) (own : Bool) (h : Covers M m t tried c) (is : IsNextOf (slice_get mine c.own) (slice_get other c.others) st own) (stays : Stays c new) where
    same_one : (s : Oriented) (b : Bool) → IsNextOf (slice_get mine new.own) (slice_get other new.others) s b → st ≡ s
    same_one s b e = next_alone (slice_get mine c.own) (slice_get other c.others) st s own b is
        (subst (λ i. IsNextOf (slice_get mine i) (slice_get other c.others) s b) stays.own (subst (λ j. IsNextOf (slice_get mine new.own) (slice_get other j) s b) stays.others e))

    -- a choice
    pub chosen_covers : (o : Option Choice) → is_some o ≡ true → IsAnswer M t tried st o new → MatchOption o (AreAllTried M t tried) (λ q. IsChoice M t q × Covers M m t (tried ++ tried_of q ∷ []) new)
    chosen_covers None s a = absurd (both_ways _ refl s)
    chosen_covers (Some q) s a =
        let (choice, by, under) = a.answer in (
          choice,
          record {
            subject = a.subject;
            passed = λ i z e l g k. are_tried_more M.signature tried (tried_of q ∷ []) t z.number e (h.passed i z e (omega (arith, l, stays.own)) g k);
            passed_others = λ i z e l g k. are_tried_more M.signature tried (tried_of q ∷ []) t z.number e (h.passed_others i z e (omega (arith, l, stays.others)) g k);
            under_way = λ z b e. subst (λ z. IsUnderWay M t (tried ++ tried_of q ∷ []) z new) (same_one z b e) under;
          },
        )

    -- none: the next equation is asked
    pub passed_covers : (o : Option Choice) → is_some o ≡ false → IsAnswer M t tried st o new → (next : Choices) → Passes own new next → Covers M m t tried next
    passed_covers (Some q) s a next p = absurd (both_ways _ s refl)
    passed_covers None s a next p = record {
      subject = subst (IsKept t) (sym p.subject) a.subject;
      passed = in_first own refl;
      passed_others = in_second own refl;
      under_way = λ z b e. not_begun M t tried z next p.given p.search;
    }
      where
        it : (z : Oriented) (e : Statement) → st ≡ z → IsStatement M z.number e → AreTried M.signature t tried z.number e
        it z e w b = subst (λ (z : Oriented). AreTried M.signature t tried z.number e) w (a.answer e (subst (λ (z : Oriented). IsStatement M z.number e) (sym w) b))

        in_first : (b : Bool) → own ≡ b → (i : ℕ) (z : Oriented) (e : Statement) → i < next.own → slice_get mine i ≡ Some z → IsStatement M z.number e → AreTried M.signature t tried z.number e
        in_first true o i z e l k y =
            let n : next.own ≡ new.own + 1 = p.own ∙ ap (λ b. new.own + (if b then 1 else 0)) o in
            let here = subst (IsNextOf (slice_get mine c.own) (slice_get other c.others) st) o is in
            ⊎_elim
            (λ j. h.passed i z e (omega (arith, j, stays.own)) k y)
            (λ (j : i ≡ new.own). it z e (same_Some st z (sym here.0 ∙ ap (slice_get mine) (sym stays.own ∙ sym j) ∙ k)) y)
            (split_below i new.own (omega (arith, l, n)))
        in_first false o i z e l k y =
            let n : next.own ≡ new.own + 0 = p.own ∙ ap (λ b. new.own + (if b then 1 else 0)) o in h.passed i z e (omega (arith, l, n, stays.own)) k y

        in_second : (b : Bool) → own ≡ b → (i : ℕ) (z : Oriented) (e : Statement) → i < next.others → slice_get other i ≡ Some z → IsStatement M z.number e → AreTried M.signature t tried z.number e
        in_second false o i z e l k y =
            let n : next.others ≡ new.others + 1 = p.others ∙ ap (λ b. new.others + (if b then 0 else 1)) o in
            let here = subst (IsNextOf (slice_get mine c.own) (slice_get other c.others) st) o is in
            ⊎_elim
            (λ j. h.passed_others i z e (omega (arith, j, stays.others)) k y)
            (λ (j : i ≡ new.others). it z e (same_Some st z (sym here.0 ∙ ap (slice_get other) (sym stays.others ∙ sym j) ∙ k)) y)
            (split_below i new.others (omega (arith, l, n)))
        in_second true o i z e l k y =
            let n : next.others ≡ new.others + 0 = p.others ∙ ap (λ b. new.others + (if b then 0 else 1)) o in h.passed_others i z e (omega (arith, l, n, stays.others)) k y

  -- no equation is left
  pub all_passed : (c : Choices) → IsIndexOf M m → IsValue M.signature t → length mine ≤ c.own → length other ≤ c.others → Covers M m t tried c → AreAllTried M t tried
  all_passed c index v l k h n e is r w top s sol =
      let (st, member, number) = index.complete n e is r t w v top s sol in
      let statement = subst (λ k. IsStatement M k e) (sym number) is in
      let tried_it : AreTried M.signature t tried st.number e = ⊎_elim
      (λ a. let (i, at) = at_index st mine a in let b = slice_get_within mine i st at in h.passed i st e (omega (arith, b, l)) at statement)
      (λ a. let (i, at) = at_index st other a in let b = slice_get_within other i st at in h.passed_others i st e (omega (arith, b, k)) at statement)
      (member-append st mine other (subst (Member st) (asked_is m (operator_of t)) member)) in
      let (x, y, q, same) = tried_it w top s sol in (x, y, q ∙ number, same)

-- fewer are left when one was passed
pub fewer_left : (m : Index) (top : Option ℕ) (c new next : Choices) (st : Oriented) (own : Bool)
    → IsNextOf (slice_get (own_asked m top) c.own) (slice_get (others_asked m top) c.others) st own → Stays c new → Passes own new next
    → (length (own_asked m top) - next.own) + (length (others_asked m top) - next.others) < (length (own_asked m top) - c.own) + (length (others_asked m top) - c.others)
fewer_left m top c new next st true is stays p =
    let w = slice_get_within (own_asked m top) c.own st is.0 in omega (arith, p.own, p.others, w, stays.own, stays.others)
fewer_left m top c new next st false is stays p =
    let w = slice_get_within (others_asked m top) c.others st is.0 in omega (arith, p.own, p.others, w, stays.own, stays.others)
