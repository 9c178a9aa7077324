-- Which modules a module has.
use Rattle.std.proofs.Common.{◌≡◌, ◌∙◌, ◌+◌, ◌<◌, ◌≤◌, ◌||◌, ℕ, suc, List, [], ◌∷◌, ◌++◌, length, cond, Bool, true, false, Option, None, Some, bytes_eq, refl, sym, ap, inl, inr, slice_get, arith}
use Rattle.std.specs.List.{position_from}
use Rattle.std.proofs.lemmas.Bool.{both_ways, or_cases, or_right}
use Rattle.std.proofs.lemmas.Iterator.Adapters.{position_from-zero}
use Rattle.std.proofs.lemmas.List.Quantifiers.{position-Some}
use Rattle.std.proofs.lemmas.Option.{slice_get_within, slice_get-get_or, same_Some}
use Rattle.std.proofs.lemmas.Slice.Eq.{bytes_eq-Decides}
use Rattle.mw_logic.specs.Signature.{Member}
use Rattle.mw_module.specs.Units.{SeenLined}
use Rattle.mw_import.specs.Flat.{FlatUnit, number_named, is_among, is_unit_among, is_reached, IsFlat, AreAccepted}
use Rattle.mw_import.proofs.Lists.{among_member, member_among, none_named}
use Rattle.mw_import.proofs.Brought.{reached_brought, flat_closed}

-- the unit of an accepted name
named_here : (us : List FlatUnit) → AreAccepted us → (k : ℕ) (u : FlatUnit) (n : List ℕ) → slice_get us k ≡ Some u → n ≡ u.name → number_named us n ≡ Some k
named_here us all k u n at same = of (number_named us n) refl
  where
    of : (o : Option ℕ) → number_named us n ≡ o → o ≡ Some k
    of None e = absurd (both_ways (bytes_eq n u.name) (none_named us n e k u at) ((bytes_eq-Decides n u.name).1 same))
    of (Some j) e =
        let first = position-Some (λ (v : FlatUnit). bytes_eq n v.name) us j u e in
        let there = slice_get-get_or us j u first.0 in
        ap Some (all.apart j k _ u there at (sym ((bytes_eq-Decides n _).0 first.1) ∙ same))

module _ (us : List FlatUnit) (all : AreAccepted us) (ss : List SeenLined) (k : ℕ) (reached : List ℕ) (u : FlatUnit) (own name : List ℕ) (flat : IsFlat us ss reached) (m : Member k reached)
    (at : slice_get us k ≡ Some u) where
  among : is_unit_among u.reached (number_named us name) ≡ true → is_unit_among reached (number_named us name) ≡ true
  among e = of (number_named us name) e
    where
      of : (o : Option ℕ) → is_unit_among u.reached o ≡ true → is_unit_among reached o ≡ true
      of None h = h
      of (Some j) h = member_among j reached (flat_closed us all ss reached flat k m j (reached_brought us j k u at (among_member j u.reached h)))

  -- what a module has that is reached
  pub reaches : is_reached us u.reached u.name name ≡ true → is_reached us reached own name ≡ true
  reaches e =
      or_right (bytes_eq own name) (is_unit_among reached (number_named us name))
      (elim (or_cases (bytes_eq u.name name) (is_unit_among u.reached (number_named us name)) e) [
        | inl same ↦ ap (is_unit_among reached) (named_here us all k u name at (sym ((bytes_eq-Decides u.name name).0 same))) ∙ member_among k reached m
        | inr h ↦ among h
      ])

-- the first place that passes, among more
module _ {X : Type 0} (p : X → Bool) where
  stays : (xs ys : List X) (i j : ℕ) → position_from p i xs ≡ Some j → position_from p i (xs ++ ys) ≡ Some j
  stays [] ys i j e = cc
  stays (x ∷ xs) ys i j e = of (p x) e (stays xs ys (i + 1) j)
    where
      of : (b : Bool) → cond b (Some i) (position_from p (i + 1) xs) ≡ Some j → (position_from p (i + 1) xs ≡ Some j → position_from p (i + 1) (xs ++ ys) ≡ Some j)
          → cond b (Some i) (position_from p (i + 1) (xs ++ ys)) ≡ Some j
      of true h more = h
      of false h more = more h

  from_low : (ys : List X) (i j : ℕ) → position_from p i ys ≡ Some j → i ≤ j
  from_low [] i j e = cc
  from_low (y ∷ ys) i j e = of (p y) e (from_low ys (i + 1) j)
    where
      of : (b : Bool) → cond b (Some i) (position_from p (i + 1) ys) ≡ Some j → (position_from p (i + 1) ys ≡ Some j → i + 1 ≤ j) → i ≤ j
      of true h more = let is : i ≡ j = same_Some i j h in omega (arith, is)
      of false h more = let low = more h in omega (arith, low)

  behind : (xs ys : List X) (i j : ℕ) → position_from p i xs ≡ None → position_from p i (xs ++ ys) ≡ Some j → i + length xs ≤ j
  behind [] ys i j none e = let low = from_low ys i j e in omega (arith, low)
  behind (x ∷ xs) ys i j none e = of (p x) none e (behind xs ys (i + 1) j)
    where
      of : (b : Bool) → cond b (Some i) (position_from p (i + 1) xs) ≡ None → cond b (Some i) (position_from p (i + 1) (xs ++ ys)) ≡ Some j
          → (position_from p (i + 1) xs ≡ None → position_from p (i + 1) (xs ++ ys) ≡ Some j → i + 1 + length xs ≤ j) → i + suc (length xs) ≤ j
      of true h k more = cc
      of false h k more = let low = more h k in omega (arith, low)

module _ (us more : List FlatUnit) (reached own name : List ℕ) (low : (j : ℕ) → Member j reached → j < length us) where
  abbrev is : FlatUnit → Bool
  is v = bytes_eq name v.name

  kept_among : is_unit_among reached (number_named (us ++ more) name) ≡ is_unit_among reached (number_named us name)
  kept_among = of (number_named us name) refl
    where
      lacking : number_named us name ≡ None → (o : Option ℕ) → number_named (us ++ more) name ≡ o → is_unit_among reached o ≡ false
      lacking e None f = refl
      lacking e (Some j) f = by (is_among j reached) refl
        where
          by : (b : Bool) → is_among j reached ≡ b → b ≡ false
          by false h = refl
          by true h =
              let inside : j < length us = low j (among_member j reached h) in
              let high : 0 + length us ≤ j = behind is us more 0 j (sym (position_from-zero is us) ∙ e) (sym (position_from-zero is (us ++ more)) ∙ f) in
              absurd (omega (arith, inside, high))

      of : (o : Option ℕ) → number_named us name ≡ o → is_unit_among reached (number_named (us ++ more) name) ≡ is_unit_among reached o
      of None e = lacking e (number_named (us ++ more) name) refl
      of (Some j) e = ap (is_unit_among reached) (position_from-zero is (us ++ more) ∙ stays is us more 0 j (sym (position_from-zero is us) ∙ e))

  -- more units change nothing
  pub reached_stays : is_reached (us ++ more) reached own name ≡ is_reached us reached own name
  reached_stays = ap (λ b. bytes_eq own name || b) kept_among

-- nor for an accepted unit
pub reaches_kept : (us more : List FlatUnit) (k : ℕ) (u : FlatUnit) (name : List ℕ) → AreAccepted us → slice_get us k ≡ Some u
    → is_reached (us ++ more) u.reached u.name name ≡ is_reached us u.reached u.name name
reaches_kept us more k u name all at =
    reached_stays us more u.reached u.name name (λ j m. let low = all.before k u at j m in let inside = slice_get_within us k u at in omega (arith, low, inside))
