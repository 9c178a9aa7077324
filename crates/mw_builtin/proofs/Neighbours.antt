-- Neighbours among arguments that give nothing: then, in order, no two of them do.
use Rattle.std.specs.Prelude.{◌≡◌, ◌⊎◌, ◌<◌, ◌≤◌, ◌+◌, ◌-◌, ◌*◌, ◌^◌, ℕ, zero, suc, List, [], ◌∷◌, length, get_or, drop, Bool, true, false, cond, nat_lt, nat_le, refl, ⊤}
use Rattle.std.proofs.Common.{inl, inr, arith, ap, sym, subst, ◌∙◌}
use Rattle.std.proofs.lemmas.List.{drop_more, length-drop}
use Rattle.mw_logic.specs.Terms.{terms_of}
use Rattle.std.specs.Ordering.{nat_cmp, is_gt}
use Rattle.std.proofs.lemmas.Bool.{both_ways, cases_eq, cases_lt, lt-ltb, le-ltb}
use Rattle.mw_logic.specs.Term.{RawTerm, numeral, quoted, variable, apply, RawTerms, nil, cons, join}
use Rattle.mw_logic.specs.Signature.{Signature}
use Rattle.mw_logic.specs.TermOrder.{stands_after, insert_term, sorted_terms}
use Rattle.mw_logic.specs.NormalForm.{arranged}
use Rattle.mw_logic.specs.Module.{BuiltIn, plus, times, difference, quotient, remainder, least, greatest, less_than, at_most, more_than, at_least, result_of, bounded, number, truth, too_big}
use Rattle.mw_logic.proofs.Canonical.{Each}
use Rattle.mw_logic.proofs.CompareLaws.{compare_terms-order}
use Rattle.mw_logic.proofs.Holes.{Each-uninsert, Each-unarranged}
use Rattle.mw_logic.proofs.SortedLists.{Climbs}
use Rattle.mw_builtin.specs.Results.{IsBarren, AreBarren, HasNoPair}
use Rattle.mw_builtin.specs.Places.{is_number}

-- each two neighbours give nothing
abbrev pub Quiet : Signature → BuiltIn → Bool → RawTerms → Type 0
Quiet sig b c nil = ⊤
Quiet sig b c (cons t nil) = ⊤
Quiet sig b c (cons t (cons u us)) = AreBarren sig b c t u × Quiet sig b c (cons u us)

-- a number is something
number_not_barren : {X : Type 0} (sig : Signature) (n : ℕ) → IsBarren sig (number n) → X
number_not_barren sig n h = absurd (h.no_term (numeral n) refl)

bounded_not_barren : {X : Type 0} (sig : Signature) (n : ℕ) → IsBarren sig (bounded n) → X
bounded_not_barren sig n h = by_test (nat_lt n (2 ^ 128)) h
  where
    by_test : {X : Type 0} (b : Bool) → IsBarren sig (cond b (number n) too_big) → X
    by_test true k = number_not_barren sig n k
    by_test false k = absurd (k.not_big refl)

-- both orders give nothing
abbrev BothBarren : Signature → BuiltIn → ℕ → ℕ → Type 0
BothBarren sig b m n = IsBarren sig (result_of b m n) × IsBarren sig (result_of b n m)

-- a result that depends on the order of two numbers alone
module _ (sig : Signature) (b : BuiltIn) (alike : (m n p q : ℕ) → m < n → p < q → (result_of b m n ≡ result_of b p q) × (result_of b n m ≡ result_of b q p)) where
  compared : (x y z : ℕ) → x ≤ y → y ≤ z → BothBarren sig b x y → BothBarren sig b y z → BothBarren sig b x z
  compared x y z h k p q = by_case (cases_eq x y)
    where
      less : x < y → (y ≡ z) ⊎ (y ≡ z → ⊥) → BothBarren sig b x z
      less l (inl e) = subst (BothBarren sig b x) e p
      less l (inr d) = let a = alike x y x z l (omega (arith, h, k)) in (subst (IsBarren sig) a.0 p.0, subst (IsBarren sig) a.1 p.1)

      by_case : (x ≡ y) ⊎ (x ≡ y → ⊥) → BothBarren sig b x z
      by_case (inl e) = subst (λ n. BothBarren sig b n z) (sym e) q
      by_case (inr d) = less (omega (arith, d, h)) (cases_eq y z)

le-leb : (m n : ℕ) → m ≤ n → nat_le m n ≡ true
le-leb m n h = grind (arith, h)

lt-leb : (m n : ℕ) → m < n → nat_le n m ≡ false
lt-leb m n h = grind (arith, h)

-- what lies between two numbers that give something gives something with one of them
between : (sig : Signature) (b : BuiltIn) (x y z : ℕ) → x ≤ y → y ≤ z → BothBarren sig b x y → BothBarren sig b y z → BothBarren sig b x z
between sig plus x y z h k p q = bounded_not_barren sig (x + y) p.0
between sig times x y z h k p q = bounded_not_barren sig (x * y) p.0
between sig difference x y z h k p q = number_not_barren sig _ p.0
between sig least x y z h k p q = number_not_barren sig _ p.0
between sig greatest x y z h k p q = number_not_barren sig _ p.0
between sig quotient x y zero h k p q = let e : y ≡ 0 = omega (arith, k) in subst (BothBarren sig quotient x) e p
between sig quotient x y (suc z) h k p q = number_not_barren sig _ q.0
between sig remainder x y zero h k p q = let e : y ≡ 0 = omega (arith, k) in subst (BothBarren sig remainder x) e p
between sig remainder x y (suc z) h k p q = number_not_barren sig _ q.0
between sig less_than x y z h k p q = compared sig less_than (λ m n o r a b. (ap truth (lt-ltb m n a ∙ sym (lt-ltb o r b)), ap truth (le-ltb n m (omega (arith, a)) ∙ sym (le-ltb r o (omega (arith, b)))))) x y z h k p q
between sig more_than x y z h k p q = compared sig more_than (λ m n o r a b. (ap truth (le-ltb n m (omega (arith, a)) ∙ sym (le-ltb r o (omega (arith, b)))), ap truth (lt-ltb m n a ∙ sym (lt-ltb o r b)))) x y z h k p q
between sig at_most x y z h k p q = compared sig at_most (λ m n o r a b. (ap truth (le-leb m n (omega (arith, a)) ∙ sym (le-leb o r (omega (arith, b)))), ap truth (lt-leb m n a ∙ sym (lt-leb o r b)))) x y z h k p q
between sig at_least x y z h k p q = compared sig at_least (λ m n o r a b. (ap truth (lt-leb m n a ∙ sym (lt-leb o r b)), ap truth (le-leb m n (omega (arith, a)) ∙ sym (le-leb o r (omega (arith, b)))))) x y z h k p q

-- numerals stand by value, and before all others
numerals_ordered : (m n : ℕ) → stands_after (numeral m) (numeral n) ≡ false → m ≤ n
unfolding stands_after
numerals_ordered m n h = by_case (cases_lt n m)
  where
    greater : n < m → is_gt (nat_cmp m n) ≡ true
    greater l = grind (arith, l)

    by_case : (n < m) ⊎ (m ≤ n) → m ≤ n
    by_case (inl l) = absurd (both_ways _ (ap is_gt (sym (compare_terms-order (numeral m) (numeral n))) ∙ h) (greater l))
    by_case (inr l) = l

others_after : (u : RawTerm) (n : ℕ) → is_number u ≡ false → stands_after u (numeral n) ≡ true
unfolding stands_after
others_after (numeral m) n h = absurd (both_ways _ h refl)
others_after (quoted q) n h = ap is_gt (compare_terms-order (quoted q) (numeral n))
others_after (variable x) n h = ap is_gt (compare_terms-order (variable x) (numeral n))
others_after (apply f ts) n h = ap is_gt (compare_terms-order (apply f ts) (numeral n))

-- what is no numeral gives nothing
pub others_barren : (sig : Signature) (b : BuiltIn) (c : Bool) (t u : RawTerm) → is_number t ≡ false → AreBarren sig b c t u
others_barren sig b c (numeral m) u h = absurd (both_ways _ h refl)
others_barren sig b c (quoted q) u h = λ m n e k. cc
others_barren sig b c (variable x) u h = λ m n e k. cc
others_barren sig b c (apply f ts) u h = λ m n e k. cc

module _ (sig : Signature) (b : BuiltIn) where
  abbrev Apart : RawTerm → RawTerm → Type 0
  Apart = AreBarren sig b true

  abbrev AllApart : RawTerms → Type 0
  AllApart nil = ⊤
  AllApart (cons t ts) = Each (Apart t) ts × AllApart ts

  apart_turned : (t u : RawTerm) → Apart t u → Apart u t
  apart_turned t u h m n e k = let p = h n m k e in (p.1 refl, λ _. p.0)

  apart_between : (t u v : RawTerm) → stands_after t u ≡ false → stands_after u v ≡ false → Apart t u → Apart u v → Apart t v
  apart_between t (numeral k) v h i p q m n e f =
      let x : m ≤ k = numerals_ordered m k (subst (λ (t : RawTerm). stands_after t (numeral k) ≡ false) e h) in
      let y : k ≤ n = numerals_ordered k n (subst (λ (v : RawTerm). stands_after (numeral k) v ≡ false) f i) in
      let a = p m k e refl in
      let c = q k n refl f in
      let r = between sig b m k n x y (a.0, a.1 refl) (c.0, c.1 refl) in
      (r.0, λ _. r.1)
  apart_between t (quoted s) v h i p q m n e f = absurd (both_ways _ i (subst (λ (v : RawTerm). stands_after (quoted s) v ≡ true) (sym f) (others_after (quoted s) n refl)))
  apart_between t (variable x) v h i p q m n e f = absurd (both_ways _ i (subst (λ (v : RawTerm). stands_after (variable x) v ≡ true) (sym f) (others_after (variable x) n refl)))
  apart_between t (apply g us) v h i p q m n e f = absurd (both_ways _ i (subst (λ (v : RawTerm). stands_after (apply g us) v ≡ true) (sym f) (others_after (apply g us) n refl)))

  passed_on : (t u : RawTerm) (us : RawTerms) → stands_after t u ≡ false → Apart t u → Each (λ v. stands_after u v ≡ false) us → Each (Apart u) us → Each (Apart t) us
  passed_on t u nil h p k a = tt
  passed_on t u (cons v vs) h p k a = (apart_between t u v h k.0 p a.0, passed_on t u vs h p k.1 a.1)

  -- in a list in order where no neighbours give anything no two terms do
  quiet_all : (ts : RawTerms) → Climbs ts → Quiet sig b true ts → AllApart ts
  quiet_all nil h q = tt
  quiet_all (cons t nil) h q = (tt, tt)
  quiet_all (cons t (cons u us)) h q = let a = quiet_all (cons u us) h.1 q.1 in ((q.0, passed_on t u us h.0.0 q.0 h.1.0 a.0), a)

  all_uninserted : (t : RawTerm) (us : RawTerms) → AllApart (insert_term t us) → Each (Apart t) us × AllApart us
  all_uninserted t nil h = h
  all_uninserted t (cons u us) h = by_test (stands_after t u) (all_uninserted t us) h
    where
      by_test : (c : Bool) → (AllApart (insert_term t us) → Each (Apart t) us × AllApart us) → AllApart (cond c (cons u (insert_term t us)) (cons t (cons u us))) → Each (Apart t) (cons u us) × AllApart (cons u us)
      by_test true more h =
          let r = more h.1 in
          let s = Each-uninsert (Apart u) t us h.0 in
          ((apart_turned u t s.0, r.0), (s.1, r.1))
      by_test false more h = (h.0, h.1)

  all_unsorted : (ts : RawTerms) → AllApart (sorted_terms ts) → AllApart ts
  all_unsorted nil h = tt
  all_unsorted (cons t ts) h = let r = all_uninserted t (sorted_terms ts) h in (Each-unarranged (Apart t) true ts r.0, all_unsorted ts r.1)

  all_behind : (ts us : RawTerms) → AllApart (join ts us) → AllApart us
  all_behind nil us h = h
  all_behind (cons t ts) us h = all_behind ts us h.1

  quiet_behind : (c : Bool) (ts us : RawTerms) → Quiet sig b c (join ts us) → Quiet sig b c us
  quiet_behind c nil us h = h
  quiet_behind c (cons t nil) nil h = tt
  quiet_behind c (cons t nil) (cons u us) h = h.1
  quiet_behind c (cons t (cons v ts)) us h = quiet_behind c (cons v ts) us h.1

  -- so no pair that stands among the arguments does
  pub no_pair : (c : Bool) (ts : RawTerms) → (c ≡ true → Climbs ts) → Quiet sig b c ts → HasNoPair sig b c ts
  no_pair false ts k q m n cut = let r = quiet_behind false cut.before _ (subst (Quiet sig b false) (sym cut.whole) q) in (r.0 m n refl refl).0
  no_pair true ts k q m n cut =
      let all : AllApart (join cut.before (join (arranged true (cons (numeral m) (cons (numeral n) nil))) cut.after)) = all_unsorted _ (subst AllApart (sym cut.whole) (quiet_all ts (k refl) q)) in
      by_test (stands_after (numeral m) (numeral n)) (all_behind cut.before _ all)
    where
      by_test : (s : Bool) → AllApart (join (cond s (cons (numeral n) (cons (numeral m) nil)) (cons (numeral m) (cons (numeral n) nil))) cut.after) → IsBarren sig (result_of b m n)
      by_test true h = (h.0.0 n m refl refl).1 refl
      by_test false h = (h.0.0 m n refl refl).0

  -- behind a term that is no numeral there is none in a list in order
  others_behind : (u v : RawTerm) → is_number u ≡ false → stands_after u v ≡ false → is_number v ≡ false
  others_behind u (numeral n) h k = absurd (both_ways _ k (others_after u n h))
  others_behind u (quoted q) h k = refl
  others_behind u (variable x) h k = refl
  others_behind u (apply f ts) h k = refl

  pub quiet_past : (c : Bool) (t : RawTerm) (ts : RawTerms) → is_number t ≡ false → Climbs (cons t ts) → Quiet sig b c (cons t ts)
  quiet_past c t nil h k = tt
  quiet_past c t (cons u us) h k = (others_barren sig b c t u h, quiet_past c u us (others_behind t u h k.0.0) k.1)

-- two neighbours in a list, from the first on
pub two_behind : (xs : List RawTerm) (i : ℕ) (x y : RawTerm) → 1 ≤ i → i < length xs → x ≡ get_or xs (i - 1) x → y ≡ get_or xs i y → drop (i - 1) xs ≡ x ∷ y ∷ drop (i + 1) xs
two_behind xs i x y h k e f =
    let next : i - 1 + 1 ≡ i = omega (arith, h) in
    let behind : drop i xs ≡ y ∷ drop (i + 1) xs = drop_more xs i y k ∙ ap (λ z. z ∷ drop (i + 1) xs) (sym f) in
    drop_more xs (i - 1) x (omega (arith, h, k)) ∙ ap (λ z. z ∷ drop (i - 1 + 1) xs) (sym e) ∙ ap (λ j. x ∷ drop j xs) next ∙ ap (λ zs. x ∷ zs) behind

short_quiet : (sig : Signature) (b : BuiltIn) (c : Bool) (xs : List RawTerm) → length xs ≤ 1 → Quiet sig b c (terms_of xs)
short_quiet sig b c [] h = tt
short_quiet sig b c (x ∷ []) h = tt
short_quiet sig b c (x ∷ y ∷ xs) h = absurd (omega arith)

-- one step on, at the end, and where no numeral follows
pub quiet_step : (sig : Signature) (b : BuiltIn) (c : Bool) (xs : List RawTerm) (i : ℕ) (x y : RawTerm) → 1 ≤ i → i < length xs → x ≡ get_or xs (i - 1) x → y ≡ get_or xs i y → AreBarren sig b c x y
    → Quiet sig b c (terms_of (drop (i + 1 - 1) xs)) → Quiet sig b c (terms_of (drop (i - 1) xs))
quiet_step sig b c xs i x y h k e f a q =
    let same : i + 1 - 1 ≡ i = omega arith in
    let behind : drop i xs ≡ y ∷ drop (i + 1) xs = drop_more xs i y k ∙ ap (λ z. z ∷ drop (i + 1) xs) (sym f) in
    subst (λ zs. Quiet sig b c (terms_of zs)) (sym (two_behind xs i x y h k e f)) (a, subst (λ zs. Quiet sig b c (terms_of zs)) (ap (λ j. drop j xs) same ∙ behind) q)

pub quiet_end : (sig : Signature) (b : BuiltIn) (c : Bool) (xs : List RawTerm) (i : ℕ) → length xs ≤ i → Quiet sig b c (terms_of (drop (i - 1) xs))
quiet_end sig b c xs i h = short_quiet sig b c (drop (i - 1) xs) (let l : length (drop (i - 1) xs) ≡ length xs - (i - 1) = length-drop (i - 1) xs in omega (arith, l, h))

climbs_behind : (i : ℕ) (xs : List RawTerm) → Climbs (terms_of xs) → Climbs (terms_of (drop i xs))
climbs_behind zero xs h = h
climbs_behind (suc i) [] h = h
climbs_behind (suc i) (x ∷ xs) h = climbs_behind i xs h.1

pub quiet_rest : (sig : Signature) (b : BuiltIn) (c : Bool) (xs : List RawTerm) (i : ℕ) (x y : RawTerm) → 1 ≤ i → i < length xs → x ≡ get_or xs (i - 1) x → y ≡ get_or xs i y → AreBarren sig b c x y
    → is_number y ≡ false → Climbs (terms_of xs) → Quiet sig b c (terms_of (drop (i - 1) xs))
quiet_rest sig b c xs i x y h k e f a n up =
    let there : drop (i - 1) xs ≡ x ∷ y ∷ drop (i + 1) xs = two_behind xs i x y h k e f in
    let climb : Climbs (terms_of (x ∷ y ∷ drop (i + 1) xs)) = subst (λ zs. Climbs (terms_of zs)) there (climbs_behind (i - 1) xs up) in
    subst (λ zs. Quiet sig b c (terms_of zs)) (sym there) (a, quiet_past sig b c y (terms_of (drop (i + 1) xs)) n climb.1)
