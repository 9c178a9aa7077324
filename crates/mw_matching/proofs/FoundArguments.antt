-- Under an operator that is not associative the arguments are met one by one: in each order, behind `s_`, or as they
-- stand. These are the operator's splits.
use Rattle.std.specs.Prelude.{◌≡◌, ℕ, zero, suc, ◌-◌, ◌^◌, List, [], ◌∷◌, flat_map, length, Bool, true, false, ◌&&◌, cond, nat_eq, nat_lt, refl}
use Rattle.std.proofs.Common.{ap, sym, subst, ◌∙◌, arith, append-nil}
use Rattle.std.proofs.lemmas.Bool.{eqb-false, lt-ltb}
use Rattle.mw_logic.specs.Term.{RawTerm, numeral, quoted, variable, apply, RawTerms, nil, cons}
use Rattle.mw_logic.specs.Terms.{args_of}
use Rattle.mw_logic.specs.Signature.{Signature}
use Rattle.mw_logic.specs.Accepted.{IsAccepted}
use Rattle.mw_logic.specs.Kinds.{is_successor}
use Rattle.mw_logic.specs.Parts.{is_assoc, number_of_terms}
use Rattle.mw_logic.specs.NormalForm.{is_comm, applied_in}
use Rattle.mw_logic.proofs.Canonical.{IsCanonical, AreCanonical}
use Rattle.mw_split.specs.Lists.{AllOnce}
use Rattle.mw_position.specs.Positions.{IsNumbered, AreNumbered}
use Rattle.mw_position.proofs.Counting.{all_within_counted}
use Rattle.mw_position.proofs.Begins.{begins_same, begins_whole, begins_unique}
use Rattle.mw_arguments.specs.Arguments.{Gives, HasArity}
use Rattle.mw_arguments.specs.Bags.{same}
use Rattle.mw_arguments.specs.Splits.{orders, exchanges, own, splits_of}
use Rattle.mw_arguments.proofs.Once.{once_flat_mapped, once_same, once_one, once_none}
use Rattle.mw_arguments.proofs.Splits.{exact}
use Rattle.mw_matching.specs.Matches.{Theory, evaluated_all, Fits, IsMatch, AreMatches}
use Rattle.mw_matching.specs.Patterns.{theory}
use Rattle.mw_matching.specs.Found.{Values, has_top, has_before, before, fits, is_single, found, found_all, found_orders}
use Rattle.mw_matching.proofs.Matches.{row_match, row_match_parts, all_evaluated_canonical, number_evaluated, fits_longer, no_more}

-- of nothing comes nothing
flat_map-none : {A B : Type 0} (f : A → List B) (xs : List A) → ((x : A) → f x ≡ []) → flat_map f xs ≡ []
flat_map-none f [] h = refl
flat_map-none f (x ∷ xs) h = rw (h x, flat_map-none f xs h) refl

module _ (sig : Signature) (ok : IsAccepted sig) (single : List (List ℕ)) where
  abbrev pub T : Theory
  T = theory sig (fits sig single) (is_single single)

  -- each pattern's matches are known
  abbrev pub IsKnown : RawTerm → Type 0
  IsKnown q = (t : RawTerm) (vs : Values) → IsNumbered (length vs) q → Fits sig T 0 vs → IsCanonical sig t → AllOnce (IsMatch sig T q t vs) (found sig single q t vs)

  abbrev pub AreKnown : RawTerms → Type 0
  AreKnown nil = Unit {0}
  AreKnown (cons q qs) = IsKnown q × AreKnown qs

  -- as many terms as patterns, one by one
  all_once : (ps ts : RawTerms) (vs : Values) → AreKnown ps → AreNumbered (length vs) ps → Fits sig T 0 vs → AreCanonical sig ts → AllOnce (AreMatches sig T ps ts vs) (found_all sig single ps ts vs)
  all_once nil nil vs a h g k = once_one (AreMatches sig T nil nil vs) vs (record { begins = begins_same vs; size = refl; gives = refl; fits = no_more sig ok T vs }) (λ us m. sym (begins_whole vs us m.begins m.size))
  all_once nil (cons t ts) vs a h g k = once_none (AreMatches sig T nil (cons t ts) vs) (λ us m. (let e = m.gives in cc))
  all_once (cons q qs) nil vs a h g k = once_none (AreMatches sig T (cons q qs) nil vs) (λ us m. (let e = m.gives in cc))
  all_once (cons q qs) (cons t ts) vs a h g k =
      once_same (λ ws. (us : List RawTerm) × IsMatch sig T q t vs us × AreMatches sig T qs ts us ws) (AreMatches sig T (cons q qs) (cons t ts) vs) (found_all sig single (cons q qs) (cons t ts) vs)
      (row_match sig ok T q qs t ts vs) (row_match_parts sig ok T q qs t ts vs)
      (once_flat_mapped (IsMatch sig T q t vs) (λ us ws. AreMatches sig T qs ts us ws) (λ us. found_all sig single qs ts us) (found sig single q t vs) (a.0 t vs h.0 g k.0)
      (λ us m. all_once qs ts us a.1 (subst (λ n. AreNumbered n qs) (sym m.size) h.1) (fits_longer sig ok T vs us g m.begins m.fits) k.1)
      (λ ws x y m n b d. begins_unique x y ws (m.size ∙ sym n.size) b.begins d.begins))

  -- fewer or more of them have no match
  none_of_other_number : (qs ts : RawTerms) (vs : Values) → (number_of_terms ts ≡ number_of_terms qs → ⊥) → found_all sig single qs ts vs ≡ []
  none_of_other_number nil nil vs n = absurd (n refl)
  none_of_other_number nil (cons t ts) vs n = refl
  none_of_other_number (cons q qs) nil vs n = refl
  none_of_other_number (cons q qs) (cons t ts) vs n = flat_map-none (λ us. found_all sig single qs ts us) (found sig single q t vs) (λ us. none_of_other_number qs ts us (λ e. n (ap suc e)))

  abbrev by_lists : RawTerms → Values → List RawTerms → List Values
  by_lists qs vs tss = flat_map (λ ts. found_all sig single qs ts vs) tss

  -- two arguments in each order
  swapped : (f : ℕ) (q : RawTerm) (qs : RawTerms) (t : RawTerm) (vs : Values) → cond (has_top f t) (found_orders sig single (cons q qs) (orders (args_of t)) vs) [] ≡ by_lists (cons q qs) vs (exchanges f t)
  swapped f q qs (numeral n) vs = refl
  swapped f q qs (quoted x) vs = refl
  swapped f q qs (variable x) vs = refl
  swapped f q qs (apply g ts) vs = by_test (nat_eq f g)
    where
      in_orders : (ts : RawTerms) → found_orders sig single (cons q qs) (orders ts) vs ≡ by_lists (cons q qs) vs (orders ts)
      in_orders nil = refl
      in_orders (cons x nil) = refl
      in_orders (cons x (cons y (cons z zs))) = refl
      in_orders (cons x (cons y nil)) = by_same (same x y)
        where
          by_same : (b : Bool) → found_orders sig single (cons q qs) (cond b (cons x (cons y nil) ∷ []) (cons x (cons y nil) ∷ cons y (cons x nil) ∷ [])) vs
              ≡ by_lists (cons q qs) vs (cond b (cons x (cons y nil) ∷ []) (cons x (cons y nil) ∷ cons y (cons x nil) ∷ []))
          by_same true = refl
          by_same false = refl

      by_test : (b : Bool) → cond b (found_orders sig single (cons q qs) (orders ts) vs) [] ≡ by_lists (cons q qs) vs (cond b (orders ts) [])
      by_test true = in_orders ts
      by_test false = refl

  -- the arguments as they stand, or the number before
  stand_or_count : (s : Bool) (f : ℕ) (qs : RawTerms) (t : RawTerm) (vs : Values)
      → cond s (cond (has_before f t) (found_all sig single qs (before t) vs) []) (cond (has_top f t) (found_all sig single qs (args_of t) vs) []) ≡ by_lists qs vs (own s f (number_of_terms qs) t)
  stand_or_count true f qs (quoted x) vs = refl
  stand_or_count false f qs (quoted x) vs = refl
  stand_or_count true f qs (variable x) vs = refl
  stand_or_count false f qs (variable x) vs = refl
  stand_or_count false f qs (numeral n) vs = refl
  stand_or_count true f qs (numeral zero) vs = refl
  stand_or_count true f qs (numeral (suc n)) vs = rw (lt-ltb 0 (suc n) (omega arith)) (by_tests (nat_eq (number_of_terms qs) 1) (nat_lt (suc n) (2 ^ 128)) refl)
    where
      before_is : suc n - 1 ≡ n
      before_is = omega arith

      by_tests : (a b : Bool) → nat_eq (number_of_terms qs) 1 ≡ a → cond b (found_all sig single qs (cons (numeral (suc n - 1)) nil) vs) [] ≡ by_lists qs vs (cond (a && b) (cons (numeral n) nil ∷ []) [])
      by_tests true true e = ap (λ m. found_all sig single qs (cons (numeral m) nil) vs) before_is ∙ sym (append-nil (found_all sig single qs (cons (numeral n) nil) vs))
      by_tests true false e = refl
      by_tests false true e = none_of_other_number qs (cons (numeral (suc n - 1)) nil) vs (λ w. eqb-false (number_of_terms qs) 1 e (sym w))
      by_tests false false e = refl
  stand_or_count s f qs (apply g ts) vs = by_sort s
    where
      by_tests : (a b : Bool) → nat_eq (number_of_terms ts) (number_of_terms qs) ≡ b → cond a (found_all sig single qs ts vs) [] ≡ by_lists qs vs (cond (a && b) (ts ∷ []) [])
      by_tests true true e = sym (append-nil (found_all sig single qs ts vs))
      by_tests true false e = none_of_other_number qs ts vs (eqb-false (number_of_terms ts) (number_of_terms qs) e)
      by_tests false b e = refl

      by_sort : (s : Bool) → cond s (cond (nat_eq f g) (found_all sig single qs ts vs) []) (cond (nat_eq f g) (found_all sig single qs ts vs) [])
          ≡ by_lists qs vs (cond (nat_eq f g && nat_eq (number_of_terms ts) (number_of_terms qs)) (ts ∷ []) [])
      by_sort true = by_tests (nat_eq f g) (nat_eq (number_of_terms ts) (number_of_terms qs)) refl
      by_sort false = by_tests (nat_eq f g) (nat_eq (number_of_terms ts) (number_of_terms qs)) refl

  -- by an operator's splits
  module _ (f : ℕ) (qs : RawTerms) (t : RawTerm) (vs : Values) (a : HasArity sig f (number_of_terms qs)) (known : AreKnown qs) (n : AreNumbered (length vs) qs) (g : Fits sig T 0 vs) (k : IsCanonical sig t) where
    by_splits : AllOnce (IsMatch sig T (apply f qs) t vs) (by_lists qs vs (splits_of sig f (number_of_terms qs) t))
    by_splits =
        once_same (λ us. (ts : RawTerms) × Gives sig f (number_of_terms qs) t ts × AreMatches sig T qs ts vs us) (IsMatch sig T (apply f qs) t vs) (by_lists qs vs (splits_of sig f (number_of_terms qs) t))
        (λ us m. let (ts, r, b) = m in record { begins = b.begins; size = b.size; gives = ap (applied_in sig f) b.gives ∙ r.gives; fits = b.fits })
        (λ us m. (
          evaluated_all sig us qs,
          record {
            canonical = all_evaluated_canonical sig ok T us qs (fits_longer sig ok T vs us g m.begins m.fits) (all_within_counted (length vs) (length us) qs (let s = m.size in omega (arith, s)));
            size = number_evaluated sig ok T us qs;
            gives = m.gives;
          },
          record { begins = m.begins; size = m.size; gives = refl; fits = m.fits },
        ))
        (once_flat_mapped (Gives sig f (number_of_terms qs) t) (λ ts us. AreMatches sig T qs ts vs us) (λ ts. found_all sig single qs ts vs) (splits_of sig f (number_of_terms qs) t)
        (exact sig ok f (number_of_terms qs) a t k) (λ ts q. all_once qs ts vs known n g q.canonical) (λ us xs ys r q b d. sym b.gives ∙ d.gives))

    pub swapped_once : is_assoc sig f ≡ false → is_comm sig f ≡ true → AllOnce (IsMatch sig T (apply f qs) t vs) (cond (has_top f t) (found_orders sig single qs (orders (args_of t)) vs) [])
    swapped_once x y = by_list qs refl
      where
        splits_are : splits_of sig f (number_of_terms qs) t ≡ exchanges f t
        splits_are = rw (x, y) refl

        by_list : (ps : RawTerms) → ps ≡ qs → AllOnce (IsMatch sig T (apply f qs) t vs) (cond (has_top f t) (found_orders sig single ps (orders (args_of t)) vs) [])
        by_list nil e = let two : 0 ≡ 2 = ap number_of_terms e ∙ a.two x y in absurd (omega (arith, two))
        by_list (cons p ps) e =
            subst (AllOnce (IsMatch sig T (apply f qs) t vs)) (ap (by_lists qs vs) splits_are ∙ ap (λ qs. by_lists qs vs (exchanges f t)) (sym e) ∙ sym (swapped f p ps t vs)) by_splits

    pub plain_once : is_assoc sig f ≡ false → is_comm sig f ≡ false
        → AllOnce (IsMatch sig T (apply f qs) t vs) (cond (is_successor sig f) (cond (has_before f t) (found_all sig single qs (before t) vs) []) (cond (has_top f t) (found_all sig single qs (args_of t) vs) []))
    plain_once x y =
        subst (AllOnce (IsMatch sig T (apply f qs) t vs)) (ap (by_lists qs vs) splits_are ∙ sym (stand_or_count (is_successor sig f) f qs t vs)) by_splits
      where
        splits_are : splits_of sig f (number_of_terms qs) t ≡ own (is_successor sig f) f (number_of_terms qs) t
        splits_are = rw (x, y) refl
