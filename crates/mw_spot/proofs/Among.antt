-- Terms that come among a level's arguments together, and their numbers there.
use Rattle.std.specs.Prelude.{◌≡◌, ◌+◌, ◌-◌, ◌≤◌, ℕ, zero, suc, List, [], ◌∷◌, length, map, Bool, true, false, Some, option_map, unwrap_or, slice_get, refl}
use Rattle.std.proofs.Common.{ap, sym, subst, ◌∙◌, arith}
use Rattle.mw_logic.specs.Term.{RawTerm, RawTerms, nil, cons, join}
use Rattle.mw_logic.specs.Terms.{list_of}
use Rattle.mw_logic.specs.Signature.{Signature}
use Rattle.mw_logic.specs.Parts.{number_of_terms}
use Rattle.mw_logic.specs.TermOrder.{sorted_terms}
use Rattle.mw_logic.specs.NormalForm.{is_comm, arranged}
use Rattle.mw_logic.proofs.SortLaws.{sorted_terms-comm}
use Rattle.mw_logic.proofs.SortedLists.{Climbs, climbs}
use Rattle.mw_arguments.specs.Places.{chosen, Rise, Follow}
use Rattle.mw_arguments.proofs.Middles.{Divided, first_there, middle_found, in_front}
use Rattle.mw_redex.proofs.Middles.{count_from, count_chosen, count_follows, count_rises, rise_lower, number-join}
use Rattle.mw_deduction.specs.Standing.{Open}
use Rattle.mw_spot.specs.Walks.{IsOrderly}
use Rattle.mw_spot.specs.Spots.{below, place, numbers, number_of}
use Rattle.mw_spot.proofs.Picked.{chosen_behind, picked, picked_rise, picked_chosen, at_from, picked_each}
use Rattle.mw_spot.proofs.Merged.{number-sorted, merged, AreBeyond, merged_rise, merged_chosen}

-- so many numbers as terms
pub numbers_length : (at : RawTerm → ℕ) (i : ℕ) (es : RawTerms) → length (numbers at i es) ≡ number_of_terms es
numbers_length at i nil = refl
numbers_length at i (cons e es) = ap suc (numbers_length at (suc i) es)

none_beyond : (ds es : RawTerms) → AreBeyond 0 ds es
none_beyond ds nil = tt
none_beyond ds (cons e es) = (omega arith, none_beyond ds es)

module _ (sig : Signature) (o : Open) where
  -- all arguments, where these terms are among them
  abbrev pub with_all : RawTerms → RawTerms
  with_all es = arranged (is_comm sig o.operator) (join o.before (join es o.after))

  numbers_merged : is_comm sig o.operator ≡ true → (i : ℕ) (es : RawTerms) → numbers (place sig o) i es ≡ merged (join o.before o.after) i es
  numbers_merged h i nil = refl
  numbers_merged h i (cons e es) = rw h (ap (λ ns. (below e (join o.before o.after) + i) ∷ ns) (numbers_merged h (suc i) es))

  numbers_counted : is_comm sig o.operator ≡ false → (i : ℕ) (es : RawTerms) → numbers (place sig o) i es ≡ count_from (number_of_terms o.before + i) es
  numbers_counted h i nil = refl
  numbers_counted h i (cons e es) =
      let z : number_of_terms o.before + suc i ≡ suc (number_of_terms o.before + i) = omega arith in
      rw h (ap (λ ns. (number_of_terms o.before + i) ∷ ns) (numbers_counted h (suc i) es ∙ ap (λ j. count_from j es) z))

  pub number_all : (es : RawTerms) → number_of_terms (with_all es) ≡ number_of_terms o.before + (number_of_terms es + number_of_terms o.after)
  number_all es = by_comm (is_comm sig o.operator) ∙ plain
    where
      plain : number_of_terms (join o.before (join es o.after)) ≡ number_of_terms o.before + (number_of_terms es + number_of_terms o.after)
      plain = let p = number-join o.before (join es o.after) in let q = number-join es o.after in omega (arith, p, q)

      by_comm : (c : Bool) → number_of_terms (arranged c (join o.before (join es o.after))) ≡ number_of_terms (join o.before (join es o.after))
      by_comm true = number-sorted (join o.before (join es o.after))
      by_comm false = refl

  number_beside : number_of_terms (join o.before o.after) ≡ number_of_terms o.before + number_of_terms o.after
  number_beside = number-join o.before o.after

  module _ (orderly : IsOrderly sig o) (es : RawTerms) (ordered : is_comm sig o.operator ≡ true → Climbs es) where
    abbrev pub Rising : List ℕ → Type 0
    Rising ks = Rise 1 (suc (number_of_terms (with_all es))) ks

    -- the numbers rise, and choose the terms
    pub all_rise : Rising (numbers (place sig o) 1 es)
    all_rise = by_comm (is_comm sig o.operator) refl
      where
        by_comm : (c : Bool) → is_comm sig o.operator ≡ c → Rising (numbers (place sig o) 1 es)
        by_comm true h =
            let n = number_all es in
            let m = number_beside in
            subst Rising (sym (numbers_merged h 1 es))
            (merged_rise 0 1 (suc (number_of_terms (with_all es))) (join o.before o.after) es (ordered h) (none_beyond (join o.before o.after) es) (omega (arith, n, m)))
        by_comm false h =
            let n = number_all es in
            let b : ℕ = number_of_terms o.before in
            subst Rising (sym (numbers_counted h 1 es))
            (rise_lower 1 (b + 1) (suc (number_of_terms (with_all es))) (count_from (b + 1) es) (omega arith) (count_rises (b + 1) (suc (number_of_terms (with_all es))) es (omega (arith, n))))

    pub all_chosen : chosen 1 (numbers (place sig o) 1 es) (with_all es) ≡ es
    all_chosen = by_comm (is_comm sig o.operator) refl
      where
        by_comm : (c : Bool) → is_comm sig o.operator ≡ c → chosen 1 (numbers (place sig o) 1 es) (with_all es) ≡ es
        by_comm true h =
            let ds : RawTerms = join o.before o.after in
            let d : Climbs ds = climbs ds (subst (λ c. arranged c ds ≡ ds) h orderly) in
            let w : with_all es ≡ sorted_terms (join ds es) = ap (λ c. arranged c (join o.before (join es o.after))) h ∙ in_front o.before es o.after ∙ sorted_terms-comm es ds in
            ap (chosen 1 (numbers (place sig o) 1 es)) w ∙ ap (λ ks. chosen 1 ks (sorted_terms (join ds es))) (numbers_merged h 1 es) ∙ merged_chosen 0 1 ds es d (ordered h) (none_beyond ds es)
        by_comm false h =
            let b : ℕ = number_of_terms o.before in
            let z : b + 1 ≡ 1 + b = omega arith in
            let n = number-join es o.after in
            let ks : List ℕ = count_from (1 + b) es in
            ap (λ c. chosen 1 (numbers (place sig o) 1 es) (arranged c (join o.before (join es o.after)))) h
            ∙ ap (λ ks. chosen 1 ks (join o.before (join es o.after))) (numbers_counted h 1 es ∙ ap (λ j. count_from j es) z)
            ∙ chosen_behind 1 (1 + b + number_of_terms es) ks o.before (join es o.after) (count_rises (1 + b) (1 + b + number_of_terms es) es (omega arith))
            ∙ count_chosen (1 + b) es o.after

  -- the numbers one by one
  numbers_at : (i m : ℕ) (es : RawTerms) → slice_get (numbers (place sig o) i es) m ≡ option_map (λ e. place sig o e + (m + i)) (slice_get (list_of es) m)
  numbers_at i m nil = refl
  numbers_at i zero (cons e es) = let z : place sig o e + i ≡ place sig o e + (0 + i) = omega arith in ap Some z
  numbers_at i (suc m) (cons e es) = let z : m + suc i ≡ suc m + i = omega arith in numbers_at (suc i) m es ∙ ap (λ n. option_map (λ e. place sig o e + n) (slice_get (list_of es) m)) z

  one_by_one : (es : RawTerms) (j m : ℕ) (ks : List ℕ) → 1 ≤ j → Rise j m ks → map (number_of (place sig o) es) ks ≡ map (at_from 1 (numbers (place sig o) 1 es)) ks
  one_by_one es j m [] l h = refl
  one_by_one es j m (zero ∷ ks) l h = let k = h.0 in absurd (omega (arith, l, k))
  one_by_one es j m (suc k ∷ ks) l h =
      let z : k + 1 ≡ suc k = omega arith in
      let y : suc k - 1 ≡ k = omega arith in
      let one : number_of (place sig o) es (suc k) ≡ at_from 1 (numbers (place sig o) 1 es) (suc k) =
      ap (λ n. unwrap_or (option_map (λ e. place sig o e + n) (slice_get (list_of es) k)) (suc k)) (sym z) ∙ ap (λ x. unwrap_or x (suc k)) (sym (numbers_at 1 k es)) ∙ ap (λ i. unwrap_or (slice_get (numbers (place sig o) 1 es) i) (suc k)) (sym y) in
      ap (λ x. x ∷ map (number_of (place sig o) es) ks) one ∙ ap (λ xs. at_from 1 (numbers (place sig o) 1 es) (suc k) ∷ xs) (one_by_one es (suc (suc k)) m ks (omega arith) h.2)

  -- those of some of the terms
  pub some_picked : (es : RawTerms) (ks : List ℕ) → Rise 1 (suc (number_of_terms es)) ks → map (number_of (place sig o) es) ks ≡ picked 1 ks (numbers (place sig o) 1 es)
  some_picked es ks h =
      let n = numbers_length (place sig o) 1 es in
      one_by_one es 1 (suc (number_of_terms es)) ks (omega arith) h ∙ picked_each 1 (suc (number_of_terms es)) ks (numbers (place sig o) 1 es) (omega (arith, n)) h

  module _ (orderly : IsOrderly sig o) (es : RawTerms) (ordered : is_comm sig o.operator ≡ true → Climbs es) (ks : List ℕ) (rise : Rise 1 (suc (number_of_terms es)) ks) where
    pub some_rise : Rise 1 (suc (number_of_terms (with_all es))) (map (number_of (place sig o) es) ks)
    some_rise =
        let m : ℕ = suc (number_of_terms (with_all es)) in
        subst (Rise 1 m) (sym (some_picked es ks rise)) (picked_rise 1 m 1 ks (numbers (place sig o) 1 es) (all_rise orderly es ordered))

    pub some_chosen : chosen 1 (map (number_of (place sig o) es) ks) (with_all es) ≡ chosen 1 ks es
    some_chosen =
        let m : ℕ = suc (number_of_terms (with_all es)) in
        ap (λ ns. chosen 1 ns (with_all es)) (some_picked es ks rise) ∙ picked_chosen 1 m 1 ks (numbers (place sig o) 1 es) (with_all es) (all_rise orderly es ordered) ∙ ap (chosen 1 ks) (all_chosen orderly es ordered)

  -- where the arguments keep their order
  module _ (plain : is_comm sig o.operator ≡ false) where
    pub all_follow : (es : RawTerms) → Follow (numbers (place sig o) 1 es)
    all_follow es = subst Follow (sym (numbers_counted plain 1 es)) (counted (number_of_terms o.before + 1) es)
      where
        counted : (i : ℕ) (es : RawTerms) → Follow (count_from i es)
        counted i nil = tt
        counted i (cons e es) = count_follows i es

    pub number_plain : (es : RawTerms) (k : ℕ) (ks : List ℕ) → Rise 1 (suc (number_of_terms es)) (k ∷ ks) → number_of (place sig o) es k ≡ number_of_terms o.before + k
    number_plain es k ks h = by_place (first_there k ks es h)
      where
        by_place : (i : ℕ) × (k ≡ suc i) × (t : RawTerm) × Divided es i t → number_of (place sig o) es k ≡ number_of_terms o.before + k
        by_place (i, e, t, d) =
            let g : slice_get (list_of es) i ≡ Some t = ap (λ ts. slice_get (list_of ts) i) d.whole ∙ ap (slice_get (list_of (join d.before (cons t d.after)))) (sym d.size) ∙ middle_found d.before t d.after in
            let p : number_of (place sig o) es (suc i) ≡ place sig o t + suc i = ap (λ x. unwrap_or (option_map (λ e. place sig o e + suc i) x) (suc i)) g in
            let q : place sig o t ≡ number_of_terms o.before = rw plain refl in
            ap (number_of (place sig o) es) e ∙ p ∙ ap (λ n. n + suc i) q ∙ ap (λ j. number_of_terms o.before + j) (sym e)

    pub some_follow : (es : RawTerms) (i : ℕ) (ks : List ℕ) → 1 ≤ i → Rise i (suc (number_of_terms es)) ks → Follow ks → Follow (map (number_of (place sig o) es) ks)
    some_follow es i [] l h f = tt
    some_follow es i (k ∷ []) l h f = tt
    some_follow es i (k ∷ m ∷ ks) l h f =
        let a = h.0 in
        let n : ℕ = suc (number_of_terms es) in
        let p = number_plain es k [] (omega (arith, l, a), h.1, tt) in
        let b = h.2.0 in
        let q = number_plain es m [] (omega (arith, b), h.2.1, tt) in
        let s = f.0 in
        (omega (arith, p, q, s), some_follow es (suc k) (m ∷ ks) (omega arith) h.2 f.1)
