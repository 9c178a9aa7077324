-- A replacement in the term in the innermost hole of several, which are of one associative operator, is one in what they are together.
use Rattle.std.specs.Prelude.{◌≡◌, ◌+◌, ◌≤◌, ℕ, zero, suc, List, [], ◌∷◌, map, Bool, true, false, Option, Some, None, option_map, option_and_then, unwrap_or, slice_get, refl}
use Rattle.std.proofs.Common.{ap, sym, subst, ◌∙◌, arith}
use Rattle.std.proofs.lemmas.Bool.{and_parts, and_from, eq-eqb}
use Rattle.mw_logic.specs.Term.{RawTerm, apply, RawTerms, nil, cons, join}
use Rattle.mw_logic.specs.Terms.{list_of, args_of}
use Rattle.mw_logic.specs.Signature.{Signature}
use Rattle.mw_logic.specs.Accepted.{IsAccepted}
use Rattle.mw_logic.specs.Parts.{is_assoc, number_of_terms}
use Rattle.mw_logic.specs.NormalForm.{is_comm}
use Rattle.mw_logic.proofs.SortLaws.{join_assoc}
use Rattle.mw_logic.proofs.SortedLists.{Climbs}
use Rattle.mw_logic.proofs.Canonical.{IsCanonical}
use Rattle.mw_logic.proofs.Soundness.{IsLong}
use Rattle.mw_arguments.specs.Places.{chosen, Rise}
use Rattle.mw_arguments.proofs.Middles.{Divided, divided, middle_found, first_there, chosen-middle}
use Rattle.mw_redex.proofs.Middles.{count_from, count_rises, number-join}
use Rattle.mw_deduction.specs.Standing.{Open, filled, IsSeenBy}
use Rattle.mw_deduction.specs.Replay.{whole}
use Rattle.mw_redex.specs.Paths.{at_path}
use Rattle.mw_redex.specs.Replaced.{IsTaken, ReplacesAt}
use Rattle.mw_spot.specs.Walks.{IsOrderly}
use Rattle.mw_spot.specs.Spots.{place, places, numbers, number_of, stands_on, is_spread, spread_path, spread_take, raised_path, raised_take, IsAnother, AreMore, StandsIn}
use Rattle.mw_spot.proofs.Among.{with_all, some_rise, some_chosen}
use Rattle.mw_spot.proofs.Filled.{stands_on_its, spread_order, filled_spread, filled_one, long_all, long_several}
use Rattle.mw_spot.proofs.Held.{stands_beyond}
use Rattle.mw_spot.proofs.Raised.{same_first, same_some, same_arguments, raises}

-- the number of a term that stands among others
number_there : (at : RawTerm → ℕ) (es : RawTerms) (k i : ℕ) (e : RawTerm) → k ≡ suc i → Divided es i e → number_of at es k ≡ at e + k
number_there at es k i e z d =
    let found : slice_get (list_of es) i ≡ Some e = ap (λ ts. slice_get (list_of ts) i) d.whole ∙ ap (slice_get (list_of (join d.before (cons e d.after)))) (sym d.size) ∙ middle_found d.before e d.after in
    ap (number_of at es) z ∙ ap (λ x. unwrap_or (option_map (λ e. at e + suc i) x) (suc i)) found ∙ ap (λ n. at e + n) (sym z)

-- all numbers are those of neighbours
all_counted : (at : RawTerm → ℕ) (es bs us : RawTerms) (i : ℕ) → es ≡ join bs us → i ≡ suc (number_of_terms bs) → numbers at i us ≡ map (number_of at es) (count_from i us)
all_counted at es bs nil i w z = refl
all_counted at es bs (cons u us) i w z =
    let d : Divided es (number_of_terms bs) u = record { before = bs; after = us; whole = w; size = refl } in
    let more : es ≡ join (join bs (cons u nil)) us = w ∙ sym (join_assoc bs (cons u nil) us) in
    let n = number-join bs (cons u nil) in
    ap (λ m. m ∷ numbers at (suc i) us) (sym (number_there at es i (number_of_terms bs) u z d))
    ∙ ap (λ ms. number_of at es i ∷ ms) (all_counted at es (join bs (cons u nil)) us (suc i) more (omega (arith, z, n)))

module _ (sig : Signature) (ok : IsAccepted sig) (o : Open) (orderly : IsOrderly sig o) (os : List Open) (es : RawTerms) (ordered : is_comm sig o.operator ≡ true → Climbs es) where
  abbrev all : RawTerms
  all = with_all sig o es

  -- the number among all, and then among those of further holes
  number_twice : (k : ℕ) → Rise 1 (suc (number_of_terms es)) (k ∷ []) → number_of (places sig os) all (number_of (place sig o) es k) ≡ number_of (places sig (o ∷ os)) es k
  number_twice k rise = by_place (first_there k [] es rise) (first_there m [] all (some_rise sig o orderly es ordered (k ∷ []) rise))
    where
      m : ℕ
      m = number_of (place sig o) es k

      by_place : (i : ℕ) × (k ≡ suc i) × (e : RawTerm) × Divided es i e → (j : ℕ) × (m ≡ suc j) × (t : RawTerm) × Divided all j t
          → number_of (places sig os) all (number_of (place sig o) es k) ≡ number_of (places sig (o ∷ os)) es k
      by_place (i, z, e, d) (j, y, t, g) =
          let s : k ≡ 1 + number_of_terms d.before = let n = d.size in omega (arith, z, n) in
          let l : m ≡ 1 + number_of_terms g.before = let n = g.size in omega (arith, y, n) in
          let one : chosen 1 (k ∷ []) es ≡ cons e nil = ap (chosen 1 (k ∷ [])) d.whole ∙ chosen-middle 1 k [] d.before e d.after s in
          let two : chosen 1 (m ∷ []) all ≡ cons t nil = ap (chosen 1 (m ∷ [])) g.whole ∙ chosen-middle 1 m [] g.before t g.after l in
          let same : t ≡ e = same_first (sym two ∙ some_chosen sig o orderly es ordered (k ∷ []) rise ∙ one) in
          let here = number_there (place sig o) es k i e z d in
          let there = number_there (places sig os) all m j t y g in
          let whole = number_there (places sig (o ∷ os)) es k i e z d in
          let p : places sig os t ≡ places sig os e = ap (places sig os) same in
          omega (arith, here, there, whole, p)

  numbers_twice : (i : ℕ) (ks : List ℕ) → 1 ≤ i → Rise i (suc (number_of_terms es)) ks → map (number_of (places sig os) all) (map (number_of (place sig o) es) ks) ≡ map (number_of (places sig (o ∷ os)) es) ks
  numbers_twice i [] l h = refl
  numbers_twice i (k ∷ ks) l h =
      let a = h.0 in
      ap (λ n. n ∷ map (number_of (places sig os) all) (map (number_of (place sig o) es) ks)) (number_twice k (omega (arith, l, a), h.1, tt))
      ∙ ap (λ ns. number_of (places sig (o ∷ os)) es k ∷ ns) (numbers_twice (suc k) ks (omega arith) h.2)

  all_twice : map (number_of (places sig os) all) (numbers (place sig o) 1 es) ≡ numbers (places sig (o ∷ os)) 1 es
  all_twice =
      ap (map (number_of (places sig os) all)) (all_counted (place sig o) es nil es 1 refl refl)
      ∙ numbers_twice 1 (count_from 1 es) (omega arith) (count_rises 1 (suc (number_of_terms es)) es (omega arith)) ∙ sym (all_counted (places sig (o ∷ os)) es nil es 1 refl refl)

  -- so with a place in what the terms are together
  path_twice : (f : ℕ) (u : RawTerm) (path : List ℕ) → at_path (apply f es) path ≡ Some u → spread_path (places sig os) all (spread_path (place sig o) es path) ≡ spread_path (places sig (o ∷ os)) es path
  path_twice f u [] there = refl
  path_twice f u (zero ∷ path) there = cc
  path_twice f u (suc i ∷ path) there = by_option (slice_get (list_of es) i) refl there
    where
      by_option : (s : Option RawTerm) → slice_get (list_of es) i ≡ s → option_and_then (λ t. at_path t path) s ≡ Some u
          → spread_path (places sig os) all (spread_path (place sig o) es (suc i ∷ path)) ≡ spread_path (places sig (o ∷ os)) es (suc i ∷ path)
      by_option None e p = cc
      by_option (Some t) e p =
          let d : Divided es i t = divided es i t e in
          let n = ap number_of_terms d.whole ∙ number-join d.before (cons t d.after) in
          let s = d.size in
          ap (λ n. n ∷ path) (number_twice (suc i) (omega arith, omega (arith, n, s), tt))

  take_twice : (f : ℕ) (u w : RawTerm) (path : List ℕ) (take : Option (List ℕ)) → at_path (apply f es) path ≡ Some u → IsTaken sig take u w
      → spread_take (places sig os) all (spread_path (place sig o) es path) (spread_take (place sig o) es path take) ≡ spread_take (places sig (o ∷ os)) es path take
  take_twice f u w [] None there taken = ap Some all_twice
  take_twice f u w [] (Some ks) there taken =
      let same : taken.args ≡ es = sym (same_arguments (same_some there ∙ taken.term)) in
      ap Some (numbers_twice 1 ks (omega arith) (subst (λ ts. Rise 1 (suc (number_of_terms ts)) ks) same taken.rise))
  take_twice f u w (j ∷ path) take there taken = refl

-- what the operator is comes to the next of the same as its arguments
pub spread_in_next : (sig : Signature) (o p : Open) → IsAnother sig o.operator p → (t : RawTerm) (ts : RawTerms) → t ≡ apply o.operator ts → IsLong ts → is_spread sig p t ≡ true
spread_in_next sig o p more t nil e l = absurd l
spread_in_next sig o p more t (cons u us) e l =
    and_from (is_assoc sig p.operator) (stands_on p.operator t) (ap (is_assoc sig) more.1 ∙ more.0) (ap (stands_on p.operator) e ∙ eq-eqb p.operator o.operator more.1)

-- one hole
one_place : (sig : Signature) (o : Open) → places sig (o ∷ []) ≡ place sig o
one_place sig o = λ k e. more_nothing (place sig o e) k
  where
    more_nothing : (n : ℕ) → n + 0 ≡ n
    more_nothing n = omega arith

module _ (sig : Signature) (ok : IsAccepted sig) (r : Bool) (w x : RawTerm) (kx : IsCanonical sig x) where
  abbrev Further : Open → List Open → RawTerm → RawTerm → Type 0
  Further o os t y = (path : List ℕ) (take : Option (List ℕ)) → ReplacesAt sig r w x path take t y
      → ReplacesAt sig r w x (raised_path (places sig (o ∷ os)) (is_spread sig o t) t path) (raised_take (places sig (o ∷ os)) (is_spread sig o t) t path take) (whole sig (o ∷ os) t) (whole sig (o ∷ os) y)

  -- A place is raised through holes of one associative operator, or through one.
  pub rises : (o : Open) (os : List Open) → AreMore sig o.operator os → (t y : RawTerm) (path : List ℕ) (take : Option (List ℕ)) → StandsIn sig r (o ∷ os) t → ReplacesAt sig r w x path take t y
      → ReplacesAt sig r w x (raised_path (places sig (o ∷ os)) (is_spread sig o t) t path) (raised_take (places sig (o ∷ os)) (is_spread sig o t) t path take) (whole sig (o ∷ os) t) (whole sig (o ∷ os) y)
  rises o [] more t y path take stands a =
      subst (λ at. ReplacesAt sig r w x (raised_path at (is_spread sig o t) t path) (raised_take at (is_spread sig o t) t path take) (filled sig o t) (filled sig o y)) (sym (one_place sig o))
      (raises sig ok r w x kx o stands.clear.0 stands.orderly.0 stands.open_holes.0 t y path take stands.canonical stands.seen a)
  rises o (p ∷ os) more t y path take stands a =
      by_spread (λ path' take' b. rises p os (subst (λ f. AreMore sig f os) (sym more.0.1) more.1) (filled sig o t) (filled sig o y) path' take' (stands_beyond sig ok r (o ∷ []) (p ∷ os) t stands) b)
      (is_spread sig o t) refl first
    where
      assoc : is_assoc sig o.operator ≡ true
      assoc = more.0.0

      first : ReplacesAt sig r w x (raised_path (place sig o) (is_spread sig o t) t path) (raised_take (place sig o) (is_spread sig o t) t path take) (filled sig o t) (filled sig o y)
      first = raises sig ok r w x kx o stands.clear.0 stands.orderly.0 stands.open_holes.0 t y path take stands.canonical stands.seen a

      -- what it is, it comes to the next operator as its arguments
      again : Further p os (filled sig o t) (filled sig o y) → (es : RawTerms) → IsLong es → filled sig o t ≡ apply o.operator (with_all sig o es) → (path' : List ℕ) (take' : Option (List ℕ)) → ReplacesAt sig r w x path' take' (filled sig o t) (filled sig o y)
          → ReplacesAt sig r w x (spread_path (places sig (p ∷ os)) (with_all sig o es) path') (spread_take (places sig (p ∷ os)) (with_all sig o es) path' take') (whole sig (o ∷ p ∷ os) t) (whole sig (o ∷ p ∷ os) y)
      again further es l v path' take' b =
          let spread : is_spread sig p (filled sig o t) ≡ true = spread_in_next sig o p more.0 (filled sig o t) (with_all sig o es) v (long_all sig ok o stands.clear.0 es l) in
          let args : args_of (filled sig o t) ≡ with_all sig o es = ap args_of v in
          subst (λ ts. ReplacesAt sig r w x (spread_path (places sig (p ∷ os)) ts path') (spread_take (places sig (p ∷ os)) ts path' take') (whole sig (o ∷ p ∷ os) t) (whole sig (o ∷ p ∷ os) y)) args
          (subst (λ m. ReplacesAt sig r w x (raised_path (places sig (p ∷ os)) m (filled sig o t) path') (raised_take (places sig (p ∷ os)) m (filled sig o t) path' take') (whole sig (o ∷ p ∷ os) t) (whole sig (o ∷ p ∷ os) y)) spread
          (further path' take' b))

      by_spread : Further p os (filled sig o t) (filled sig o y) → (m : Bool) → is_spread sig o t ≡ m → ReplacesAt sig r w x (raised_path (place sig o) m t path) (raised_take (place sig o) m t path take) (filled sig o t) (filled sig o y)
          → ReplacesAt sig r w x (raised_path (places sig (o ∷ p ∷ os)) m t path) (raised_take (places sig (o ∷ p ∷ os)) m t path take) (whole sig (o ∷ p ∷ os) t) (whole sig (o ∷ p ∷ os) y)
      by_spread further false s b =
          let es : RawTerms = cons t nil in
          let v : filled sig o t ≡ apply o.operator (with_all sig o es) = filled_one sig ok o stands.clear.0 t s stands.seen in
          let z : number_of (places sig (p ∷ os)) (with_all sig o es) (place sig o t + 1) ≡ places sig (o ∷ p ∷ os) t + 1 = number_twice sig ok o stands.orderly.0 (p ∷ os) es (λ c. (tt, tt)) 1 (omega arith, omega arith, tt) in
          subst (λ n. ReplacesAt sig r w x (n ∷ path) take (whole sig (o ∷ p ∷ os) t) (whole sig (o ∷ p ∷ os) y)) z (again further es tt v ((place sig o t + 1) ∷ path) take b)
      by_spread further true s b =
          let q = and_parts (is_assoc sig o.operator) (stands_on o.operator t) s in
          let es : RawTerms = args_of t in
          let (e, l) = stands_on_its sig ok o.operator t q.0 stands.canonical q.1 in
          let v : filled sig o t ≡ apply o.operator (with_all sig o es) = ap (filled sig o) e ∙ filled_spread sig ok o stands.clear.0 es assoc (subst (IsSeenBy sig o) e stands.seen) l in
          let ordered : is_comm sig o.operator ≡ true → Climbs es = spread_order sig ok o.operator es assoc (subst (IsCanonical sig) e stands.canonical) in
          let there : at_path (apply o.operator es) path ≡ Some a.part.end = ap (λ t. at_path t path) (sym e) ∙ a.part.there in
          let one = path_twice sig ok o stands.orderly.0 (p ∷ os) es ordered o.operator a.part.end path there in
          let two = take_twice sig ok o stands.orderly.0 (p ∷ os) es ordered o.operator a.part.end w path take there a.part.taken in
          subst (λ is. ReplacesAt sig r w x is (spread_take (places sig (o ∷ p ∷ os)) es path take) (whole sig (o ∷ p ∷ os) t) (whole sig (o ∷ p ∷ os) y)) one
          (subst (λ is. ReplacesAt sig r w x (spread_path (places sig (p ∷ os)) (with_all sig o es) (spread_path (place sig o) es path)) is (whole sig (o ∷ p ∷ os) t) (whole sig (o ∷ p ∷ os) y)) two
          (again further es (long_several es l) v (spread_path (place sig o) es path) (spread_take (place sig o) es path take) b))
