-- The parts of a multiset of which there are several equal ones beside each other, and what they leave: each once.
use Rattle.std.specs.Prelude.{◌≡◌, ℕ, zero, suc, ◌+◌, ◌-◌, ◌*◌, ◌/◌, ◌≤◌, List, [], ◌∷◌, ◌++◌, length, map, take, Bool, true, false, cond, refl, ⊤}
use Rattle.std.specs.Ordering.{is_eq}
use Rattle.std.proofs.Common.{inl, inr, ap, sym, subst, ◌∙◌, arith, mul-le-mul_left, mul-le-mul_right, le-div_iff_mul-le, div-mul-le_self}
use Rattle.std.proofs.lemmas.Bool.{both_ways, lt-ltb}
use Rattle.std.proofs.lemmas.List.{length-take-le, length-map, length_push}
use Rattle.mw_logic.specs.Term.{RawTerm, RawTerms, nil, cons, join}
use Rattle.mw_logic.specs.Parts.{number_of_terms}
use Rattle.mw_logic.specs.TermOrder.{compare_terms, sorted_terms}
use Rattle.mw_logic.proofs.SortLaws.{join-nil}
use Rattle.mw_logic.proofs.SortedLists.{occurrences, sorted_terms-counts, Climbs, sorted_terms-climbing}
use Rattle.mw_split.specs.Lists.{Member, AllOnce}
use Rattle.mw_split.specs.Cuts.{bag_cuts, first, after}
use Rattle.mw_split.proofs.Next.{cuts-first, reached-short}
use Rattle.mw_split.proofs.Whole.{bag_cuts_once}
use Rattle.mw_arguments.specs.Pieces.{ArePieces}
use Rattle.mw_arguments.specs.Bags.{spread, runs, heads, numbers, bag_pieces, Rises}
use Rattle.mw_arguments.proofs.Once.{once_mapped, once_same}
use Rattle.mw_arguments.proofs.Runs.{runs-spread, runs-length, runs-rise}
use Rattle.mw_arguments.proofs.Spread.{occurrences-join, occurrences-sorted, weigh, occurrences-spread, sorted-spread, tallies, tallies-spread, spread-tallies}
use Rattle.mw_arguments.proofs.BagPieces.{bag_cutting}
use Rattle.mw_matching.specs.Bagged.{first_of}
use Rattle.mw_matching.specs.Multisets.{numbers_without, part_of, rest_of, behind_first, cuts_of, parts}

-- a part, and what it leaves
abbrev pub Halves : Type 0
Halves = RawTerms × RawTerms

-- The two halves of zs, in order, of which the first lies within zs m times; it is empty only where it may be.
pub record IsCopied (empty : Bool) (m : ℕ) (zs : RawTerms) (ps : Halves) : Type 0 where
  pub order : sorted_terms ps.0 ≡ ps.0
  pub left : sorted_terms ps.1 ≡ ps.1
  pub whole : sorted_terms (join ps.0 ps.1) ≡ zs
  pub copies : (v : RawTerm) → m * occurrences v ps.0 ≤ occurrences v zs
  pub some : empty ≡ false → 1 ≤ number_of_terms ps.0

-- entry by entry at most
abbrev AreBelow : List ℕ → List ℕ → Type 0
AreBelow [] c = ⊤
AreBelow (n ∷ ns) [] = ⊥
AreBelow (n ∷ ns) (x ∷ c) = (x ≤ n) × AreBelow ns c

weigh_without : (v : RawTerm) (ds : List RawTerm) (ns c : List ℕ) → length ns ≡ length ds → AreBelow ns c → weigh v ds c + weigh v ds (numbers_without ns c) ≡ weigh v ds ns
weigh_without v [] ns c l b = omega arith
weigh_without v (d ∷ ds) [] c l b = cc
weigh_without v (d ∷ ds) (n ∷ ns) [] l b = absurd b
weigh_without v (d ∷ ds) (n ∷ ns) (x ∷ c) l b = by_test (is_eq (compare_terms v d)) (weigh_without v ds ns c (omega (arith, l)) b.1)
  where
    by_test : (t : Bool) → weigh v ds c + weigh v ds (numbers_without ns c) ≡ weigh v ds ns → (cond t x 0 + weigh v ds c) + (cond t (n - x) 0 + weigh v ds (numbers_without ns c)) ≡ cond t n 0 + weigh v ds ns
    by_test true r = let k = b.0 in omega (arith, k, r)
    by_test false r = omega (arith, r)

tallies_below : (ds : List RawTerm) (us zs : RawTerms) → ((v : RawTerm) → occurrences v us ≤ occurrences v zs) → AreBelow (tallies ds zs) (tallies ds us)
tallies_below [] us zs q = tt
tallies_below (d ∷ ds) us zs q = (q d, tallies_below ds us zs q)

quotients_below : (m : ℕ) (ds : List RawTerm) (us zs : RawTerms) → 1 ≤ m → ((v : RawTerm) → m * occurrences v us ≤ occurrences v zs) → AreBelow (map (λ n. n / m) (tallies ds zs)) (tallies ds us)
quotients_below m [] us zs o q = tt
quotients_below m (d ∷ ds) us zs o q =
    let k = q d in
    let a : occurrences d us * m ≤ occurrences d zs = omega (arith, k) in
    ((le-div_iff_mul-le o).1 a, quotients_below m ds us zs o q)

quotients_weigh : (m : ℕ) (v : RawTerm) (ds : List RawTerm) (ns : List ℕ) → m * weigh v ds (map (λ n. n / m) ns) ≤ weigh v ds ns
quotients_weigh m v [] ns = omega arith
quotients_weigh m v (d ∷ ds) [] = omega arith
quotients_weigh m v (d ∷ ds) (n ∷ ns) = by_test (is_eq (compare_terms v d)) (quotients_weigh m v ds ns)
  where
    by_test : (t : Bool) → m * weigh v ds (map (λ n. n / m) ns) ≤ weigh v ds ns → m * (cond t (n / m) 0 + weigh v ds (map (λ n. n / m) ns)) ≤ cond t n 0 + weigh v ds ns
    by_test true r = let k = div-mul-le_self n m in omega (arith, k, r)
    by_test false r = omega (arith, r)

-- entries behind those of the terms count for nothing
spread_take : (ds : List RawTerm) (c : List ℕ) → spread ds (take (length ds) c) ≡ spread ds c
spread_take [] c = refl
spread_take (d ∷ ds) [] = refl
spread_take (d ∷ ds) (x ∷ c) = rw (spread_take ds c) refl

without_take : (ns c : List ℕ) → numbers_without ns (take (length ns) c) ≡ numbers_without ns c
without_take [] c = refl
without_take (n ∷ ns) [] = refl
without_take (n ∷ ns) (x ∷ c) = ap (λ r. (n - x) ∷ r) (without_take ns c)

-- the first cut gives nothing to the first part
first_none : (ds : List RawTerm) (n : ℕ) (q : List ℕ) → length ds + length q ≤ n → spread ds (first n q) ≡ nil
first_none [] n q h = refl
first_none (d ∷ ds) zero q h = absurd (omega (arith, h))
first_none (d ∷ ds) (suc n) [] h = refl
first_none (d ∷ ds) (suc n) (b ∷ bs) h =
    let p = length_push bs b in
    rw (lt-ltb (length bs) n (omega (arith, h))) (first_none ds n (bs ++ b ∷ []) (omega (arith, h, p)))

first_cut : (ds : List RawTerm) (qs : List ℕ) → length qs ≡ length ds → (c : List ℕ) × (cs : List (List ℕ)) × (bag_cuts qs 2 ≡ c ∷ cs) × (spread ds c ≡ nil)
unfolding bag_cuts
first_cut [] [] l = ([], [], refl, refl)
first_cut (d ∷ ds) [] l = cc
first_cut ds (q ∷ qs) l =
    let n : ℕ = 2 * length (q ∷ qs) in
    let e = cuts-first n (q ∷ qs) (omega arith) (reached-short n (q ∷ qs) (omega arith)) in
    (first n (q ∷ qs), after (q ∷ qs) (first n (q ∷ qs)), e, first_none ds n (q ∷ qs) (omega (arith, l)))

-- mapped twice
map_same : {A B C : Type 0} (f : B → C) (g : A → B) (k : A → C) (xs : List A) → ((x : A) → Member x xs → f (g x) ≡ k x) → map f (map g xs) ≡ map k xs
map_same f g k [] h = refl
map_same f g k (x ∷ xs) h = rw (h x (inl refl), map_same f g k xs (λ y m. h y (inr m))) refl

-- all but the first
once_behind : {A : Type 0} (P : A → Type 0) (x : A) (xs : List A) → AllOnce P (x ∷ xs) → AllOnce (λ y. P y × (y ≡ x → ⊥)) xs
once_behind {A} P x xs l = record { once = l.once.1; all = λ y. ((λ m. ((l.all y).0 (inr m), λ e. l.once.0 (subst (λ z. Member z xs) e m))), (λ p. back y p.1 ((l.all y).1 p.0))) }
  where
    back : (y : A) → (y ≡ x → ⊥) → Member y (x ∷ xs) → Member y xs
    back y n (inl e) = absurd (n e)
    back y n (inr m) = m

module _ (m : ℕ) (more : 1 ≤ m) (zs : RawTerms) (climbing : Climbs zs) where
  abbrev ds : List RawTerm
  ds = heads (runs zs)

  abbrev ns : List ℕ
  ns = numbers (runs zs)

  size : length ns ≡ length ds
  size = runs-length (runs zs)

  rise : Rises ds
  rise = runs-rise zs climbing

  numbers_are : tallies ds zs ≡ ns
  numbers_are = ap (tallies ds) (sym (runs-spread zs)) ∙ tallies-spread ds ns rise size

  weighs : (v : RawTerm) → occurrences v zs ≡ weigh v ds ns
  weighs v = ap (occurrences v) (sym (runs-spread zs)) ∙ occurrences-spread v ds ns

  -- what a part leaves
  rest : RawTerms → RawTerms
  rest p = spread ds (numbers_without ns (tallies ds p))

  abbrev LiesWithin : RawTerms → Type 0
  LiesWithin p = (sorted_terms p ≡ p) × ((v : RawTerm) → occurrences v p ≤ occurrences v zs)

  tallied : (p : RawTerms) → LiesWithin p → (v : RawTerm) → weigh v ds (tallies ds p) ≡ occurrences v p
  tallied p i v =
      sym (occurrences-spread v ds (tallies ds p))
      ∙ ap (occurrences v) (spread-tallies ds ns p rise size i.0 (λ v. (let a = i.1 v in let b = weighs v in omega (arith, a, b))))

  rest_counts : (p : RawTerms) → LiesWithin p → (v : RawTerm) → occurrences v p + occurrences v (rest p) ≡ occurrences v zs
  unfolding rest
  rest_counts p i v =
      let a = occurrences-spread v ds (numbers_without ns (tallies ds p)) in
      let b = tallied p i v in
      let c = weigh_without v ds ns (tallies ds p) size (subst (λ ns. AreBelow ns (tallies ds p)) numbers_are (tallies_below ds p zs i.1)) in
      let w = weighs v in
      omega (arith, a, b, c, w)

  rest_sorted : (p : RawTerms) → sorted_terms (rest p) ≡ rest p
  unfolding rest
  rest_sorted p = sorted-spread ds (numbers_without ns (tallies ds p)) rise

  -- a part of which there are m lies within
  lies_within : (p : RawTerms) → sorted_terms p ≡ p → ((v : RawTerm) → m * occurrences v p ≤ occurrences v zs) → LiesWithin p
  lies_within p o q = (o, λ v. (let a = q v in let b : 1 * occurrences v p ≤ m * occurrences v p = mul-le-mul_right (occurrences v p) more in omega (arith, a, b)))

  abbrev quotients : List ℕ
  quotients = map (λ n. n / m) ns

  quotients_size : length quotients ≡ length ds
  quotients_size = length-map ns (λ n. n / m) ∙ size

  -- pieces of the quotients
  abbrev Cut : List RawTerms → Type 0
  Cut ps = ArePieces true 2 (spread ds quotients) ps

  two : (ps : List RawTerms) → Cut ps → (p r : RawTerms) × (ps ≡ p ∷ r ∷ []) × (sorted_terms p ≡ p) × (sorted_terms r ≡ r) × ((v : RawTerm) → occurrences v p + occurrences v r ≡ weigh v ds quotients)
  two [] a = let n = a.size in absurd (omega (arith, n))
  two (p ∷ []) a = let n = a.size in absurd (omega (arith, n))
  two (p ∷ q ∷ r ∷ ps) a = let n = a.size in absurd (omega (arith, n))
  two (p ∷ r ∷ []) a = (p, r, refl, a.order.0, a.order.1.0, λ v. counted v)
    where
      counted : (v : RawTerm) → occurrences v p + occurrences v r ≡ weigh v ds quotients
      counted v =
          sym (occurrences-join v p r) ∙ ap (λ ys. occurrences v (join p ys)) (sym (join-nil r)) ∙ sym (occurrences-sorted v (join p (join r nil))) ∙ ap (occurrences v) a.whole ∙ occurrences-spread v ds quotients

  halves : List RawTerms → Halves
  halves ps = (first_of ps, rest (first_of ps))

  there : (ps : List RawTerms) → Cut ps → IsCopied true m zs (halves ps)
  unfolding halves
  there ps a = let (p, r, w, op, o, k) = two ps a in subst (λ ps. IsCopied true m zs (first_of ps, rest (first_of ps))) (sym w) (copied p r op k)
    where
      copied : (p r : RawTerms) → sorted_terms p ≡ p → ((v : RawTerm) → occurrences v p + occurrences v r ≡ weigh v ds quotients) → IsCopied true m zs (p, rest p)
      copied p r op k =
          let copies : (v : RawTerm) → m * occurrences v p ≤ occurrences v zs = λ v. many v in
          let i : LiesWithin p = lies_within p op copies in
          record {
            order = op;
            left = rest_sorted p;
            whole = sorted_terms-counts (join p (rest p)) zs (λ v. occurrences-join v p (rest p) ∙ rest_counts p i v) ∙ sorted_terms-climbing zs climbing;
            copies = copies;
            some = λ w. absurd (both_ways _ w refl);
          }
        where
          many : (v : RawTerm) → m * occurrences v p ≤ occurrences v zs
          many v =
              let a = k v in
              let b : m * occurrences v p ≤ m * weigh v ds quotients = mul-le-mul_left m (omega (arith, a)) in
              let c = quotients_weigh m v ds ns in
              let w = weighs v in
              omega (arith, b, c, w)

  rest_only : (p r : RawTerms) → LiesWithin p → sorted_terms r ≡ r → sorted_terms (join p r) ≡ zs → rest p ≡ r
  rest_only p r i o w = sym (rest_sorted p) ∙ sorted_terms-counts (rest p) r counted ∙ o
    where
      counted : (v : RawTerm) → occurrences v (rest p) ≡ occurrences v r
      counted v =
          let a = rest_counts p i v in
          let b = occurrences-join v p r in
          let c : occurrences v (join p r) ≡ occurrences v zs = sym (occurrences-sorted v (join p r)) ∙ ap (occurrences v) w in
          omega (arith, a, b, c)

  abbrev other : RawTerms → RawTerms
  other p = spread ds (numbers_without quotients (tallies ds p))

  back : (hs : Halves) → IsCopied true m zs hs → (ps : List RawTerms) × Cut ps × (halves ps ≡ hs)
  unfolding halves
  back hs i = (
    hs.0 ∷ other hs.0 ∷ [],
    record {
      size = refl;
      order = (i.order, (sorted-spread ds (numbers_without quotients (tallies ds hs.0)) rise, tt));
      whole = ap (λ xs. sorted_terms (join hs.0 xs)) (join-nil (other hs.0)) ∙ sorted_terms-counts (join hs.0 (other hs.0)) (spread ds quotients) counted ∙ sorted-spread ds quotients rise;
    },
    ap (λ r. (hs.0, r)) (rest_only hs.0 hs.1 within i.left i.whole),
  )
    where
      within : LiesWithin hs.0
      within = lies_within hs.0 i.order i.copies

      counted : (v : RawTerm) → occurrences v (join hs.0 (other hs.0)) ≡ occurrences v (spread ds quotients)
      counted v =
          let a = occurrences-join v hs.0 (other hs.0) in
          let b = tallied hs.0 within v in
          let c = occurrences-spread v ds (numbers_without quotients (tallies ds hs.0)) in
          let below : AreBelow quotients (tallies ds hs.0) = subst (λ ns. AreBelow (map (λ n. n / m) ns) (tallies ds hs.0)) numbers_are (quotients_below m ds hs.0 zs more i.copies) in
          let d = weigh_without v ds quotients (tallies ds hs.0) quotients_size below in
          let w = occurrences-spread v ds quotients in
          omega (arith, a, b, c, d, w)

  one : (ps qs : List RawTerms) → Cut ps → Cut qs → halves ps ≡ halves qs → ps ≡ qs
  unfolding halves
  one ps qs a b w =
      let (p, r, x, op, o, k) = two ps a in
      let (p2, r2, x2, op2, o2, k2) = two qs b in
      let y : p ≡ p2 = ap first_of (sym x) ∙ ap (λ (s : Halves). s.0) w ∙ ap first_of x2 in
      let u : r ≡ r2 = sym o ∙ sorted_terms-counts r r2 (λ v. (let c = k v in let d = k2 v in let f : occurrences v p ≡ occurrences v p2 = ap (occurrences v) y in omega (arith, c, d, f))) ∙ o2 in
      x ∙ ap (λ p. p ∷ r ∷ []) y ∙ ap (λ r. p2 ∷ r ∷ []) u ∙ sym x2

  -- the cuts are these halves
  cut_halves : (c : List ℕ) → Member c (cuts_of m zs) → halves (bag_pieces ds 2 c) ≡ (part_of zs c, rest_of zs c)
  unfolding halves rest
  cut_halves c n =
      let s = ((bag_cuts_once quotients 2).all c).0 n in
      let l = s.size in
      let z = quotients_size in
      let a : tallies ds (spread ds (take (length ds) c)) ≡ take (length ds) c = tallies-spread ds (take (length ds) c) rise (length-take-le (length ds) c (omega (arith, l, z))) in
      let b : numbers_without ns (take (length ds) c) ≡ numbers_without ns c = ap (λ k. numbers_without ns (take k c)) (sym size) ∙ without_take ns c in
      ap (λ x. (spread ds (take (length ds) c), spread ds (numbers_without ns x))) a ∙ ap (λ x. (spread ds (take (length ds) c), spread ds x)) b ∙ ap (λ x. (x, spread ds (numbers_without ns c))) (spread_take ds c)

  abbrev half_at : List ℕ → Halves
  half_at c = (part_of zs c, rest_of zs c)

  all_halves : AllOnce (IsCopied true m zs) (map half_at (cuts_of m zs))
  all_halves =
      subst (AllOnce (IsCopied true m zs)) (map_same halves (bag_pieces ds 2) half_at (cuts_of m zs) cut_halves)
      (once_mapped Cut (IsCopied true m zs) halves (map (bag_pieces ds 2) (cuts_of m zs)) (bag_cutting ds rise quotients quotients_size 2 (cuts_of m zs) (bag_cuts_once quotients 2)) there back one)

  -- without the empty one
  some_halves : AllOnce (IsCopied false m zs) (map half_at (behind_first (cuts_of m zs)))
  some_halves =
      let (c, cs, w, n) = first_cut ds quotients quotients_size in
      let l : AllOnce (IsCopied true m zs) (half_at c ∷ map half_at cs) = subst (λ cs. AllOnce (IsCopied true m zs) (map half_at cs)) w all_halves in
      subst (λ cs. AllOnce (IsCopied false m zs) (map half_at (behind_first cs))) (sym w)
      (once_same (λ y. IsCopied true m zs y × (y ≡ half_at c → ⊥)) (IsCopied false m zs) (map half_at cs)
      (λ y p. not_first c n ((l.all (half_at c)).0 (inl refl)) y p.0 p.1) (λ y i. (may_be_first y i, (λ e. is_some c n y i e)))
      (once_behind (IsCopied true m zs) (half_at c) (map half_at cs) l))
    where
      may_be_first : (y : Halves) → IsCopied false m zs y → IsCopied true m zs y
      may_be_first y i = record { order = i.order; left = i.left; whole = i.whole; copies = i.copies; some = λ w. absurd (both_ways _ w refl) }

      is_some : (c : List ℕ) → spread ds c ≡ nil → (y : Halves) → IsCopied false m zs y → y ≡ half_at c → ⊥
      is_some c n y i e =
          let a : number_of_terms y.0 ≡ 0 = ap (λ (s : Halves). number_of_terms s.0) e ∙ ap number_of_terms n in
          let b = i.some refl in
          omega (arith, a, b)

      not_first : (c : List ℕ) → spread ds c ≡ nil → IsCopied true m zs (half_at c) → (y : Halves) → IsCopied true m zs y → (y ≡ half_at c → ⊥) → IsCopied false m zs y
      not_first c n ic y i d = record { order = i.order; left = i.left; whole = i.whole; copies = i.copies; some = λ _. by_list y.0 refl }
        where
          by_list : (p : RawTerms) → y.0 ≡ p → 1 ≤ number_of_terms p
          by_list (cons t ts) e = omega arith
          by_list nil e =
              let a : y.1 ≡ zs = sym i.left ∙ ap (λ p. sorted_terms (join p y.1)) (sym e) ∙ i.whole in
              let b : rest_of zs c ≡ zs = sym ic.left ∙ ap (λ p. sorted_terms (join p (rest_of zs c))) (sym n) ∙ ic.whole in
              absurd (d (ap (λ p. (p, y.1)) (e ∙ sym n) ∙ ap (λ r. (spread ds c, r)) (a ∙ sym b)))

pub parts_once : (empty : Bool) (m : ℕ) (zs : RawTerms) → 1 ≤ m → Climbs zs → AllOnce (IsCopied empty m zs) (map (λ c. (part_of zs c, rest_of zs c)) (parts empty m zs))
parts_once true m zs more climbing = all_halves m more zs climbing
parts_once false m zs more climbing = some_halves m more zs climbing
