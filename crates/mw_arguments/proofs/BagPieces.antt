-- The cuts of a multiset's numbers are its cuts into pieces.
use Rattle.std.specs.Prelude.{◌≡◌, ◌+◌, ◌-◌, ◌*◌, ◌<◌, ◌≤◌, ℕ, zero, suc, List, [], ◌∷◌, ◌++◌, length, map, take, drop, get_or, Bool, true, false, cond, refl}
use Rattle.std.specs.Ordering.{is_eq}
use Rattle.std.proofs.Common.{ap, sym, ◌∙◌, arith, length-append, length-drop, take-append-drop}
use Rattle.std.proofs.lemmas.List.{length-take-le, length-map, get_or-take, take_at, drop_at}
use Rattle.mw_logic.specs.Term.{RawTerm, RawTerms}
use Rattle.mw_logic.specs.TermOrder.{compare_terms}
use Rattle.mw_logic.proofs.SortedLists.{occurrences, sorted_terms-counts}
use Rattle.mw_split.specs.Lists.{AllOnce}
use Rattle.mw_split.specs.Cuts.{column, IsBagCut}
use Rattle.mw_arguments.specs.Pieces.{joined, AreInOrder, ArePieces}
use Rattle.mw_arguments.specs.Bags.{spread, Rises, rows, bag_pieces}
use Rattle.mw_arguments.proofs.Once.{once_mapped}
use Rattle.mw_arguments.proofs.Spread.{occurrences-join, occurrences-sorted, weigh, occurrences-spread, sorted-spread, tallies, tallies-length, tallies-spread, spread-tallies, tallies-join, tallies-nil, tallies-sorted}

-- columns are sums of rows
column-drop : (m i j : ℕ) (c : List ℕ) → column m j (drop i c) ≡ column m (i + j) c
column-drop m zero j c = let e : j ≡ 0 + j = omega arith in ap (λ i. column m i c) e
column-drop m (suc i) j [] = refl
column-drop m (suc i) j (x ∷ c) = let e : suc i + j ≡ suc (i + j) = omega arith in column-drop m i j c ∙ sym (ap (λ i. column m i (x ∷ c)) e)

column_step : (m j : ℕ) (c : List ℕ) → 1 ≤ m → column m j c ≡ get_or c j 0 + column m (m + j) c
column_step m j [] h = refl
column_step m zero (x ∷ c) h =
    let a : m + 0 ≡ suc (m - 1) = omega (arith, h) in
    ap (λ i. x + column m i (x ∷ c)) (sym a)
column_step m (suc j) (x ∷ c) h =
    let a : m + suc j ≡ suc (m + j) = omega arith in
    column_step m j c h ∙ ap (λ i. get_or c j 0 + column m i (x ∷ c)) (sym a)

column_row : (m j : ℕ) (c : List ℕ) → 1 ≤ m → column m j c ≡ get_or c j 0 + column m j (drop m c)
column_row m j c h = column_step m j c h ∙ ap (λ n. get_or c j 0 + n) (sym (column-drop m m j c))

sum_at : ℕ → List (List ℕ) → ℕ
sum_at j [] = 0
sum_at j (r ∷ rs) = get_or r j 0 + sum_at j rs

suc_times : (k m : ℕ) → suc k * m ≡ m + k * m
suc_times k m = omega arith

column-rows : (k m j : ℕ) (c : List ℕ) → length c ≡ k * m → j < m → column m j c ≡ sum_at j (rows k m c)
unfolding sum_at
column-rows zero m j [] l h = refl
column-rows zero m j (x ∷ c) l h = absurd (omega (arith, l))
column-rows (suc k) m j c l h =
    let d = length-drop m c in
    let s = suc_times k m in
    let r : column m j (drop m c) ≡ sum_at j (rows k m (drop m c)) = column-rows k m j (drop m c) (omega (arith, d, l, s)) h in
    column_row m j c (omega (arith, h)) ∙ (let g = get_or-take m c j 0 h in omega (arith, g, r))

-- rows of the width of the terms
abbrev AreOfWidth : ℕ → List (List ℕ) → Type 0
AreOfWidth m [] = Unit {0}
AreOfWidth m (r ∷ rs) = (length r ≡ m) × AreOfWidth m rs

rows_width : (k m : ℕ) (c : List ℕ) → length c ≡ k * m → AreOfWidth m (rows k m c)
rows_width zero m c l = tt
rows_width (suc k) m c l =
    let d = length-drop m c in
    let s = suc_times k m in
    (length-take-le m c (omega (arith, l, s)), rows_width k m (drop m c) (omega (arith, d, l, s)))

rows_length : (k m : ℕ) (c : List ℕ) → length (rows k m c) ≡ k
rows_length zero m c = refl
rows_length (suc k) m c = ap suc (rows_length k m (drop m c))

abbrev weigh_all : RawTerm → List RawTerm → List (List ℕ) → ℕ
weigh_all v ds [] = 0
weigh_all v ds (r ∷ rs) = weigh v ds r + weigh_all v ds rs

abbrev tail : List ℕ → List ℕ
tail [] = []
tail (x ∷ xs) = xs

tails_width : (m : ℕ) (rs : List (List ℕ)) → AreOfWidth (suc m) rs → AreOfWidth m (map tail rs)
tails_width m [] h = tt
tails_width m ([] ∷ rs) h = let a = h.0 in cc
tails_width m ((x ∷ r) ∷ rs) h = let a = h.0 in (omega (arith, a), tails_width m rs h.1)

tails_at : (j : ℕ) (rs : List (List ℕ)) → sum_at j (map tail rs) ≡ sum_at (suc j) rs
unfolding sum_at
tails_at j [] = refl
tails_at j ([] ∷ rs) = ap (λ n. 0 + n) (tails_at j rs)
tails_at j ((x ∷ r) ∷ rs) = ap (λ n. get_or r j 0 + n) (tails_at j rs)

weigh_all-none : (v : RawTerm) (rs : List (List ℕ)) → weigh_all v [] rs ≡ 0
weigh_all-none v [] = refl
weigh_all-none v (r ∷ rs) = let e = weigh_all-none v rs in omega (arith, e)

weigh_all-first : (v d : RawTerm) (ds : List RawTerm) (rs : List (List ℕ)) → AreOfWidth (suc (length ds)) rs
    → weigh_all v (d ∷ ds) rs ≡ cond (is_eq (compare_terms v d)) (sum_at 0 rs) 0 + weigh_all v ds (map tail rs)
unfolding sum_at
weigh_all-first v d ds [] h = by_test (is_eq (compare_terms v d))
  where
    by_test : (b : Bool) → 0 ≡ cond b 0 0 + 0
    by_test true = omega arith
    by_test false = omega arith
weigh_all-first v d ds ([] ∷ rs) h = let a = h.0 in cc
weigh_all-first v d ds ((x ∷ r) ∷ rs) h = by_test (is_eq (compare_terms v d)) (weigh_all-first v d ds rs h.1)
  where
    by_test : (b : Bool) → weigh_all v (d ∷ ds) rs ≡ cond b (sum_at 0 rs) 0 + weigh_all v ds (map tail rs)
        → (cond b x 0 + weigh v ds r) + weigh_all v (d ∷ ds) rs ≡ cond b (x + sum_at 0 rs) 0 + (weigh v ds r + weigh_all v ds (map tail rs))
    by_test true e = omega (arith, e)
    by_test false e = omega (arith, e)

weighs : (v : RawTerm) (ds : List RawTerm) (ns : List ℕ) (rs : List (List ℕ)) → length ns ≡ length ds → AreOfWidth (length ds) rs → ((j : ℕ) → j < length ds → sum_at j rs ≡ get_or ns j 0)
    → weigh_all v ds rs ≡ weigh v ds ns
weighs v [] ns rs l h q = weigh_all-none v rs
weighs v (d ∷ ds) [] rs l h q = cc
weighs v (d ∷ ds) (n ∷ ns) rs l h q =
    let z : sum_at 0 rs ≡ n = q 0 (omega arith) in
    let r : weigh_all v ds (map tail rs) ≡ weigh v ds ns = weighs v ds ns (map tail rs) (omega (arith, l)) (tails_width (length ds) rs h) (λ j k. tails_at j rs ∙ q (suc j) (omega (arith, k))) in
    weigh_all-first v d ds rs h ∙ (rw (z, r) refl)

occurrences-joined : (v : RawTerm) (ds : List RawTerm) (rs : List (List ℕ)) → occurrences v (joined (map (spread ds) rs)) ≡ weigh_all v ds rs
occurrences-joined v ds [] = refl
occurrences-joined v ds (r ∷ rs) =
    let a = occurrences-join v (spread ds r) (joined (map (spread ds) rs)) in
    let b = occurrences-spread v ds r in
    let e = occurrences-joined v ds rs in
    omega (arith, a, b, e)

all_sorted : (ds : List RawTerm) (rs : List (List ℕ)) → Rises ds → AreInOrder true (map (spread ds) rs)
all_sorted ds [] h = tt
all_sorted ds (r ∷ rs) h = (sorted-spread ds r h, all_sorted ds rs h)

-- back: the cut that pieces have
abbrev cut_of : List RawTerm → List RawTerms → List ℕ
cut_of ds [] = []
cut_of ds (p ∷ ps) = tallies ds p ++ cut_of ds ps

rows_of_cut : (ds : List RawTerm) (ps : List RawTerms) → rows (length ps) (length ds) (cut_of ds ps) ≡ map (tallies ds) ps
rows_of_cut ds [] = refl
rows_of_cut ds (p ∷ ps) = rw (take_at (tallies ds p) (cut_of ds ps) (length ds) (tallies-length ds p), drop_at (tallies ds p) (cut_of ds ps) (length ds) (tallies-length ds p), rows_of_cut ds ps) refl

cut_length : (ds : List RawTerm) (ps : List RawTerms) → length (cut_of ds ps) ≡ length ps * length ds
cut_length ds [] = omega arith
cut_length ds (p ∷ ps) =
    let a = length-append (tallies ds p) (cut_of ds ps) in
    let b = tallies-length ds p in
    let e = cut_length ds ps in
    let s = suc_times (length ps) (length ds) in
    omega (arith, a, b, e, s)

sum_tallied : (ds : List RawTerm) (j : ℕ) (ps : List RawTerms) → sum_at j (map (tallies ds) ps) ≡ get_or (tallies ds (joined ps)) j 0
unfolding sum_at
sum_tallied ds j [] = sym (tallies-nil ds j)
sum_tallied ds j (p ∷ ps) = let a = tallies-join ds j p (joined ps) in let e = sum_tallied ds j ps in omega (arith, a, e)

module _ (ds : List RawTerm) (rise : Rises ds) (ns : List ℕ) (size : length ns ≡ length ds) (k : ℕ) where
  there : (c : List ℕ) → IsBagCut ns k c → ArePieces true k (spread ds ns) (bag_pieces ds k c)
  there c b =
      let l : length c ≡ k * length ds = b.size ∙ ap (λ m. k * m) size in
      let rs : List (List ℕ) = rows k (length ds) c in
      let q : (j : ℕ) → j < length ds → sum_at j rs ≡ get_or ns j 0 = λ j h. sym (column-rows k (length ds) j c l h) ∙ ap (λ m. column m j c) (sym size) ∙ b.adds j (omega (arith, h, size)) in
      record {
        size = length-map rs (spread ds) ∙ rows_length k (length ds) c;
        order = all_sorted ds rs rise;
        whole = sorted_terms-counts (joined (map (spread ds) rs)) (spread ds ns) (λ v. occurrences-joined v ds rs ∙ weighs v ds ns rs size (rows_width k (length ds) c l) q ∙ sym (occurrences-spread v ds ns))
            ∙ sorted-spread ds ns rise;
      }

  pieces_again : (ps : List RawTerms) → AreInOrder true ps → ((v : RawTerm) → occurrences v (joined ps) ≤ weigh v ds ns) → map (spread ds) (map (tallies ds) ps) ≡ ps
  pieces_again [] o q = refl
  pieces_again (p ∷ ps) o q =
      let a : (v : RawTerm) → occurrences v p ≤ weigh v ds ns = λ v. (let j = occurrences-join v p (joined ps) in let r = q v in omega (arith, j, r)) in
      let b : (v : RawTerm) → occurrences v (joined ps) ≤ weigh v ds ns = λ v. (let j = occurrences-join v p (joined ps) in let r = q v in omega (arith, j, r)) in
      rw (spread-tallies ds ns p rise size o.0 a, pieces_again ps o.1 b) refl

  back : (ps : List RawTerms) → ArePieces true k (spread ds ns) ps → (c : List ℕ) × IsBagCut ns k c × (bag_pieces ds k c ≡ ps)
  back ps a =
      let l : length (cut_of ds ps) ≡ k * length ds = cut_length ds ps ∙ ap (λ n. n * length ds) a.size in
      let e : rows k (length ds) (cut_of ds ps) ≡ map (tallies ds) ps = ap (λ n. rows n (length ds) (cut_of ds ps)) (sym a.size) ∙ rows_of_cut ds ps in
      let t : tallies ds (joined ps) ≡ ns = sym (tallies-sorted ds (joined ps)) ∙ ap (tallies ds) a.whole ∙ tallies-spread ds ns rise size in
      let m : (v : RawTerm) → occurrences v (joined ps) ≤ weigh v ds ns = λ v. (let x : occurrences v (joined ps) ≡ weigh v ds ns = sym (occurrences-sorted v (joined ps)) ∙ ap (occurrences v) a.whole ∙ occurrences-spread v ds ns in omega (arith, x)) in (
        cut_of ds ps,
        record {
          size = l ∙ ap (λ m. k * m) (sym size);
          adds = λ j h. ap (λ m. column m j (cut_of ds ps)) size ∙ column-rows k (length ds) j (cut_of ds ps) l (omega (arith, h, size)) ∙ ap (sum_at j) e ∙ sum_tallied ds j ps ∙ ap (λ xs. get_or xs j 0) t;
        },
        ap (map (spread ds)) e ∙ pieces_again ps a.order m,
      )

  rows_again : (rs : List (List ℕ)) → AreOfWidth (length ds) rs → map (tallies ds) (map (spread ds) rs) ≡ rs
  rows_again [] w = refl
  rows_again (r ∷ rs) w = rw (tallies-spread ds r rise w.0, rows_again rs w.1) refl

  flat : List (List ℕ) → List ℕ
  flat [] = []
  flat (r ∷ rs) = r ++ flat rs

  flat_rows : (n m : ℕ) (c : List ℕ) → length c ≡ n * m → flat (rows n m c) ≡ c
  unfolding flat
  flat_rows zero m [] l = refl
  flat_rows zero m (x ∷ c) l = absurd (omega (arith, l))
  flat_rows (suc n) m c l =
      let d = length-drop m c in
      let s = suc_times n m in
      ap (λ r. take m c ++ r) (flat_rows n m (drop m c) (omega (arith, d, l, s))) ∙ take-append-drop m c

  one : (c c2 : List ℕ) → IsBagCut ns k c → IsBagCut ns k c2 → bag_pieces ds k c ≡ bag_pieces ds k c2 → c ≡ c2
  one c c2 b b2 e =
      let l : length c ≡ k * length ds = b.size ∙ ap (λ m. k * m) size in
      let l2 : length c2 ≡ k * length ds = b2.size ∙ ap (λ m. k * m) size in
      let w : rows k (length ds) c ≡ rows k (length ds) c2 = sym (rows_again (rows k (length ds) c) (rows_width k (length ds) c l)) ∙ ap (map (tallies ds)) e ∙ rows_again (rows k (length ds) c2) (rows_width k (length ds) c2 l2) in
      sym (flat_rows k (length ds) c l) ∙ ap flat w ∙ flat_rows k (length ds) c2 l2

  -- the cuts of the numbers are the cuts of the multiset
  pub bag_cutting : (cs : List (List ℕ)) → AllOnce (IsBagCut ns k) cs → AllOnce (ArePieces true k (spread ds ns)) (map (bag_pieces ds k) cs)
  bag_cutting cs a = once_mapped (IsBagCut ns k) (ArePieces true k (spread ds ns)) (bag_pieces ds k) cs a there back one
