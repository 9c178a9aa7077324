-- Of the parts that are tried for a variable that is all that is left, m times, only the one that has each element so
-- many times less leaves nothing; and there is none where m doesn't divide how often each stands.
use Rattle.std.specs.Prelude.{◌⊎◌, ⊤, Bool, true, false, cond, nat_eq, Option, Some, None, is_some, slice_get, refl}
use Rattle.std.proofs.Common.{◌≡◌, ◌∙◌, ℕ, zero, suc, ◌+◌, ◌-◌, ◌*◌, ◌/◌, ◌%◌, ◌<◌, ◌≤◌, List, [], ◌∷◌, ◌++◌, length, map, inl, inr, ap, sym, arith, mul-le-mul_left, mul-le-mul_right, le-div_iff_mul-le}
use Rattle.std.proofs.Math.Nat.{mul-add, add-mul, suc-mul, mul_assoc, mul_comm, mul-mod_left, eq-or-lt_of_le}
use Rattle.std.specs.List.{flat_map}
use Rattle.std.proofs.lemmas.Bool.{both_ways, eq-eqb, eqb-true}
use Rattle.std.proofs.lemmas.List.{append-nil, length-map}
use Rattle.mw_logic.specs.Term.{RawTerm, numeral, quoted, variable, apply, Variable, RawTerms, nil, cons}
use Rattle.mw_logic.specs.Signature.{Signature, Identity, constant_of, numeral_of}
use Rattle.mw_logic.specs.Parts.{number_of_terms}
use Rattle.mw_logic.specs.NormalForm.{identity_of, is_identity, own_arguments, elements, rebuilt}
use Rattle.mw_logic.proofs.SortedLists.{same_term}
use Rattle.mw_arguments.specs.Pieces.{is_backed}
use Rattle.mw_arguments.specs.Bags.{same, copies, spread, runs, heads, numbers}
use Rattle.mw_arguments.proofs.Runs.{runs-spread, runs-length}
use Rattle.mw_split.specs.Lists.{Member}
use Rattle.mw_matching.specs.Multisets.{is_within, left_behind, is_variable, times_in, numbers_without, part_of, rest_of, parts}
use Rattle.mw_matching.specs.Found.{Values, value_of, fits, found, found_bag, placed}
use Rattle.mw_search.specs.Bags.{are_divided, by_number}
use Rattle.mw_search.proofs.Ends.{got_end, got_past}
use Rattle.mw_search.proofs.Cutting.{AreBelow, Begins, zeros, IsCut, cut_below, same_cut, all_first, begins_all, all_is_cut, some_distinct, some_cut, some_more, there_is, none_of, one_of}

-- how large terms are
abbrev mutual
  size : RawTerm → ℕ
  size (numeral n) = 1
  size (quoted q) = 1
  size (variable x) = 1
  size (apply f ts) = 1 + sizes ts

  sizes : RawTerms → ℕ
  sizes nil = 0
  sizes (cons t ts) = size t + sizes ts

some_size : (t : RawTerm) → 1 ≤ size t
some_size (numeral n) = omega arith
some_size (quoted q) = omega arith
some_size (variable x) = omega arith
some_size (apply f ts) = omega arith

own_size : (f : ℕ) (t : RawTerm) → sizes (own_arguments f t) ≤ size t
own_size f (numeral n) = omega arith
own_size f (quoted q) = omega arith
own_size f (variable x) = omega arith
own_size f (apply g nil) = omega arith
own_size f (apply g (cons t ts)) = by_test (nat_eq f g)
  where
    by_test : (b : Bool) → sizes (cond b (cons t ts) (cons (apply g (cons t ts)) nil)) ≤ 1 + (size t + sizes ts)
    by_test true = omega arith
    by_test false = omega arith

element_size : (e : Option Identity) (f : ℕ) (t : RawTerm) → sizes (elements e f t) ≤ size t
element_size e f t = by_test (is_identity e t)
  where
    by_test : (b : Bool) → sizes (cond b nil (own_arguments f t)) ≤ size t
    by_test true = omega arith
    by_test false = own_size f t

-- what stands under the term of a part is no larger than the part
no_larger : (e : Option Identity) (f : ℕ) (p : RawTerms) → is_backed e p ≡ true → sizes (elements e f (rebuilt e f p)) ≤ sizes p
no_larger None f nil b = cc
no_larger (Some (constant_of c)) f nil b = rw (eq-eqb c c refl) (omega arith)
no_larger (Some (numeral_of n)) f nil b = rw (eq-eqb n n refl) (omega arith)
no_larger e f (cons t nil) b = let h = element_size e f t in omega (arith, h)
no_larger e f (cons t (cons u us)) b = by_test (is_identity e (apply f (cons t (cons u us))))
  where
    by_test : (b : Bool) → sizes (cond b nil (cond (nat_eq f f) (cons t (cons u us)) (cons (apply f (cons t (cons u us))) nil))) ≤ sizes (cons t (cons u us))
    by_test true = omega arith
    by_test false = rw (eq-eqb f f refl) (omega arith)

-- what is taken and what is left
sizes_left : (us zs : RawTerms) → is_within us zs ≡ true → sizes zs ≡ sizes us + sizes (left_behind us zs)
sizes_left nil zs w = omega arith
sizes_left (cons u us) nil w = absurd (both_ways _ refl w)
sizes_left (cons u us) (cons z zs) w = by_test (same u z) refl (λ w. sizes_left us zs w) (λ w. sizes_left (cons u us) zs w) w
  where
    by_test : (b : Bool) → same u z ≡ b → (is_within us zs ≡ true → sizes zs ≡ sizes us + sizes (left_behind us zs)) → (is_within (cons u us) zs ≡ true → sizes zs ≡ sizes (cons u us) + sizes (left_behind (cons u us) zs))
        → cond b (is_within us zs) (is_within (cons u us) zs) ≡ true → sizes (cons z zs) ≡ sizes (cons u us) + sizes (cond b (left_behind us zs) (cons z (left_behind (cons u us) zs)))
    by_test true e i n w =
        let r : sizes zs ≡ sizes us + sizes (left_behind us zs) = i w in
        let f : size u ≡ size z = ap size (same_term u z e) in
        omega (arith, r, f)
    by_test false e i n w = let r : sizes zs ≡ sizes (cons u us) + sizes (left_behind (cons u us) zs) = n w in omega (arith, r)

sizes-copies : (n : ℕ) (d : RawTerm) (us : RawTerms) → sizes (copies n d us) ≡ n * size d + sizes us
sizes-copies zero d us = omega arith
sizes-copies (suc n) d us = let r = sizes-copies n d us in let s = suc-mul n (size d) in omega (arith, r, s)

-- m times the entries are at most the numbers, or just these
abbrev AreWithin : ℕ → List ℕ → List ℕ → Type 0
AreWithin m [] c = ⊤
AreWithin m (n ∷ ns) [] = ⊥
AreWithin m (n ∷ ns) (x ∷ c) = (m * x ≤ n) × AreWithin m ns c

abbrev AreTimes : ℕ → List ℕ → List ℕ → Type 0
AreTimes m [] c = ⊤
AreTimes m (n ∷ ns) [] = ⊥
AreTimes m (n ∷ ns) (x ∷ c) = (m * x ≡ n) × AreTimes m ns c

times_least : (k x n s : ℕ) → suc k * x ≤ n → k * (x * s) ≤ (n - x) * s
times_least k x n s h =
    let a = suc-mul k x in
    let b : k * x ≤ n - x = omega (arith, h, a) in
    let c : (k * x) * s ≤ (n - x) * s = mul-le-mul_right s b in
    let d = mul_assoc k x s in
    omega (arith, c, d)

times_fewer : (k x n s : ℕ) → suc k * x < n → 1 ≤ s → k * (x * s) < (n - x) * s
times_fewer k x n s h o =
    let a = suc-mul k x in
    let b : k * x + 1 ≤ n - x = omega (arith, h, a) in
    let c : (k * x + 1) * s ≤ (n - x) * s = mul-le-mul_right s b in
    let d = mul_assoc k x s in
    let e = add-mul (k * x) 1 s in
    omega (arith, c, d, e, o)

-- what a part leaves is as large as k of it, or larger
record IsLight (k : ℕ) (ds : List RawTerm) (ns c : List ℕ) : Type 0 where
  least : k * sizes (spread ds c) ≤ sizes (spread ds (numbers_without ns c))
  exact : AreTimes (suc k) ns c ⊎ (k * sizes (spread ds c) < sizes (spread ds (numbers_without ns c)))

light : (k : ℕ) (ds : List RawTerm) (ns c : List ℕ) → length ns ≡ length ds → AreWithin (suc k) ns c → IsLight k ds ns c
light k [] [] c l w = record { least = omega arith; exact = inl tt }
light k [] (n ∷ ns) c l w = absurd (omega (arith, l))
light k (d ∷ ds) [] c l w = absurd (omega (arith, l))
light k (d ∷ ds) (n ∷ ns) [] l w = absurd w
light k (d ∷ ds) (n ∷ ns) (x ∷ c) l w =
    let i = light k ds ns c (omega (arith, l)) w.1 in
    let s : ℕ = size d in
    let p : ℕ = sizes (spread ds c) in
    let r : ℕ = sizes (spread ds (numbers_without ns c)) in
    let a : sizes (copies x d (spread ds c)) ≡ x * s + p = sizes-copies x d (spread ds c) in
    let b : sizes (copies (n - x) d (spread ds (numbers_without ns c))) ≡ (n - x) * s + r = sizes-copies (n - x) d (spread ds (numbers_without ns c)) in
    let t : k * sizes (copies x d (spread ds c)) ≡ k * (x * s) + k * p = ap (λ y. k * y) a ∙ mul-add k (x * s) p in
    let g : k * (x * s) ≤ (n - x) * s = times_least k x n s w.0 in
    let h : k * p ≤ r = i.least in
    record {
      least = omega (arith, b, t, g, h);
      exact = by_first a b t g h i.exact (eq-or-lt_of_le w.0);
    }
  where
    by_first : sizes (copies x d (spread ds c)) ≡ x * size d + sizes (spread ds c) → sizes (copies (n - x) d (spread ds (numbers_without ns c))) ≡ (n - x) * size d + sizes (spread ds (numbers_without ns c))
        → k * sizes (copies x d (spread ds c)) ≡ k * (x * size d) + k * sizes (spread ds c) → k * (x * size d) ≤ (n - x) * size d → k * sizes (spread ds c) ≤ sizes (spread ds (numbers_without ns c))
        → AreTimes (suc k) ns c ⊎ (k * sizes (spread ds c) < sizes (spread ds (numbers_without ns c))) → (suc k * x ≡ n) ⊎ (suc k * x < n)
        → AreTimes (suc k) (n ∷ ns) (x ∷ c) ⊎ (k * sizes (copies x d (spread ds c)) < sizes (copies (n - x) d (spread ds (numbers_without ns c))))
    by_first a b t g h (inl e) (inl f) = inl (f, e)
    by_first a b t g h (inr e) f = inr (omega (arith, b, t, g, e))
    by_first a b t g h (inl e) (inr f) = let j = times_fewer k x n (size d) f (some_size d) in inr (omega (arith, b, t, h, j))

-- entries below the quotients
within_below : (m : ℕ) (ns c : List ℕ) → 1 ≤ m → AreBelow (map (λ n. n / m) ns) c → AreWithin m ns c
within_below m [] c o b = tt
within_below m (n ∷ ns) [] o b = absurd b
within_below m (n ∷ ns) (x ∷ c) o b =
    let h : x * m ≤ n = (le-div_iff_mul-le o).0 b.0 in
    let e = mul_comm m x in
    (omega (arith, h, e), within_below m ns c o b.1)

-- where m times the entries are the numbers, the entries are the quotients, and m divides each number
quotients_are : (m : ℕ) (ns c : List ℕ) → 1 ≤ m → AreTimes m ns c → Begins (map (λ n. n / m) ns) c × (are_divided m ns ≡ true)
quotients_are m [] c o t = (tt, refl)
quotients_are m (n ∷ ns) [] o t = absurd t
quotients_are m (n ∷ ns) (x ∷ c) o t =
    let (b, d) = quotients_are m ns c o t.1 in
    let e : x * m ≡ n = mul_comm x m ∙ t.0 in
    let z : n % m ≡ 0 = ap (λ y. y % m) (sym e) ∙ mul-mod_left x m in
    let up : x ≤ n / m = (le-div_iff_mul-le o).1 (omega (arith, e)) in
    let down : n / m ≤ x = by_order (eq-or-lt_of_le up) in
    ((omega (arith, up, down), b), ap (λ y. cond (nat_eq y 0) (are_divided m ns) false) z ∙ d)
  where
    by_order : (x ≡ n / m) ⊎ (x < n / m) → n / m ≤ x
    by_order (inl e) = omega (arith, e)
    by_order (inr l) =
        let k : (x + 1) * m ≤ n = (le-div_iff_mul-le o).0 (omega (arith, l)) in
        let e = add-mul x 1 m in
        let f = mul_comm x m in
        let g = t.0 in
        absurd (omega (arith, k, e, f, g, o))

-- a part with nothing in it
none_spread : (ds : List RawTerm) (qs c : List ℕ) → length qs ≡ length ds → length qs ≤ length c → spread ds c ≡ nil → Begins (zeros qs) c
none_spread ds [] c l k e = tt
none_spread [] (q ∷ qs) c l k e = absurd (omega (arith, l))
none_spread (d ∷ ds) (q ∷ qs) [] l k e = absurd (omega (arith, k))
none_spread (d ∷ ds) (q ∷ qs) (zero ∷ c) l k e = (refl, none_spread ds qs c (omega (arith, l)) (omega (arith, k)) e)
none_spread (d ∷ ds) (q ∷ qs) (suc x ∷ c) l k e = cc

none_divided : (m : ℕ) (ds : List RawTerm) (ns w : List ℕ) → 1 ≤ m → length ns ≡ length ds → are_divided m ns ≡ true → Begins (zeros (map (λ n. n / m) ns)) (map (λ n. n / m) ns ++ w) → spread ds ns ≡ nil
none_divided m [] ns w o l d b = refl
none_divided m (d ∷ ds) [] w o l i b = refl
none_divided m (d ∷ ds) (n ∷ ns) w o l i b = by_test (nat_eq (n % m) 0) refl (λ j. none_divided m ds ns w o (omega (arith, l)) j b.1) i
  where
    by_test : (x : Bool) → nat_eq (n % m) 0 ≡ x → (are_divided m ns ≡ true → spread ds ns ≡ nil) → cond x (are_divided m ns) false ≡ true → copies n d (spread ds ns) ≡ nil
    by_test false e r i = cc
    by_test true e r i =
        let z : n % m ≡ 0 = eqb-true (n % m) 0 e in
        let y : n / m ≡ 0 = b.0 in
        let x : m * (n / m) ≡ m * 0 = ap (λ j. m * j) y in
        let n_none : n ≡ 0 = omega (arith, z, x, o) in
        ap (λ j. copies j d (spread ds ns)) n_none ∙ r i

-- entries behind those of the terms count for nothing
spread_begin : (ds : List RawTerm) (qs w : List ℕ) → length qs ≡ length ds → spread ds (qs ++ w) ≡ spread ds qs
spread_begin [] qs w l = refl
spread_begin (d ∷ ds) [] w l = absurd (omega (arith, l))
spread_begin (d ∷ ds) (q ∷ qs) w l = ap (copies q d) (spread_begin ds qs w (omega (arith, l)))

without_begin : (ns qs w : List ℕ) → length qs ≡ length ns → numbers_without ns (qs ++ w) ≡ numbers_without ns qs
without_begin [] qs w l = refl
without_begin (n ∷ ns) [] w l = absurd (omega (arith, l))
without_begin (n ∷ ns) (q ∷ qs) w l = ap (λ r. (n - q) ∷ r) (without_begin ns qs w (omega (arith, l)))

-- patterns that have this value
abbrev AreGiven : Values → RawTerm → RawTerms → Type 0
AreGiven us t nil = ⊤
AreGiven us t (cons q qs) = (value_of q us ≡ Some t) × AreGiven us t qs

times_few : (q : RawTerm) (ps : RawTerms) → times_in q ps ≤ number_of_terms ps
times_few q nil = omega arith
times_few q (cons p ps) = by_test (is_variable q p) (times_few q ps)
  where
    by_test : (b : Bool) → times_in q ps ≤ number_of_terms ps → cond b 1 0 + times_in q ps ≤ suc (number_of_terms ps)
    by_test true h = omega (arith, h)
    by_test false h = omega (arith, h)

is_given : (x : Variable) (t : RawTerm) (us : Values) (q : RawTerm) → slice_get us x.sort ≡ Some t → is_variable (variable x) q ≡ true → value_of q us ≡ Some t
is_given x t us (numeral n) e v = cc
is_given x t us (quoted q) e v = cc
is_given x t us (variable y) e v = ap (slice_get us) (sym (eqb-true x.sort y.sort v)) ∙ e
is_given x t us (apply f ts) e v = cc

are_given : (x : Variable) (t : RawTerm) (us : Values) (qs : RawTerms) → slice_get us x.sort ≡ Some t → times_in (variable x) qs ≡ number_of_terms qs → AreGiven us t qs
are_given x t us nil e h = tt
are_given x t us (cons q qs) e h = by_test (is_variable (variable x) q) refl h (λ k. are_given x t us qs e k)
  where
    by_test : (b : Bool) → is_variable (variable x) q ≡ b → cond b 1 0 + times_in (variable x) qs ≡ suc (number_of_terms qs) → (times_in (variable x) qs ≡ number_of_terms qs → AreGiven us t qs) → AreGiven us t (cons q qs)
    by_test true v h r = (is_given x t us q e v, r (omega (arith, h)))
    by_test false v h r = let k = times_few (variable x) qs in absurd (omega (arith, h, k))

by_number_size : (m : ℕ) (zs : RawTerms) → length (by_number m zs) ≡ length (heads (runs zs))
by_number_size m zs = length-map (numbers (runs zs)) (λ n. n / m) ∙ runs-length (runs zs)

pub part_by_number : (m : ℕ) (zs : RawTerms) → part_of zs (all_first (by_number m zs)) ≡ part_of zs (by_number m zs)
part_by_number m zs = spread_begin (heads (runs zs)) (by_number m zs) (zeros (by_number m zs)) (by_number_size m zs)

pub rest_by_number : (m : ℕ) (zs : RawTerms) → rest_of zs (all_first (by_number m zs)) ≡ rest_of zs (by_number m zs)
rest_by_number m zs = ap (spread (heads (runs zs))) (without_begin (numbers (runs zs)) (by_number m zs) (zeros (by_number m zs)) (length-map (numbers (runs zs)) (λ n. n / m)))

-- a part that is tried may stand for a term
backed_by : (e : Option Identity) (m : ℕ) (zs : RawTerms) (c : List ℕ) → Member c (parts (is_some e) m zs) → is_backed e (part_of zs c) ≡ true
backed_by (Some i) m zs c n = refl
backed_by None m zs c n = by_list (part_of zs c) refl
  where
    by_list : (p : RawTerms) → part_of zs c ≡ p → is_backed None p ≡ true
    by_list (cons t ts) e = refl
    by_list nil e =
        let i : IsCut (by_number m zs) c = some_cut false (by_number m zs) c n in
        absurd (some_more (by_number m zs) c n (none_spread (heads (runs zs)) (by_number m zs) c (by_number_size m zs) (omega (arith, i.size)) e))

module _ (sig : Signature) (single : List (List ℕ)) (f : ℕ) where
  -- a variable that has its value takes its elements
  given_step : (t q : RawTerm) (qs zs : RawTerms) (us : Values) → value_of q us ≡ Some t
      → found_bag sig single f (cons q qs) zs us ≡ cond (is_within (elements (identity_of sig f) f t) zs) (found_bag sig single f qs (left_behind (elements (identity_of sig f) f t) zs) us) []
  given_step t q qs zs us e = rw e refl

  -- patterns that have one value use up what is as large as they all are
  used_up : (t : RawTerm) (us : Values) (qs ws : RawTerms) → AreGiven us t qs → (sizes ws ≡ number_of_terms qs * sizes (elements (identity_of sig f) f t) → ⊥) → found_bag sig single f qs ws us ≡ []
  used_up t us nil nil g h = absurd (h (omega arith))
  used_up t us nil (cons w ws) g h = refl
  used_up t us (cons q qs) ws g h =
      given_step t q qs ws us g.0
      ∙ by_test (is_within (elements (identity_of sig f) f t) ws) refl (λ k. used_up t us qs (left_behind (elements (identity_of sig f) f t) ws) g.1 k)
    where
      by_test : (b : Bool) → is_within (elements (identity_of sig f) f t) ws ≡ b
          → ((sizes (left_behind (elements (identity_of sig f) f t) ws) ≡ number_of_terms qs * sizes (elements (identity_of sig f) f t) → ⊥) → found_bag sig single f qs (left_behind (elements (identity_of sig f) f t) ws) us ≡ [])
          → cond b (found_bag sig single f qs (left_behind (elements (identity_of sig f) f t) ws) us) [] ≡ []
      by_test false e r = refl
      by_test true e r = r (λ k. h (let l = sizes_left (elements (identity_of sig f) f t) ws e in let m = suc-mul (number_of_terms qs) (sizes (elements (identity_of sig f) f t)) in omega (arith, k, l, m)))

  module _ (x : Variable) (qs zs : RawTerms) (vs : Values) where
    -- what comes of a cut: the variable by its part, and the others by what it leaves
    abbrev pub cut_term : List ℕ → RawTerm
    cut_term c = rebuilt (identity_of sig f) f (part_of zs c)

    abbrev pub behind_cut : List ℕ → Values → List Values
    behind_cut c us = found_bag sig single f qs (rest_of zs c) us

    abbrev pub cut_found : List ℕ → List Values
    cut_found c = flat_map (behind_cut c) (found sig single (variable x) (cut_term c) vs)

    module _ (comes : x.sort ≡ length vs) (again : times_in (variable x) qs ≡ number_of_terms qs) where
      cut_none : (c : List ℕ) → is_backed (identity_of sig f) (part_of zs c) ≡ true → number_of_terms qs * sizes (part_of zs c) < sizes (rest_of zs c) → cut_found c ≡ []
      cut_none c b h =
          ap (λ n. flat_map (behind_cut c) (placed sig single n (cut_term c) vs (slice_get vs n))) comes
          ∙ ap (λ o. flat_map (behind_cut c) (placed sig single (length vs) (cut_term c) vs o)) (got_past vs) ∙ by_test (fits sig single (length vs) (cut_term c))
        where
          by_test : (y : Bool) → flat_map (behind_cut c) (cond y ((vs ++ cut_term c ∷ []) ∷ []) []) ≡ []
          by_test false = refl
          by_test true =
              let us : Values = vs ++ cut_term c ∷ [] in
              let value : slice_get us x.sort ≡ Some (cut_term c) = ap (slice_get us) comes ∙ got_end vs (cut_term c) in
              append-nil _ ∙ used_up (cut_term c) us qs (rest_of zs c) (are_given x (cut_term c) us qs value again)
              (λ k. (let l = no_larger (identity_of sig f) f (part_of zs c) b in
              let m : number_of_terms qs * sizes (elements (identity_of sig f) f (cut_term c)) ≤ number_of_terms qs * sizes (part_of zs c) = mul-le-mul_left (number_of_terms qs) l in
              omega (arith, k, m, h)))

      abbrev number : ℕ
      number = suc (number_of_terms qs)

      abbrev pub tried : List (List ℕ)
      tried = parts (is_some (identity_of sig f)) number zs

      -- a cut leaves nothing only where it has each element so many times less
      each_cut : (c : List ℕ) → Member c tried → ((c ≡ all_first (by_number number zs)) × (are_divided number (numbers (runs zs)) ≡ true)) ⊎ (cut_found c ≡ [])
      each_cut c n =
          let i : IsCut (by_number number zs) c = some_cut (is_some (identity_of sig f)) (by_number number zs) c n in
          let w : AreWithin number (numbers (runs zs)) c = within_below number (numbers (runs zs)) c (omega arith) (cut_below (by_number number zs) c i) in
          let l : IsLight (number_of_terms qs) (heads (runs zs)) (numbers (runs zs)) c = light (number_of_terms qs) (heads (runs zs)) (numbers (runs zs)) c (runs-length (runs zs)) w in
          by_size i (backed_by (identity_of sig f) number zs c n) l.exact
        where
          by_size : IsCut (by_number number zs) c → is_backed (identity_of sig f) (part_of zs c) ≡ true → AreTimes number (numbers (runs zs)) c ⊎ (number_of_terms qs * sizes (part_of zs c) < sizes (rest_of zs c))
              → ((c ≡ all_first (by_number number zs)) × (are_divided number (numbers (runs zs)) ≡ true)) ⊎ (cut_found c ≡ [])
          by_size i b (inr h) = inr (cut_none c b h)
          by_size i b (inl t) =
              let (e, d) = quotients_are number (numbers (runs zs)) c (omega arith) t in
              inl (same_cut (by_number number zs) (by_number number zs) c (all_first (by_number number zs)) refl e (begins_all (by_number number zs)) i (all_is_cut (by_number number zs)), d)

      -- where a number isn't divided, there is no match
      pub undivided : are_divided number (numbers (runs zs)) ≡ false → flat_map cut_found tried ≡ []
      undivided h = none_of cut_found tried (λ c n. none c (each_cut c n))
        where
          none : (c : List ℕ) → ((c ≡ all_first (by_number number zs)) × (are_divided number (numbers (runs zs)) ≡ true)) ⊎ (cut_found c ≡ []) → cut_found c ≡ []
          none c (inl (e, d)) = absurd (both_ways _ h d)
          none c (inr e) = e

      -- otherwise one part alone is to be tried
      pub divided_there : are_divided number (numbers (runs zs)) ≡ true → 0 < number_of_terms zs → Member (all_first (by_number number zs)) tried
      divided_there h s =
          there_is (is_some (identity_of sig f)) (by_number number zs) (all_first (by_number number zs)) (all_is_cut (by_number number zs))
          (λ b. (let e : zs ≡ nil = sym (runs-spread zs) ∙ none_divided number (heads (runs zs)) (numbers (runs zs)) (zeros (by_number number zs)) (omega arith) (runs-length (runs zs)) h b in
          let n = ap number_of_terms e in omega (arith, s, n)))

      pub divided : are_divided number (numbers (runs zs)) ≡ true → 0 < number_of_terms zs → flat_map cut_found tried ≡ cut_found (all_first (by_number number zs))
      divided h s = one_of cut_found tried (all_first (by_number number zs)) (some_distinct (is_some (identity_of sig f)) (by_number number zs)) (divided_there h s) (λ c n. one c (each_cut c n))
        where
          one : (c : List ℕ) → ((c ≡ all_first (by_number number zs)) × (are_divided number (numbers (runs zs)) ≡ true)) ⊎ (cut_found c ≡ []) → (c ≡ all_first (by_number number zs)) ⊎ (cut_found c ≡ [])
          one c (inl (e, d)) = inl e
          one c (inr e) = inr e
