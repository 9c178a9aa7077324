-- The list of paths has each path at whose end something stands, once, and none before a shorter one.
use Rattle.std.specs.Prelude.{◌≡◌, ◌⊎◌, ◌+◌, ◌≤◌, ◌<◌, ℕ, zero, suc, List, [], ◌∷◌, ◌++◌, map, length, Option, Some, None, option_and_then, slice_get, IsSome, refl}
use Rattle.std.proofs.Common.{inl, inr, ap, sym, subst, ◌∙◌, arith}
use Rattle.std.proofs.lemmas.Bool.{cases_lt}
use Rattle.mw_logic.specs.Term.{RawTerm, numeral, quoted, variable, apply, RawTerms, nil, cons}
use Rattle.mw_logic.specs.Terms.{list_of, args_of}
use Rattle.mw_logic.specs.NormalForm.{height, highest}
use Rattle.mw_split.specs.Lists.{Member, Distinct, AllOnce}
use Rattle.mw_split.proofs.Lists.{member-left, member-right, member-append, member-map, map-member, distinct-append, distinct-map}
use Rattle.mw_redex.specs.Paths.{at_path, by_number, level, levels, paths, Lengthen}

-- a path that is listed of a term, behind the term's number
record Behind (listed : RawTerm → List (List ℕ)) (i : ℕ) (ts : List RawTerm) (path : List ℕ) : Type 0 where
  number : ℕ
  term : RawTerm
  rest : List ℕ
  found : slice_get ts number ≡ Some term
  is : path ≡ (i + number) ∷ rest
  stands : Member rest (listed term)

by_number_has : (listed : RawTerm → List (List ℕ)) (i : ℕ) (ts : List RawTerm) (path : List ℕ) → Member path (by_number listed i ts) → Behind listed i ts path
by_number_has listed i [] path m = absurd m
by_number_has listed i (t ∷ ts) path m = split (member-append path (map (λ p. i ∷ p) (listed t)) (by_number listed (suc i) ts) m) (by_number_has listed (suc i) ts path)
  where
    split : Member path (map (λ p. i ∷ p) (listed t)) ⊎ Member path (by_number listed (suc i) ts) → (Member path (by_number listed (suc i) ts) → Behind listed (suc i) ts path) → Behind listed i (t ∷ ts) path
    split (inl n) r =
        let (p, e, k) = map-member (λ p. i ∷ p) path (listed t) n in
        let z : i ≡ i + 0 = omega arith in
        record { number = 0; term = t; rest = p; found = refl; is = e ∙ ap (λ j. j ∷ p) z; stands = k }
    split (inr n) r =
        let b : Behind listed (suc i) ts path = r n in
        let z : suc i + b.number ≡ i + suc b.number = omega arith in
        record { number = suc b.number; term = b.term; rest = b.rest; found = b.found; is = b.is ∙ ap (λ j. j ∷ b.rest) z; stands = b.stands }

by_number_member : (listed : RawTerm → List (List ℕ)) (i : ℕ) (ts : List RawTerm) (k : ℕ) (u : RawTerm) (p : List ℕ) → slice_get ts k ≡ Some u → Member p (listed u) → Member ((i + k) ∷ p) (by_number listed i ts)
by_number_member listed i [] k u p e m = cc
by_number_member listed i (t ∷ ts) zero u p e m =
    let w : u ≡ t = cc in
    let z : i ≡ i + 0 = omega arith in
    subst (λ j. Member (j ∷ p) (by_number listed i (t ∷ ts))) z (member-left (i ∷ p) (map (λ q. i ∷ q) (listed t)) (by_number listed (suc i) ts) (member-map (λ q. i ∷ q) p (listed t) (subst (λ x. Member p (listed x)) w m)))
by_number_member listed i (t ∷ ts) (suc k) u p e m =
    let z : suc i + k ≡ i + suc k = omega arith in
    subst (λ j. Member (j ∷ p) (by_number listed i (t ∷ ts))) z (member-right ((suc i + k) ∷ p) (map (λ q. i ∷ q) (listed t)) (by_number listed (suc i) ts) (by_number_member listed (suc i) ts k u p e m))

-- a level has the paths of its length
level_has : (n : ℕ) (t : RawTerm) (path : List ℕ) → Member path (level n t) → (length path ≡ n) × IsSome (at_path t path)
level_has zero t path (inl e) = (ap length e, subst (λ p. IsSome (at_path t p)) (sym e) refl)
level_has zero t path (inr m) = absurd m
level_has (suc n) t path m =
    let b : Behind (level n) 1 (list_of (args_of t)) path = by_number_has (level n) 1 (list_of (args_of t)) path m in
    let (l, s) = level_has n b.term b.rest b.stands in
    let z : 1 + b.number ≡ suc b.number = omega arith in
    let e : path ≡ suc b.number ∷ b.rest = b.is ∙ ap (λ j. j ∷ b.rest) z in
    (ap length e ∙ ap suc l, subst (λ p. IsSome (at_path t p)) (sym e) (subst (λ o. IsSome (option_and_then (λ u. at_path u b.rest) o)) (sym b.found) s))

level_member : (n : ℕ) (t : RawTerm) (path : List ℕ) → length path ≡ n → IsSome (at_path t path) → Member path (level n t)
level_member zero t [] e s = inl refl
level_member zero t (i ∷ p) e s = absurd (omega (arith, e))
level_member (suc n) t [] e s = absurd (omega (arith, e))
level_member (suc n) t (zero ∷ p) e s = cc
level_member (suc n) t (suc k ∷ p) e s = by_option (λ u. level_member n u p) (slice_get (list_of (args_of t)) k) refl s
  where
    by_option : ((u : RawTerm) → length p ≡ n → IsSome (at_path u p) → Member p (level n u)) → (o : Option RawTerm) → slice_get (list_of (args_of t)) k ≡ o → IsSome (option_and_then (λ u. at_path u p) o) → Member (suc k ∷ p) (level (suc n) t)
    by_option r None h s = cc
    by_option r (Some u) h s =
        let z : 1 + k ≡ suc k = omega arith in
        let l : length p ≡ n = omega (arith, e) in
        subst (λ j. Member (j ∷ p) (level (suc n) t)) z (by_number_member (level n) 1 (list_of (args_of t)) k u p h (r u l s))

-- a path goes at most as deep as the term
inside : (ts : RawTerms) (k : ℕ) (u : RawTerm) → slice_get (list_of ts) k ≡ Some u → height u ≤ highest ts
inside nil k u e = cc
inside (cons t ts) zero u e = let w : height t ≡ height u = ap height (let x : t ≡ u = cc in x) in omega (arith, w)
inside (cons t ts) (suc k) u e = omega (arith, inside ts k u e)

pub lower : (t : RawTerm) (k : ℕ) (u : RawTerm) → slice_get (list_of (args_of t)) k ≡ Some u → height u < height t
lower (numeral n) k u e = cc
lower (quoted q) k u e = cc
lower (variable x) k u e = cc
lower (apply f ts) k u e = omega (arith, inside ts k u e)

pub some_height : (t : RawTerm) → 0 < height t
some_height (numeral n) = omega arith
some_height (quoted q) = omega arith
some_height (variable x) = omega arith
some_height (apply f ts) = omega arith

deep : (path : List ℕ) (t : RawTerm) → IsSome (at_path t path) → length path < height t
deep [] t s = some_height t
deep (zero ∷ p) t s = cc
deep (suc k ∷ p) t s = by_option (λ u. deep p u) (slice_get (list_of (args_of t)) k) refl s
  where
    by_option : ((u : RawTerm) → IsSome (at_path u p) → length p < height u) → (o : Option RawTerm) → slice_get (list_of (args_of t)) k ≡ o → IsSome (option_and_then (λ u. at_path u p) o) → suc (length p) < height t
    by_option r None h s = cc
    by_option r (Some u) h s = omega (arith, r u s, lower t k u h)

-- the levels from n on
levels_has : (k n : ℕ) (t : RawTerm) (path : List ℕ) → Member path (levels k n t) → (n ≤ length path) × IsSome (at_path t path)
levels_has zero n t path m = absurd m
levels_has (suc k) n t path m = split (member-append path (level n t) (levels k (suc n) t) m) (levels_has k (suc n) t path)
  where
    split : Member path (level n t) ⊎ Member path (levels k (suc n) t) → (Member path (levels k (suc n) t) → (suc n ≤ length path) × IsSome (at_path t path)) → (n ≤ length path) × IsSome (at_path t path)
    split (inl m) r = let (l, s) = level_has n t path m in (omega (arith, l), s)
    split (inr m) r = let (l, s) = r m in (omega (arith, l), s)

levels_member : (k n : ℕ) (t : RawTerm) (path : List ℕ) → n ≤ length path → length path < n + k → IsSome (at_path t path) → Member path (levels k n t)
levels_member zero n t path l h s = absurd (omega arith)
levels_member (suc k) n t path l h s = split (λ a b. levels_member k (suc n) t path a b s) (cases_lt n (length path))
  where
    split : (suc n ≤ length path → length path < suc n + k → Member path (levels k (suc n) t)) → (n < length path) ⊎ (length path ≤ n) → Member path (level n t ++ levels k (suc n) t)
    split r (inl a) = member-right path (level n t) (levels k (suc n) t) (r (omega arith) (omega arith))
    split r (inr a) = member-left path (level n t) (levels k (suc n) t) (level_member n t path (omega arith) s)

-- no path stands twice
by_number_once : (listed : RawTerm → List (List ℕ)) → ((t : RawTerm) → Distinct (listed t)) → (i : ℕ) (ts : List RawTerm) → Distinct (by_number listed i ts)
by_number_once listed each i [] = tt
by_number_once listed each i (t ∷ ts) =
    distinct-append (map (λ p. i ∷ p) (listed t)) (by_number listed (suc i) ts) (distinct-map (λ p. i ∷ p) (listed t) (λ x y m n e. cc) (each t)) (by_number_once listed each (suc i) ts) (λ x m n. apart x (map-member (λ p. i ∷ p) x (listed t) m) (by_number_has listed (suc i) ts x n))
  where
    apart : (x : List ℕ) → (p : List ℕ) × (x ≡ i ∷ p) × Member p (listed t) → Behind listed (suc i) ts x → ⊥
    apart x (p, e, m) b =
        let w : i ∷ p ≡ (suc i + b.number) ∷ b.rest = sym e ∙ b.is in
        let v : i ≡ suc i + b.number = cc in
        omega (arith, v)

level_once : (n : ℕ) (t : RawTerm) → Distinct (level n t)
level_once zero t = ((λ m. m), tt)
level_once (suc n) t = by_number_once (level n) (level_once n) 1 (list_of (args_of t))

levels_once : (k n : ℕ) (t : RawTerm) → Distinct (levels k n t)
levels_once zero n t = tt
levels_once (suc k) n t =
    distinct-append (level n t) (levels k (suc n) t) (level_once n t) (levels_once k (suc n) t)
    (λ path a b. let l = (level_has n t path a).0 in let m = (levels_has k (suc n) t path b).0 in omega (arith, l, m))

pub each_path : (t : RawTerm) → AllOnce (λ path. IsSome (at_path t path)) (paths t)
each_path t = record {
  once = levels_once (height t) 0 t;
  all = λ path. (
    λ m. (levels_has (height t) 0 t path m).1,
    λ s. levels_member (height t) 0 t path (omega arith) (let d : length path < height t = deep path t s in omega arith) s,
  );
}

-- paths of one length, and longer ones behind them
one_length : (n : ℕ) (xs ys : List (List ℕ)) → ((path : List ℕ) → Member path xs → length path ≡ n) → Lengthen n ys → Lengthen n (xs ++ ys)
one_length n [] ys h r = r
one_length n (x ∷ xs) ys h r =
    let e : length x ≡ n = h x (inl refl) in
    (omega arith, subst (λ m. Lengthen m (xs ++ ys)) (sym e) (one_length n xs ys (λ path m. h path (inr m)) r))

from_longer : (n : ℕ) (ys : List (List ℕ)) → Lengthen (suc n) ys → Lengthen n ys
from_longer n [] r = tt
from_longer n (y ∷ ys) r = let l = r.0 in (omega (arith, l), r.1)

levels_lengthen : (k n : ℕ) (t : RawTerm) → Lengthen n (levels k n t)
levels_lengthen zero n t = tt
levels_lengthen (suc k) n t = one_length n (level n t) (levels k (suc n) t) (λ path m. (level_has n t path m).0) (from_longer n (levels k (suc n) t) (levels_lengthen k (suc n) t))

pub paths_lengthening : (t : RawTerm) → Lengthen 0 (paths t)
paths_lengthening t = levels_lengthen (height t) 0 t
