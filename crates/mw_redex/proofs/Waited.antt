-- Ways that wait, taken from the front while those on from them come to wait behind, give the paths by level.
use Rattle.std.specs.Prelude.{◌≡◌, ◌+◌, ◌≤◌, ℕ, zero, suc, max, List, [], ◌∷◌, ◌++◌, map, length, refl}
use Rattle.std.specs.List.{flat_map}
use Rattle.std.proofs.Common.{ap, sym, ◌∙◌, arith}
use Rattle.std.proofs.lemmas.List.{append-nil, append_assoc, map-append, map-id}
use Rattle.std.proofs.lemmas.List.Concat.{flat_map-append}
use Rattle.mw_logic.specs.Term.{RawTerm, numeral, quoted, variable, apply, RawTerms, nil, cons}
use Rattle.mw_logic.specs.Terms.{list_of, args_of}
use Rattle.mw_logic.specs.NormalForm.{height, highest}
use Rattle.mw_redex.specs.Paths.{by_number, level, levels, paths}
use Rattle.mw_redex.specs.Waiting.{Way, ways_to, ways_on, parts_of, parts_of_all, parts_behind, coming, to_come}
use Rattle.mw_redex.proofs.Levels.{some_height}

-- the ways on from all
abbrev all_on : List Way → List Way
all_on ws = flat_map ways_on ws

parts_behind-append : (xs ys : List Way) → parts_behind (xs ++ ys) ≡ parts_behind xs + parts_behind ys
parts_behind-append [] ys = omega arith
parts_behind-append (x ∷ xs) ys = omega (arith, parts_behind-append xs ys)

parts_to : (path : List ℕ) (i : ℕ) (ts : RawTerms) → parts_behind (ways_to path i (list_of ts)) ≡ parts_of_all ts
parts_to path i nil = refl
parts_to path i (cons t ts) = ap (λ n. parts_of t + n) (parts_to path (suc i) ts)

-- a term's parts are itself and those of its arguments
parts_on : (w : Way) → parts_of w.1 ≡ suc (parts_behind (ways_on w))
parts_on (path, t) = by_top t
  where
    by_top : (t : RawTerm) → parts_of t ≡ suc (parts_behind (ways_to path 1 (list_of (args_of t))))
    by_top (numeral n) = refl
    by_top (quoted q) = refl
    by_top (variable x) = refl
    by_top (apply f ts) = ap suc (sym (parts_to path 1 ts))

-- The first is taken, and the ways on from it come to wait.
pub to_come-first : (w : Way) (ws : List Way) → to_come (w ∷ ws) ≡ w.0 ∷ to_come (ws ++ ways_on w)
to_come-first w ws =
    let e : parts_of w.1 + parts_behind ws ≡ suc (parts_behind (ws ++ ways_on w)) = omega (arith, parts_on w, parts_behind-append ws (ways_on w)) in
    ap (λ n. coming n (w ∷ ws)) e

-- so all that wait are taken, and then all ways on from them wait
coming-past : (n : ℕ) (xs ys : List Way) → coming (length xs + n) (xs ++ ys) ≡ map (λ w. w.0) xs ++ coming n (ys ++ all_on xs)
coming-past n [] ys =
    let z : 0 + n ≡ n = omega arith in
    ap (λ m. coming m ys) z ∙ ap (coming n) (sym (append-nil ys))
coming-past n (x ∷ xs) ys =
    let z : suc (length xs) + n ≡ suc (length xs + n) = omega arith in
    ap (λ m. coming m (x ∷ (xs ++ ys))) z
    ∙ ap (λ r. x.0 ∷ r) (ap (coming (length xs + n)) (append_assoc xs ys (ways_on x)) ∙ coming-past n xs (ys ++ ways_on x) ∙ ap (λ r. map (λ w. w.0) xs ++ coming n r) (append_assoc ys (ways_on x) (all_on xs)))

parts_behind-on : (xs : List Way) → parts_behind xs ≡ length xs + parts_behind (all_on xs)
parts_behind-on [] = omega arith
parts_behind-on (x ∷ xs) = omega (arith, parts_on x, parts_behind-on xs, parts_behind-append (ways_on x) (all_on xs))

-- the paths that go n further than those that wait
abbrev further : ℕ → List Way → List (List ℕ)
further n xs = flat_map (λ w. map (λ path. w.0 ++ path) (level n w.1)) xs

further-zero : (xs : List Way) → further 0 xs ≡ map (λ w. w.0) xs
further-zero [] = refl
further-zero (x ∷ xs) = ap (λ r. (x.0 ++ []) ∷ r) (further-zero xs) ∙ ap (λ p. p ∷ map (λ (w : Way). w.0) xs) (append-nil x.0)

behind_number : (p : List ℕ) (i : ℕ) (qs : List (List ℕ)) → map (λ q. p ++ q) (map (λ q. i ∷ q) qs) ≡ map (λ q. (p ++ i ∷ []) ++ q) qs
behind_number p i [] = refl
behind_number p i (q ∷ qs) = ap (λ x. x ∷ map (λ r. p ++ r) (map (λ r. i ∷ r) qs)) (sym (append_assoc p (i ∷ []) q)) ∙ ap (λ r. ((p ++ i ∷ []) ++ q) ∷ r) (behind_number p i qs)

further-numbers : (n : ℕ) (p : List ℕ) (i : ℕ) (ts : List RawTerm) → map (λ q. p ++ q) (by_number (level n) i ts) ≡ further n (ways_to p i ts)
further-numbers n p i [] = refl
further-numbers n p i (t ∷ ts) =
    map-append (λ q. p ++ q) (map (λ q. i ∷ q) (level n t)) (by_number (level n) (suc i) ts)
    ∙ ap (λ r. r ++ map (λ q. p ++ q) (by_number (level n) (suc i) ts)) (behind_number p i (level n t))
    ∙ ap (λ r. map (λ q. (p ++ i ∷ []) ++ q) (level n t) ++ r) (further-numbers n p (suc i) ts)

further-suc : (n : ℕ) (xs : List Way) → further (suc n) xs ≡ further n (all_on xs)
further-suc n [] = refl
further-suc n (x ∷ xs) =
    ap (λ r. r ++ further (suc n) xs) (further-numbers n x.0 1 (list_of (args_of x.1))) ∙ ap (λ r. further n (ways_on x) ++ r) (further-suc n xs)
    ∙ sym (flat_map-append (λ (w : Way). map (λ path. w.0 ++ path) (level n w.1)) (ways_on x) (all_on xs))

-- k levels, from the n-th on
abbrev all_further : ℕ → ℕ → List Way → List (List ℕ)
all_further zero n xs = []
all_further (suc k) n xs = further n xs ++ all_further k (suc n) xs

all_further-on : (k n : ℕ) (xs : List Way) → all_further k (suc n) xs ≡ all_further k n (all_on xs)
all_further-on zero n xs = refl
all_further-on (suc k) n xs = ap (λ r. r ++ all_further k (suc (suc n)) xs) (further-suc n xs) ∙ ap (λ r. further n (all_on xs) ++ r) (all_further-on k (suc n) xs)

-- how deep terms go that ways end at
abbrev tallest : List Way → ℕ
tallest [] = 0
tallest (w ∷ ws) = max (height w.1) (tallest ws)

tallest-append : (xs ys : List Way) → tallest (xs ++ ys) ≡ max (tallest xs) (tallest ys)
tallest-append [] ys = omega arith
tallest-append (x ∷ xs) ys = omega (arith, tallest-append xs ys)

tallest-to : (path : List ℕ) (i : ℕ) (ts : RawTerms) → tallest (ways_to path i (list_of ts)) ≡ highest ts
tallest-to path i nil = refl
tallest-to path i (cons t ts) = ap (λ n. max (height t) n) (tallest-to path (suc i) ts)

tallest-one : (w : Way) → suc (tallest (ways_on w)) ≡ height w.1
tallest-one (path, t) = by_top t
  where
    by_top : (t : RawTerm) → suc (tallest (ways_to path 1 (list_of (args_of t)))) ≡ height t
    by_top (numeral n) = refl
    by_top (quoted q) = refl
    by_top (variable x) = refl
    by_top (apply f ts) = omega (arith, tallest-to path 1 ts)

tallest-on : (k : ℕ) (xs : List Way) → tallest xs ≤ suc k → tallest (all_on xs) ≤ k
tallest-on k [] h = omega arith
tallest-on k (x ∷ xs) h =
    let r : tallest (all_on xs) ≤ k = tallest-on k xs (omega arith) in
    omega (arith, tallest-one x, tallest-append (ways_on x) (all_on xs), r, h)

none_waits : (xs : List Way) → tallest xs ≤ 0 → xs ≡ []
none_waits [] h = refl
none_waits (x ∷ xs) h = absurd (omega (arith, some_height x.1, h))

by_level : (k : ℕ) (xs : List Way) → tallest xs ≤ k → to_come xs ≡ all_further k 0 xs
by_level zero xs h = ap to_come (none_waits xs h)
by_level (suc k) xs h =
    let on : List Way = all_on xs in
    ap (λ n. coming n xs) (parts_behind-on xs) ∙ ap (coming (length xs + parts_behind on)) (sym (append-nil xs)) ∙ coming-past (parts_behind on) xs []
    ∙ ap (λ r. r ++ to_come on) (sym (further-zero xs)) ∙ ap (λ r. further 0 xs ++ r) (by_level k on (tallest-on k xs h) ∙ sym (all_further-on k 0 xs))

-- from the top of a term
from_top : (k n : ℕ) (t : RawTerm) → all_further k n (([], t) ∷ []) ≡ levels k n t
from_top zero n t = refl
from_top (suc k) n t =
    ap (λ r. r ++ all_further k (suc n) (([], t) ∷ [])) (append-nil (map (λ q. [] ++ q) (level n t)) ∙ map-id (level n t)) ∙ ap (λ r. level n t ++ r) (from_top k (suc n) t)

pub to_come-top : (t : RawTerm) → to_come (([], t) ∷ []) ≡ paths t
to_come-top t = by_level (height t) (([], t) ∷ []) (omega arith) ∙ from_top (height t) 0 t
