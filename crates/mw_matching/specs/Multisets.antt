-- Parts of multisets of terms, as lists in order.
use Rattle.std.specs.Prelude.{ℕ, zero, suc, ◌+◌, ◌-◌, ◌/◌, List, [], ◌∷◌, map, Bool, true, false, cond, not, nat_eq}
use Rattle.mw_logic.specs.Term.{RawTerm, numeral, variable, RawTerms, nil, cons}
use Rattle.mw_split.specs.Cuts.{bag_cuts}
use Rattle.mw_arguments.specs.Bags.{same, spread, runs, heads, numbers}

-- ts stand in zs, in their order; and what is left
abbrev pub is_within : RawTerms → RawTerms → Bool
is_within nil zs = true
is_within (cons t ts) nil = false
is_within (cons t ts) (cons z zs) = cond (same t z) (is_within ts zs) (is_within (cons t ts) zs)

abbrev pub left_behind : RawTerms → RawTerms → RawTerms
left_behind nil zs = zs
left_behind (cons t ts) nil = nil
left_behind (cons t ts) (cons z zs) = cond (same t z) (left_behind ts zs) (cons z (left_behind (cons t ts) zs))

-- by index
abbrev pub term_at : ℕ → RawTerms → RawTerm
term_at n nil = numeral 0
term_at zero (cons t ts) = t
term_at (suc n) (cons t ts) = term_at n ts

abbrev pub without : ℕ → RawTerms → RawTerms
without n nil = nil
without zero (cons t ts) = ts
without (suc n) (cons t ts) = cons t (without n ts)

-- the element of this index differs from the one before
abbrev pub is_new : RawTerms → ℕ → Bool
is_new zs zero = true
is_new zs (suc i) = not (same (term_at (suc i) zs) (term_at i zs))

-- the indices of different elements, from i on, among so many
abbrev pub news : RawTerms → ℕ → ℕ → List ℕ
news zs i zero = []
news zs i (suc count) = cond (is_new zs i) (i ∷ news zs (suc i) count) (news zs (suc i) count)

-- how often a variable stands among patterns, and at least once
abbrev pub is_variable : RawTerm → RawTerm → Bool
is_variable (variable x) (variable y) = nat_eq x.sort y.sort
is_variable p q = false

abbrev pub times_in : RawTerm → RawTerms → ℕ
times_in q nil = 0
times_in q (cons p ps) = cond (is_variable q p) 1 0 + times_in q ps

abbrev pub at_least_one : ℕ → ℕ
at_least_one zero = 1
at_least_one (suc n) = suc n

abbrev pub times : RawTerm → RawTerms → ℕ
times q ps = at_least_one (times_in q ps)

-- numbers less what is taken of each
abbrev pub numbers_without : List ℕ → List ℕ → List ℕ
numbers_without [] c = []
numbers_without (n ∷ ns) [] = n ∷ numbers_without ns []
numbers_without (n ∷ ns) (m ∷ c) = (n - m) ∷ numbers_without ns c

-- a part by how many it has of each different element, and what it leaves
abbrev pub part_of : RawTerms → List ℕ → RawTerms
part_of zs c = spread (heads (runs zs)) c

abbrev pub rest_of : RawTerms → List ℕ → RawTerms
rest_of zs c = spread (heads (runs zs)) (numbers_without (numbers (runs zs)) c)

abbrev pub behind_first : {X : Type 0} → List X → List X
behind_first [] = []
behind_first (x ∷ xs) = xs

-- Parts of which there are m equal ones beside each other; the first one, which is empty, only where there is an identity.
abbrev pub cuts_of : ℕ → RawTerms → List (List ℕ)
cuts_of m zs = bag_cuts (map (λ n. n / m) (numbers (runs zs))) 2

abbrev pub parts : Bool → ℕ → RawTerms → List (List ℕ)
parts e m zs = cond e (cuts_of m zs) (behind_first (cuts_of m zs))
