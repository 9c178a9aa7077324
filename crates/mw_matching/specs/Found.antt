-- The matches of a pattern as an enumeration finds them, one argument after another: a variable that has its value takes
-- its elements, an argument that is one element takes one, the last one takes all that is left, and a variable that
-- stands m times takes a part of which there are m.
use Rattle.std.specs.Prelude.{ℕ, zero, suc, ◌-◌, ◌^◌, List, [], ◌∷◌, ◌++◌, flat_map, Bool, true, false, not, ◌&&◌, ◌||◌, cond, nat_eq, nat_lt, Option, Some, None, is_some, unwrap_or, slice_get}
use Rattle.mw_logic.specs.Term.{RawTerm, numeral, quoted, variable, apply, RawTerms, nil, cons}
use Rattle.mw_logic.specs.Terms.{args_of, front, skip}
use Rattle.mw_logic.specs.Signature.{Signature, Identity}
use Rattle.mw_logic.specs.Kinds.{is_successor}
use Rattle.mw_logic.specs.Parts.{is_assoc, number_of_terms}
use Rattle.mw_logic.specs.NormalForm.{is_comm, identity_of, is_identity, elements, rebuilt}
use Rattle.mw_arguments.specs.Pieces.{is_backed}
use Rattle.mw_arguments.specs.Bags.{same}
use Rattle.mw_arguments.specs.Splits.{orders}
use Rattle.mw_matching.specs.Patterns.{is_rigid}
use Rattle.mw_matching.specs.Multisets.{is_within, left_behind, term_at, without, news, times, part_of, rest_of, parts}

abbrev pub Values : Type 0
Values = List RawTerm

-- f stands on top, on arguments
abbrev pub stands : ℕ → RawTerm → Bool
stands f (numeral n) = false
stands f (quoted q) = false
stands f (variable x) = false
stands f (apply g nil) = false
stands f (apply g (cons t ts)) = nat_eq f g

-- t is one element under f
abbrev pub is_element : Option Identity → ℕ → RawTerm → Bool
is_element e f t = not (is_identity e t) && not (stands f t)

abbrev pub is_element_under_all : Signature → List ℕ → RawTerm → Bool
is_element_under_all sig [] t = true
is_element_under_all sig (f ∷ fs) t = is_element (identity_of sig f) f t && is_element_under_all sig fs t

abbrev pub is_among : ℕ → List ℕ → Bool
is_among f [] = false
is_among f (g ∷ gs) = nat_eq f g || is_among f gs

-- Of each position the operators under which what stands there has to be one element; behind the list there are none.
abbrev pub operators_at : List (List ℕ) → ℕ → List ℕ
operators_at single i = unwrap_or (slice_get single i) []

abbrev pub is_single : List (List ℕ) → ℕ → ℕ → Bool
is_single single f i = is_among f (operators_at single i)

-- t may stand at position i
abbrev pub fits : Signature → List (List ℕ) → ℕ → RawTerm → Bool
fits sig single i t = is_element_under_all sig (operators_at single i) t

-- f is on top
abbrev pub has_top : ℕ → RawTerm → Bool
has_top f (numeral n) = false
has_top f (quoted q) = false
has_top f (variable x) = false
has_top f (apply g ts) = nat_eq f g

-- `s_` is on top, or the term is a number above 0 that `s_` gives; and what it stands on
abbrev pub has_before : ℕ → RawTerm → Bool
has_before f (numeral n) = nat_lt 0 n && nat_lt n (2 ^ 128)
has_before f (quoted q) = false
has_before f (variable x) = false
has_before f (apply g ts) = nat_eq f g

abbrev pub before : RawTerm → RawTerms
before (numeral n) = cons (numeral (n - 1)) nil
before (quoted q) = nil
before (variable x) = nil
before (apply g ts) = ts

-- the value of a variable
abbrev pub value_of : RawTerm → Values → Option RawTerm
value_of (numeral n) vs = None
value_of (quoted q) vs = None
value_of (variable x) vs = slice_get vs x.sort
value_of (apply f ts) vs = None

abbrev pub first_term : RawTerms → RawTerm
first_term nil = numeral 0
first_term (cons t ts) = t

abbrev pub are_none : RawTerms → Bool
are_none nil = true
are_none (cons t ts) = false

-- count numbers from n on
abbrev pub numbers_from : ℕ → ℕ → List ℕ
numbers_from n zero = []
numbers_from n (suc count) = n ∷ numbers_from (suc n) count

-- how many of n elements a piece in front may have; none, where there is an identity
abbrev pub fronts : Bool → ℕ → List ℕ
fronts e n = cond e (numbers_from 0 (suc n)) (numbers_from 1 n)

module _ (sig : Signature) (single : List (List ℕ)) where
  -- a position that has a value, or none yet
  abbrev pub placed : ℕ → RawTerm → Values → Option RawTerm → List Values
  placed i t vs (Some u) = cond (same u t) (vs ∷ []) []
  placed i t vs None = cond (fits sig single i t) ((vs ++ t ∷ []) ∷ []) []

  abbrev mutual
    pub found : RawTerm → RawTerm → Values → List Values
    found (numeral n) t vs = cond (same (numeral n) t) (vs ∷ []) []
    found (quoted q) t vs = cond (same (quoted q) t) (vs ∷ []) []
    found (variable x) t vs = placed x.sort t vs (slice_get vs x.sort)
    found (apply f qs) t vs =
        cond (is_assoc sig f)
        (cond (is_comm sig f) (found_bag f qs (elements (identity_of sig f) f t) vs) (found_row f qs (elements (identity_of sig f) f t) vs))
        (cond (is_comm sig f) (cond (has_top f t) (found_orders qs (orders (args_of t)) vs) [])
        (cond (is_successor sig f) (cond (has_before f t) (found_all qs (before t) vs) []) (cond (has_top f t) (found_all qs (args_of t) vs) [])))

    -- arguments by terms, one by one
    pub found_all : RawTerms → RawTerms → Values → List Values
    found_all nil nil vs = vs ∷ []
    found_all nil (cons t ts) vs = []
    found_all (cons q qs) nil vs = []
    found_all (cons q qs) (cons t ts) vs = flat_map (λ us. found_all qs ts us) (found q t vs)

    -- in each order
    pub found_orders : RawTerms → List RawTerms → Values → List Values
    found_orders nil tss vs = []
    found_orders (cons q qs) tss vs = flat_map (λ ts. flat_map (λ us. found_all qs (skip 1 ts) us) (found q (first_term ts) vs)) tss

    -- each pattern takes the first of the elements that are left
    pub found_row : ℕ → RawTerms → RawTerms → Values → List Values
    found_row f nil nil vs = vs ∷ []
    found_row f nil (cons z zs) vs = []
    found_row f (cons q qs) zs vs =
        cond (is_rigid sig (is_single single) f q)
        (cond (are_none zs) [] (flat_map (λ us. found_row f qs (skip 1 zs) us) (found q (first_term zs) vs)))
        (cond (are_none qs)
        (cond (is_backed (identity_of sig f) zs) (found q (rebuilt (identity_of sig f) f zs) vs) [])
        (flat_map (λ n. flat_map (λ us. found_row f qs (skip n zs) us) (found q (rebuilt (identity_of sig f) f (front n zs)) vs)) (fronts (is_some (identity_of sig f)) (number_of_terms zs))))

    -- each pattern takes a share of the multiset
    pub found_bag : ℕ → RawTerms → RawTerms → Values → List Values
    found_bag f nil nil vs = vs ∷ []
    found_bag f nil (cons z zs) vs = []
    found_bag f (cons q qs) zs vs =
        cond (is_some (value_of q vs))
        (cond (is_within (elements (identity_of sig f) f (unwrap_or (value_of q vs) q)) zs) (found_bag f qs (left_behind (elements (identity_of sig f) f (unwrap_or (value_of q vs) q)) zs) vs) [])
        (cond (is_rigid sig (is_single single) f q)
        (flat_map (λ n. flat_map (λ us. found_bag f qs (without n zs) us) (found q (term_at n zs) vs)) (news zs 0 (number_of_terms zs)))
        (cond (are_none qs)
        (cond (is_backed (identity_of sig f) zs) (found q (rebuilt (identity_of sig f) f zs) vs) [])
        (flat_map (λ c. flat_map (λ us. found_bag f qs (rest_of zs c) us) (found q (rebuilt (identity_of sig f) f (part_of zs c)) vs)) (parts (is_some (identity_of sig f)) (times q (cons q qs)) zs))))
