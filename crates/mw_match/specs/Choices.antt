-- A pattern's arguments that become one element each, one after another: each takes one of a term's arguments that are left.
use Rattle.std.specs.Prelude.{◌≡◌, ℕ, suc, List, [], ◌∷◌, flat_map, Bool, true, false, cond, nat_lt, Option, Some, None, ⊤}
use Rattle.mw_logic.specs.Term.{RawTerm, RawTerms, nil, cons}
use Rattle.mw_logic.specs.Signature.{Signature}
use Rattle.mw_arguments.specs.Bags.{same}
use Rattle.mw_matching.specs.Found.{Values, is_among, is_single, value_of, found}
use Rattle.mw_matching.specs.Patterns.{is_rigid}
use Rattle.mw_solving.specs.Inside.{Entry}

-- The arguments that have none of these numbers, each with its own; i is that of the first.
abbrev pub free : ℕ → List ℕ → RawTerms → List (ℕ × RawTerm)
free i ks nil = []
free i ks (cons t ts) = cond (is_among i ks) (free (suc i) ks ts) ((i, t) ∷ free (suc i) ks ts)

abbrev pub is_again : Option RawTerm → RawTerm → Bool
is_again None t = false
is_again (Some u) t = same u t

-- of equal neighbours the first, where this term stands before them
abbrev pub firsts : Option RawTerm → List (ℕ × RawTerm) → List (ℕ × RawTerm)
firsts o [] = []
firsts o (z ∷ zs) = cond (is_again o z.1) (firsts (Some z.1) zs) (z ∷ firsts (Some z.1) zs)

-- a number among others that rise
abbrev pub put : ℕ → List ℕ → List ℕ
put n [] = n ∷ []
put n (k ∷ ks) = cond (nat_lt n k) (n ∷ k ∷ ks) (k ∷ put n ks)

-- The matches of patterns by arguments that are left, of equal ones the first, where those of the numbers ks are taken: each with the numbers that are taken then.
module _ (sig : Signature) (single : List (List ℕ)) (args : RawTerms) where
  abbrev pub picked : RawTerms → List ℕ → Values → List (List ℕ × Values)
  picked nil ks vs = (ks, vs) ∷ []
  picked (cons q qs) ks vs = flat_map (λ (z : ℕ × RawTerm). flat_map (λ us. picked qs (put z.0 ks) us) (found sig single q z.1 vs)) (firsts None (free 1 ks args))

-- what is taken, with its values
abbrev pub part_entry : List ℕ × Values → Entry
part_entry c = (Some c.0, c.1)

-- each of the patterns is no variable and becomes one element
abbrev pub ArePicked : Signature → List (List ℕ) → ℕ → RawTerms → Type 0
ArePicked sig single f nil = ⊤
ArePicked sig single f (cons q qs) = ((vs : Values) → value_of q vs ≡ None) × (is_rigid sig (is_single single) f q ≡ true) × ArePicked sig single f qs
