-- What is still to come of a multiset: its parts, by numbers of each different element.
use Rattle.std.specs.Prelude.{◌≡◌, ℕ, ◌/◌, ◌%◌, List, [], ◌∷◌, map, refl, Option, Some, None, Bool, true, false, cond, nat_eq}
use Rattle.std.specs.Coded.{Coded, coded_ℕ, coded_list, coded×, code_by}
use Rattle.mw_logic.specs.Term.{RawTerm, RawTerms, nil, cons}
use Rattle.mw_logic.specs.TermCode.{coded_terms}
use Rattle.mw_split.specs.Splits.{Splits}
use Rattle.mw_arguments.specs.Bags.{spread, runs, heads, numbers}
use Rattle.mw_matching.specs.Multisets.{is_within, term_at, without, part_of, rest_of}

-- elements, and cuts of them
pub record Cuts : Type 0 where
  pub elements : RawTerms
  pub remaining : List (List ℕ)

abbrev pub coded_cuts : Coded Cuts
coded_cuts = code_by (RawTerms × List (List ℕ)) (coded× coded_terms (coded_list (coded_list coded_ℕ))) (λ h. (h.elements, h.remaining)) (λ p. record { elements = p.0; remaining = p.1 }) (λ _. refl)

-- the cut that splits stand at, and those behind it
abbrev pub with_current : Option (List ℕ) → List (List ℕ) → List (List ℕ)
with_current None cs = []
with_current (Some c) cs = c ∷ cs

abbrev pub cuts_left : Splits → List (List ℕ)
cuts_left s = with_current s.current s.remaining

-- the terms and the numbers are the runs of their spread
pub record AreRuns (ds : List RawTerm) (ns : List ℕ) : Type 0 where
  pub terms : ds ≡ heads (runs (spread ds ns))
  pub numbers_are : ns ≡ numbers (runs (spread ds ns))

-- the element at an index stands among the others nowhere
abbrev pub IsAlone : RawTerms → ℕ → Type 0
IsAlone zs n = is_within (cons (term_at n zs) nil) (without n zs) ≡ false

-- m divides each number
abbrev pub are_divided : ℕ → List ℕ → Bool
are_divided m [] = true
are_divided m (n ∷ ns) = cond (nat_eq (n % m) 0) (are_divided m ns) false

-- how often each different element stands, by m
abbrev pub by_number : ℕ → RawTerms → List ℕ
by_number m zs = map (λ n. n / m) (numbers (runs zs))

-- the part of which zs are m equal ones, and what it leaves
pub record AreDivided (m : ℕ) (zs part rest : RawTerms) : Type 0 where
  pub divided : are_divided m (numbers (runs zs)) ≡ true
  pub part_is : part ≡ part_of zs (by_number m zs)
  pub rest_is : rest ≡ rest_of zs (by_number m zs)
