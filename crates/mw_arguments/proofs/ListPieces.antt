-- The cuts of a list's length are its cuts into pieces.
use Rattle.std.specs.Prelude.{◌≡◌, ◌+◌, ◌-◌, ◌≤◌, ℕ, zero, suc, List, [], ◌∷◌, length, map, sum, false, refl}
use Rattle.std.proofs.Common.{ap, sym, ◌∙◌, arith}
use Rattle.std.proofs.lemmas.List.Recursion.{is_sum_by}
use Rattle.mw_logic.specs.Term.{RawTerms, nil, cons, join}
use Rattle.mw_logic.specs.Terms.{front, skip}
use Rattle.mw_logic.specs.Parts.{number_of_terms}
use Rattle.mw_split.specs.Lists.{AllOnce}
use Rattle.mw_split.specs.Cuts.{IsListCut}
use Rattle.mw_arguments.specs.Pieces.{joined, AreInOrder, ArePieces, list_pieces}
use Rattle.mw_arguments.proofs.Once.{once_mapped}

total : List ℕ → ℕ
total [] = 0
total (n ∷ ns) = n + total ns

-- it is the sum
is_total : (ns : List ℕ) → total ns ≡ sum ns
unfolding total
is_total ns = is_sum_by total (λ n. n) refl (λ n ns. refl) ns

pub front_join : (ts us : RawTerms) → front (number_of_terms ts) (join ts us) ≡ ts
front_join nil us = refl
front_join (cons t ts) us = ap (cons t) (front_join ts us)

pub skip_join : (ts us : RawTerms) → skip (number_of_terms ts) (join ts us) ≡ us
skip_join nil us = refl
skip_join (cons t ts) us = skip_join ts us

pub join_parts : (n : ℕ) (zs : RawTerms) → join (front n zs) (skip n zs) ≡ zs
join_parts zero zs = refl
join_parts (suc n) nil = refl
join_parts (suc n) (cons t ts) = ap (cons t) (join_parts n ts)

pub number_front : (n : ℕ) (zs : RawTerms) → n ≤ number_of_terms zs → number_of_terms (front n zs) ≡ n
number_front zero zs h = refl
number_front (suc n) nil h = absurd (omega (arith, h))
number_front (suc n) (cons t ts) h = ap suc (number_front n ts (omega (arith, h)))

pub number_skip : (n : ℕ) (zs : RawTerms) → number_of_terms (skip n zs) ≡ number_of_terms zs - n
number_skip zero zs = omega arith
number_skip (suc n) nil = omega arith
number_skip (suc n) (cons t ts) = number_skip n ts ∙ omega arith

pub number_join : (ts us : RawTerms) → number_of_terms (join ts us) ≡ number_of_terms ts + number_of_terms us
number_join nil us = omega arith
number_join (cons t ts) us = let e = number_join ts us in omega (arith, e)

pieces_joined : (zs : RawTerms) (ns : List ℕ) → total ns ≡ number_of_terms zs → joined (list_pieces zs ns) ≡ zs
unfolding total
pieces_joined nil [] h = refl
pieces_joined (cons z zs) [] h = absurd (omega (arith, h))
pieces_joined zs (n ∷ ns) h =
    let b = number_skip n zs in
    ap (join (front n zs)) (pieces_joined (skip n zs) ns (omega (arith, b, h))) ∙ join_parts n zs

pieces_number : (zs : RawTerms) (ns : List ℕ) → length (list_pieces zs ns) ≡ length ns
pieces_number zs [] = refl
pieces_number zs (n ∷ ns) = ap suc (pieces_number (skip n zs) ns)

in_order : (ps : List RawTerms) → AreInOrder false ps
in_order [] = tt
in_order (p ∷ ps) = (refl, in_order ps)

abbrev numbers : List RawTerms → List ℕ
numbers [] = []
numbers (p ∷ ps) = number_of_terms p ∷ numbers ps

numbers_again : (zs : RawTerms) (ns : List ℕ) → total ns ≡ number_of_terms zs → numbers (list_pieces zs ns) ≡ ns
unfolding total
numbers_again zs [] h = refl
numbers_again zs (n ∷ ns) h =
    let b = number_skip n zs in
    rw (number_front n zs (omega (arith, h)), numbers_again (skip n zs) ns (omega (arith, b, h))) refl

numbers_length : (ps : List RawTerms) → length (numbers ps) ≡ length ps
numbers_length [] = refl
numbers_length (p ∷ ps) = ap suc (numbers_length ps)

numbers_total : (ps : List RawTerms) → total (numbers ps) ≡ number_of_terms (joined ps)
unfolding total
numbers_total [] = refl
numbers_total (p ∷ ps) = let e = numbers_total ps in let j = number_join p (joined ps) in omega (arith, e, j)

pieces_again : (ps : List RawTerms) → list_pieces (joined ps) (numbers ps) ≡ ps
pieces_again [] = refl
pieces_again (p ∷ ps) = rw (front_join p (joined ps), skip_join p (joined ps), pieces_again ps) refl

module _ (zs : RawTerms) (k : ℕ) where
  there : (c : List ℕ) → IsListCut (number_of_terms zs) k c → ArePieces false k zs (list_pieces zs c)
  there c h = record { size = pieces_number zs c ∙ h.size; order = in_order (list_pieces zs c); whole = pieces_joined zs c (is_total c ∙ h.adds) }

  back : (ps : List RawTerms) → ArePieces false k zs ps → (c : List ℕ) × IsListCut (number_of_terms zs) k c × (list_pieces zs c ≡ ps)
  back ps a = (
    numbers ps,
    record { size = numbers_length ps ∙ a.size; adds = sym (is_total (numbers ps)) ∙ numbers_total ps ∙ ap number_of_terms a.whole },
    ap (λ zs. list_pieces zs (numbers ps)) (sym a.whole) ∙ pieces_again ps,
  )

  one : (c d : List ℕ) → IsListCut (number_of_terms zs) k c → IsListCut (number_of_terms zs) k d → list_pieces zs c ≡ list_pieces zs d → c ≡ d
  one c d h i e = sym (numbers_again zs c (is_total c ∙ h.adds)) ∙ ap numbers e ∙ numbers_again zs d (is_total d ∙ i.adds)

  pub list_cutting : (cs : List (List ℕ)) → AllOnce (IsListCut (number_of_terms zs) k) cs → AllOnce (ArePieces false k zs) (map (list_pieces zs) cs)
  list_cutting cs a = once_mapped (IsListCut (number_of_terms zs) k) (ArePieces false k zs) (list_pieces zs) cs a there back one
