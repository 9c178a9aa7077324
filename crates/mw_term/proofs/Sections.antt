-- What is known of sections of a list.
use Rattle.std.proofs.Common.{◌≡◌, ◌∙◌, ◌<◌, ◌≤◌, ◌-◌, ◌^◌, ℕ, List, [], ◌++◌, ◌+◌, length, drop, ap, sym, arith}
use Rattle.std.specs.Prelude.{slice_range, max}
use Rattle.std.specs.Int.Bits.{bit_or}
use Rattle.std.specs.Int.{bit_at}
use Rattle.std.proofs.lemmas.Nat.Bits.{bit_at_or, same_from_bits}
use Rattle.std.proofs.lemmas.List.{length-drop, length-take}
use Rattle.std.proofs.lemmas.List.Folds.{drop_split}
use Rattle.mw_logic.specs.Term.{RawTerm, RawTerms}
use Rattle.mw_logic.specs.Terms.{terms_of}
use Rattle.mw_logic.specs.NormalForm.{highest}
use Rattle.mw_logic.specs.Parts.{number_of_terms}
use Rattle.mw_term.specs.Facts.{facts_of_all, facts_joined}
use Rattle.mw_term.specs.OperatorSets.{remainders_in_all}
use Rattle.mw_term.specs.Sections.{HasAll}
use Rattle.mw_term.specs.Weights.{added_by, added_flat, added_deep, heaviest, heaviest_flat, heaviest_within}
use Rattle.mw_term.specs.declared.facts.Facts.{Facts}
use Rattle.mw_term.proofs.KeptFacts.{number_listed, same_facts, facts-append}

or_enclosed : (a s b t u : ℕ) → t ≡ bit_or a (bit_or s b) → bit_or t u ≡ s → s ≡ t
or_enclosed a s b t u h k = same_from_bits s t of
  where
    of : (i : ℕ) → bit_at s i ≡ bit_at t i
    of i =
        let p = bit_at_or a (bit_or s b) i in let q = bit_at_or s b i in let r = bit_at_or t u i in
        let v : bit_at t i ≡ bit_at (bit_or a (bit_or s b)) i = ap (λ x. bit_at x i) h in
        let w : bit_at (bit_or t u) i ≡ bit_at s i = ap (λ x. bit_at x i) k in omega (arith, p, q, r, v, w)

max_enclosed : (a s b t u : ℕ) → t ≡ max a (max s b) → max t u ≡ s → s ≡ t
max_enclosed a s b t u h k = omega (arith, h, k)

enclosed : (a s b t u : Facts) → t ≡ facts_joined a (facts_joined s b) → facts_joined t u ≡ s → s ≡ t
enclosed a s b t u h k = same_facts _ _ _ _ _ _
    (or_enclosed a.remainders s.remainders b.remainders t.remainders u.remainders (ap (λ (x : Facts). x.remainders) h) (ap (λ (x : Facts). x.remainders) k))
    (max_enclosed a.last s.last b.last t.last u.last (ap (λ (x : Facts). x.last) h) (ap (λ (x : Facts). x.last) k))
    (max_enclosed a.depth s.depth b.depth t.depth u.depth (ap (λ (x : Facts). x.depth) h) (ap (λ (x : Facts). x.depth) k))

-- terms that tell all that they and those behind them tell
pub told_between : (ts : List RawTerm) (from end : ℕ) (a : Facts) → from ≤ end → facts_of_all (terms_of (drop from ts)) ≡ a → HasAll (terms_of (slice_range ts from end)) a
    → facts_of_all (terms_of (slice_range ts from end)) ≡ a
told_between ts from end a h e (us, k) =
    let all : List RawTerm → Facts = λ xs. facts_of_all (terms_of xs) in
    let mid : List RawTerm = slice_range ts from end in
    let sum : a ≡ facts_joined (all []) (facts_joined (all mid) (all (drop end ts))) =
    sym e ∙ ap all (drop_split ts from end h) ∙ facts-append [] (mid ++ drop end ts) ∙ ap (facts_joined (all [])) (facts-append mid (drop end ts)) in
    enclosed (all []) (all mid) (all (drop end ts)) a (facts_of_all us) sum k

-- an operator on eight terms or more outweighs those of a list
pub outweighed : (ts us : RawTerms) (told list : Facts) → facts_of_all ts ≡ told → facts_of_all us ≡ list → 8 ≤ number_of_terms ts → list.depth < 2 ^ 16 - 1
    → bit_at told.remainders 31 ≡ 0 → bit_at list.remainders 31 ≡ 0 → list.depth ≤ number_of_terms ts + told.depth → heaviest us ≤ highest ts + added_by ts
outweighed ts us told list p q l d flat none h =
    let x = ap (λ (f : Facts). f.depth) p in let y = ap (λ (f : Facts). f.depth) q in
    let b : bit_at (remainders_in_all ts) 31 ≡ 0 = ap (λ (f : Facts). bit_at f.remainders 31) p ∙ flat in
    let c : bit_at (remainders_in_all us) 31 ≡ 0 = ap (λ (f : Facts). bit_at f.remainders 31) q ∙ none in
    let w = added_flat (bit_at (remainders_in_all ts) 31) (number_of_terms ts) b l in
    let z = heaviest_flat us c in omega (arith, x, y, d, h, w, z)

pub outweighed_deep : (ts us : RawTerms) (told list : Facts) → facts_of_all ts ≡ told → facts_of_all us ≡ list → list.depth < 2 ^ 16 - 1 → bit_at told.remainders 31 ≡ 1 → list.depth ≤ told.depth
    → heaviest us ≤ highest ts + added_by ts
outweighed_deep ts us told list p q d deep h =
    let x = ap (λ (f : Facts). f.depth) p in let y = ap (λ (f : Facts). f.depth) q in
    let b : bit_at (remainders_in_all ts) 31 ≡ 1 = ap (λ (f : Facts). bit_at f.remainders 31) p ∙ deep in
    let w = added_deep (bit_at (remainders_in_all ts) 31) (number_of_terms ts) b in
    let z = heaviest_within us in omega (arith, x, y, d, h, w, z)

-- how many stand between two places
pub number_shown : (ts : List RawTerm) (from end : ℕ) → from ≤ end → end ≤ length ts → number_of_terms (terms_of (slice_range ts from end)) ≡ end - from
number_shown ts from end h k = number_listed (slice_range ts from end) ∙ length-take (end - from) (drop from ts) ∙ omega (arith, length-drop from ts, h, k)
