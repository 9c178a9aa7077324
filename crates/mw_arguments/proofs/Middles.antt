-- What stands at a number among terms, and what numbers choose of them.
use Rattle.std.specs.Prelude.{◌≡◌, ◌+◌, ◌<◌, ℕ, zero, suc, List, [], ◌∷◌, Bool, true, false, nat_eq, Some, slice_get, refl}
use Rattle.std.proofs.Common.{ap, sym, subst, ◌∙◌, arith}
use Rattle.std.proofs.lemmas.Bool.{eqb-true, eq-eqb}
use Rattle.mw_logic.specs.Term.{RawTerm, RawTerms, nil, cons, join}
use Rattle.mw_logic.specs.Terms.{list_of}
use Rattle.mw_logic.specs.Parts.{number_of_terms}
use Rattle.mw_logic.specs.TermOrder.{sorted_terms}
use Rattle.mw_logic.proofs.SortLaws.{join_assoc, sorted_terms-comm, sorted_terms-right}
use Rattle.mw_arguments.specs.Places.{chosen, others, Rise, Follow}

-- t stands among the terms, with k before it
pub record Divided (ts : RawTerms) (k : ℕ) (t : RawTerm) : Type 0 where
  pub before : RawTerms
  pub after : RawTerms
  pub whole : ts ≡ join before (cons t after)
  pub size : number_of_terms before ≡ k

pub divided : (ts : RawTerms) (k : ℕ) (t : RawTerm) → slice_get (list_of ts) k ≡ Some t → Divided ts k t
divided nil k t e = cc
divided (cons u us) zero t e = let w : u ≡ t = cc in record { before = nil; after = us; whole = ap (λ x. cons x us) w; size = refl }
divided (cons u us) (suc k) t e =
    let d : Divided us k t = divided us k t e in
    record { before = cons u d.before; after = d.after; whole = ap (cons u) d.whole; size = ap suc d.size }

pub cut : (ts : RawTerms) (k : ℕ) → k < number_of_terms ts → (t : RawTerm) × Divided ts k t
cut nil k h = absurd (omega arith)
cut (cons u us) zero h = (u, record { before = nil; after = us; whole = refl; size = refl })
cut (cons u us) (suc k) h =
    let (t, d) = cut us k (omega arith) in
    (t, record { before = cons u d.before; after = d.after; whole = ap (cons u) d.whole; size = ap suc d.size })

pub middle_found : (before : RawTerms) (t : RawTerm) (after : RawTerms) → slice_get (list_of (join before (cons t after))) (number_of_terms before) ≡ Some t
middle_found nil t after = refl
middle_found (cons b bs) t after = middle_found bs t after

-- numbers that rise are those of some terms
pub first_there : (n : ℕ) (ns : List ℕ) (ts : RawTerms) → Rise 1 (suc (number_of_terms ts)) (n ∷ ns) → (k : ℕ) × (n ≡ suc k) × (t : RawTerm) × Divided ts k t
first_there zero ns ts r = let l = r.0 in absurd (omega (arith, l))
first_there (suc k) ns ts r = let l = r.1 in let (t, d) = cut ts k (omega (arith, l)) in (k, refl, t, d)

-- numbers that differ differ by the test
pub differ : (i k : ℕ) → (i ≡ k → ⊥) → nat_eq i k ≡ false
differ i k h = by_test (nat_eq i k) refl
  where
    by_test : (b : Bool) → nat_eq i k ≡ b → b ≡ false
    by_test false e = refl
    by_test true e = absurd (h (eqb-true i k e))

pub apart : (i k : ℕ) → i < k → nat_eq i k ≡ false
apart i k h = differ i k (λ e. omega (arith, h, e))

-- k is the number of the term behind those before it, which have the numbers from i on
pub chosen-middle : (i k : ℕ) (ks : List ℕ) (before : RawTerms) (t : RawTerm) (after : RawTerms) → k ≡ i + number_of_terms before →
    chosen i (k ∷ ks) (join before (cons t after)) ≡ cons t (chosen (suc k) ks after)
chosen-middle i k ks nil t after e =
    let w : i ≡ k = omega arith in
    rw (eq-eqb i k w) (ap (λ j. cons t (chosen (suc j) ks after)) w)
chosen-middle i k ks (cons b bs) t after e =
    let d : i < k = omega arith in
    let f : k ≡ suc i + number_of_terms bs = omega arith in
    rw (apart i k d) (chosen-middle (suc i) k ks bs t after f)

pub others-middle : (i k : ℕ) (ks : List ℕ) (before : RawTerms) (t : RawTerm) (after : RawTerms) → k ≡ i + number_of_terms before →
    others i (k ∷ ks) (join before (cons t after)) ≡ join before (others (suc k) ks after)
others-middle i k ks nil t after e =
    let w : i ≡ k = omega arith in
    rw (eq-eqb i k w) (ap (λ j. others (suc j) ks after) w)
others-middle i k ks (cons b bs) t after e =
    let d : i < k = omega arith in
    let f : k ≡ suc i + number_of_terms bs = omega arith in
    rw (apart i k d) (ap (cons b) (others-middle (suc i) k ks bs t after f))

-- neighbours that are chosen, and those behind them, are all that there is
pub followed : (k : ℕ) (ks : List ℕ) (ts : RawTerms) → Follow (k ∷ ks) → join (chosen (suc k) ks ts) (others (suc k) ks ts) ≡ ts
followed k [] ts h = refl
followed k (l ∷ ks) nil h = refl
followed k (l ∷ ks) (cons t ts) h =
    let e : l ≡ suc k = h.0 in
    rw (eq-eqb (suc k) l (sym e)) (ap (cons t) (followed (suc k) ks ts (subst (λ m. Follow (m ∷ ks)) e h.1)))

-- in order it doesn't matter which list comes first
pub in_front : (ts us vs : RawTerms) → sorted_terms (join ts (join us vs)) ≡ sorted_terms (join us (join ts vs))
in_front ts us vs =
    sorted_terms-comm ts (join us vs) ∙ ap sorted_terms (join_assoc us vs ts) ∙ sym (sorted_terms-right us (join vs ts)) ∙ ap (λ zs. sorted_terms (join us zs)) (sorted_terms-comm vs ts) ∙ sorted_terms-right us (join ts vs)
