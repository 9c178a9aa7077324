-- Neighbours among terms by their numbers, and the lists with another term in the place of those that numbers choose.
use Rattle.std.specs.Prelude.{◌≡◌, ◌+◌, ◌≤◌, ◌<◌, ℕ, suc, List, [], ◌∷◌, refl}
use Rattle.std.proofs.Common.{ap, sym, ◌∙◌, arith}
use Rattle.std.proofs.lemmas.Bool.{eq-eqb}
use Rattle.mw_logic.specs.Term.{RawTerm, RawTerms, nil, cons, join}
use Rattle.mw_logic.specs.Parts.{number_of_terms}
use Rattle.mw_logic.specs.TermOrder.{sorted_terms}
use Rattle.mw_logic.proofs.Elements.{taken, taken-insert}
use Rattle.mw_arguments.specs.Places.{chosen, others, Rise, Follow}
pub use Rattle.mw_arguments.proofs.Middles.{Divided, divided, cut, middle_found, first_there, differ, apart, chosen-middle, others-middle, followed, in_front}
use Rattle.mw_redex.specs.Replaced.{exchanged}

-- k is the number of the term behind those before it, which have the numbers from i on
pub exchanged-middle : (i k : ℕ) (ks : List ℕ) (x : RawTerm) (before : RawTerms) (t : RawTerm) (after : RawTerms) → k ≡ i + number_of_terms before →
    exchanged i k ks x (join before (cons t after)) ≡ join before (cons x (others (suc k) ks after))
exchanged-middle i k ks x nil t after e =
    let w : i ≡ k = omega arith in
    rw (eq-eqb i k w) (ap (λ j. cons x (others (suc j) ks after)) w)
exchanged-middle i k ks x (cons b bs) t after e =
    let d : i < k = omega arith in
    let f : k ≡ suc i + number_of_terms bs = omega arith in
    rw (apart i k d) (ap (cons b) (exchanged-middle (suc i) k ks x bs t after f))

-- the numbers of neighbours, from i on
abbrev pub count_from : ℕ → RawTerms → List ℕ
count_from i nil = []
count_from i (cons u us) = i ∷ count_from (suc i) us

pub count_chosen : (i : ℕ) (us after : RawTerms) → chosen i (count_from i us) (join us after) ≡ us
count_chosen i nil after = refl
count_chosen i (cons u us) after = rw (eq-eqb i i refl) (ap (cons u) (count_chosen (suc i) us after))

pub count_others : (i : ℕ) (us after : RawTerms) → others i (count_from i us) (join us after) ≡ after
count_others i nil after = refl
count_others i (cons u us) after = rw (eq-eqb i i refl) (count_others (suc i) us after)

pub count_follows : (i : ℕ) (us : RawTerms) → Follow (i ∷ count_from (suc i) us)
count_follows i nil = tt
count_follows i (cons u us) = (refl, count_follows (suc i) us)

pub count_rises : (i n : ℕ) (us : RawTerms) → i + number_of_terms us ≤ n → Rise i n (count_from i us)
count_rises i n nil h = tt
count_rises i n (cons u us) h = (omega arith, omega arith, count_rises (suc i) n us (omega arith))

-- from a lower number on too
pub rise_lower : (i j n : ℕ) (ks : List ℕ) → i ≤ j → Rise j n ks → Rise i n ks
rise_lower i j n [] h r = tt
rise_lower i j n (k ∷ ks) h r = let l = r.0 in (omega (arith, l, h), r.1, r.2)

pub number-join : (ts us : RawTerms) → number_of_terms (join ts us) ≡ number_of_terms ts + number_of_terms us
number-join nil us = omega arith
number-join (cons t ts) us = omega (arith, number-join ts us)

-- lists in order that are the same with more are the same without
pub less : (us ts vs : RawTerms) → sorted_terms (join us ts) ≡ sorted_terms (join us vs) → sorted_terms ts ≡ sorted_terms vs
less nil ts vs e = e
less (cons u us) ts vs e = less us ts vs (sym (taken-insert u (sorted_terms (join us ts))) ∙ ap (taken u) e ∙ taken-insert u (sorted_terms (join us vs)))
