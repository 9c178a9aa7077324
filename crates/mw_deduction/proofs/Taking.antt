-- Going into an argument, or into several, by their numbers.
use Rattle.std.specs.Prelude.{◌≡◌, ◌-◌, ◌+◌, ◌≤◌, ◌<◌, ℕ, suc, List, [], ◌∷◌, length, Bool, true, false, cond, nat_eq, unwrap_or, refl}
use Rattle.std.proofs.Common.{sym, subst, ap, ◌∙◌, arith}
use Rattle.mw_logic.specs.Term.{RawTerm, RawTerms, apply, nil, cons, join}
use Rattle.mw_logic.specs.Terms.{list_of, front, skip}
use Rattle.mw_logic.specs.Signature.{Signature, IsAssociative, at_number}
use Rattle.mw_logic.specs.Accepted.{IsAccepted}
use Rattle.mw_logic.specs.Parts.{number_of_terms}
use Rattle.mw_logic.specs.TermOrder.{sorted_terms}
use Rattle.mw_logic.specs.NormalForm.{is_comm, arranged}
use Rattle.mw_logic.specs.CanonicalPart.{IsCut}
use Rattle.mw_logic.proofs.SortedLists.{climbs, sorted_terms-climbing}
use Rattle.mw_logic.proofs.Canonical.{IsCanonical, assoc-true, nat_eq-refl}
use Rattle.mw_logic.proofs.Soundness.{IsLong}
use Rattle.mw_arguments.specs.Places.{chosen, others, Rise, Follow}
use Rattle.mw_arguments.proofs.Places.{chosen_whole, chosen_climbs}
use Rattle.mw_arguments.proofs.Arguments.{args_in_order}
use Rattle.mw_arguments.proofs.Middles.{Divided, first_there, middle_found, chosen-middle, others-middle, followed, in_front}
use Rattle.mw_deduction.specs.Replay.{Stand, opened, going_in, into_argument, into_several}

-- what stands before, and behind, a term in a list
pub front-join : (b us : RawTerms) → front (number_of_terms b) (join b us) ≡ b
front-join nil us = refl
front-join (cons t b) us = ap (cons t) (front-join b us)

pub skip-join : (b us : RawTerms) → skip (number_of_terms b) (join b us) ≡ us
skip-join nil us = refl
skip-join (cons t b) us = skip-join b us

skip-middle : (b : RawTerms) (x : RawTerm) (a : RawTerms) → skip (suc (number_of_terms b)) (join b (cons x a)) ≡ a
skip-middle nil x a = refl
skip-middle (cons t b) x a = skip-middle b x a

-- into an argument: those before it and behind it stay beside the hole
pub into_is : (sig : Signature) (i f : ℕ) (b : RawTerms) (x : RawTerm) (a : RawTerms) (S : Stand) → i ≡ suc (number_of_terms b)
    → into_argument sig i (apply f (join b (cons x a))) S ≡ going_in sig (opened f b a) x S
into_is sig i f b x a S e =
    let ts : RawTerms = join b (cons x a) in
    let n : i - 1 ≡ number_of_terms b = omega (arith, e) in
    let p : front (i - 1) ts ≡ b = ap (λ j. front j ts) n ∙ front-join b (cons x a) in
    let q : skip i ts ≡ a = ap (λ j. skip j ts) e ∙ skip-middle b x a in
    let r : unwrap_or (at_number (list_of ts) i) (apply f ts) ≡ x = ap (λ j. unwrap_or (at_number (list_of ts) j) (apply f ts)) e ∙ ap (λ o. unwrap_or o (apply f ts)) (middle_found b x a) in
    ap (λ c. going_in sig (opened f c (skip i ts)) (unwrap_or (at_number (list_of ts) i) (apply f ts)) S) p
    ∙ ap (λ c. going_in sig (opened f b c) (unwrap_or (at_number (list_of ts) i) (apply f ts)) S) q
    ∙ ap (λ y. going_in sig (opened f b a) y S) r

-- so many at most are taken away
number-others : (i : ℕ) (ks : List ℕ) (ts : RawTerms) → number_of_terms ts ≤ number_of_terms (others i ks ts) + length ks
number-others i [] ts = omega arith
number-others i (k ∷ ks) nil = omega arith
number-others i (k ∷ ks) (cons t ts) = by_test (nat_eq i k) (number-others (suc i) ks ts) (number-others (suc i) (k ∷ ks) ts)
  where
    by_test : (b : Bool) → number_of_terms ts ≤ number_of_terms (others (suc i) ks ts) + length ks → number_of_terms ts ≤ number_of_terms (others (suc i) (k ∷ ks) ts) + suc (length ks)
        → suc (number_of_terms ts) ≤ number_of_terms (cond b (others (suc i) ks ts) (cons t (others (suc i) (k ∷ ks) ts))) + suc (length ks)
    by_test true a c = omega (arith, a)
    by_test false a c = omega (arith, c)

long_number : (ts : RawTerms) → 0 < number_of_terms ts → IsLong ts
long_number nil h = absurd (omega (arith, h))
long_number (cons t ts) h = tt

-- the numbers of several arguments of an associative operator cut these out of its list
pub record Taken (sig : Signature) (k : ℕ) (ks : List ℕ) (f : ℕ) (ts : RawTerms) : Type 0 where
  pub before : RawTerms
  pub after : RawTerms
  pub whole : arranged (is_comm sig f) (join before (join (chosen 1 (k ∷ ks) ts) after)) ≡ ts
  pub in_order : arranged (is_comm sig f) (chosen 1 (k ∷ ks) ts) ≡ chosen 1 (k ∷ ks) ts
  pub goes_in : (S : Stand) → into_several sig (k ∷ ks) (apply f ts) S ≡ going_in sig (opened f before after) (apply f (chosen 1 (k ∷ ks) ts)) S
  pub others : length (k ∷ ks) < number_of_terms ts → IsLong (join before after)

abbrev pub cut_out : {sig : Signature} {k : ℕ} {ks : List ℕ} {f : ℕ} {ts : RawTerms} → Taken sig k ks f ts → IsCut (is_comm sig f) ts (chosen 1 (k ∷ ks) ts)
cut_out t = record { before = t.before; after = t.after; whole = t.whole; in_order = t.in_order }

module _ (sig : Signature) (ok : IsAccepted sig) where
  pub taken : (k : ℕ) (ks : List ℕ) (f : ℕ) (ts : RawTerms) → IsCanonical sig (apply f ts) → IsAssociative sig f → Rise 1 (suc (number_of_terms ts)) (k ∷ ks) → (is_comm sig f ≡ false → Follow (k ∷ ks))
      → Taken sig k ks f ts
  taken k ks f ts canonical A rise follow =
      let (i, m, t, d) = first_there k ks ts rise in
      let z : k ≡ 1 + number_of_terms d.before = let g = d.size in omega (arith, m, g) in
      let n : k - 1 ≡ number_of_terms d.before = omega (arith, z) in
      let picked : chosen 1 (k ∷ ks) ts ≡ cons t (chosen (suc k) ks d.after) = ap (chosen 1 (k ∷ ks)) d.whole ∙ chosen-middle 1 k ks d.before t d.after z in
      let left : others 1 (k ∷ ks) ts ≡ join d.before (others (suc k) ks d.after) = ap (others 1 (k ∷ ks)) d.whole ∙ others-middle 1 k ks d.before t d.after z in
      let p : front (k - 1) ts ≡ d.before = ap (front (k - 1)) d.whole ∙ ap (λ j. front j (join d.before (cons t d.after))) n ∙ front-join d.before (cons t d.after) in
      let s : skip (k - 1) ts ≡ cons t d.after = ap (skip (k - 1)) d.whole ∙ ap (λ j. skip j (join d.before (cons t d.after))) n ∙ skip-join d.before (cons t d.after) in
      let r : others k (k ∷ ks) (skip (k - 1) ts) ≡ others (suc k) ks d.after = ap (others k (k ∷ ks)) s ∙ rw (nat_eq-refl k) refl in
      record {
        before = d.before;
        after = others (suc k) ks d.after;
        whole = sym (all (is_comm sig f) refl t d picked left);
        in_order = ordered (is_comm sig f) refl;
        goes_in = λ S. ap (λ c. going_in sig (opened f c (others k (k ∷ ks) (skip (k - 1) ts))) (apply f (chosen 1 (k ∷ ks) ts)) S) p
            ∙ ap (λ c. going_in sig (opened f d.before c) (apply f (chosen 1 (k ∷ ks) ts)) S) r;
        others = λ h. subst IsLong left (long_number (others 1 (k ∷ ks) ts) (omega (arith, h, number-others 1 (k ∷ ks) ts)));
      }
    where
      sorted : is_comm sig f ≡ true → sorted_terms ts ≡ ts
      sorted h = subst (λ c. arranged c ts ≡ ts) h (args_in_order sig ok f (assoc-true sig f A.operator A.is_there A.assoc) ts canonical)

      ordered : (c : Bool) → is_comm sig f ≡ c → arranged (is_comm sig f) (chosen 1 (k ∷ ks) ts) ≡ chosen 1 (k ∷ ks) ts
      ordered false h = rw h refl
      ordered true h = rw h (sorted_terms-climbing (chosen 1 (k ∷ ks) ts) (chosen_climbs 1 (k ∷ ks) ts (climbs ts (sorted h))))

      all : (c : Bool) → is_comm sig f ≡ c → (t : RawTerm) {i : ℕ} (d : Divided ts i t) → chosen 1 (k ∷ ks) ts ≡ cons t (chosen (suc k) ks d.after) → others 1 (k ∷ ks) ts ≡ join d.before (others (suc k) ks d.after)
          → ts ≡ arranged (is_comm sig f) (join d.before (join (chosen 1 (k ∷ ks) ts) (others (suc k) ks d.after)))
      all false h t d picked left = rw h (d.whole ∙ ap (join d.before) (sym (ap (λ us. join us (others (suc k) ks d.after)) picked ∙ ap (cons t) (followed k ks d.after (follow h)))))
      all true h t d picked left =
          rw h (sym (sorted h) ∙ sym (chosen_whole 1 (k ∷ ks) ts) ∙ ap (λ zs. sorted_terms (join (chosen 1 (k ∷ ks) ts) zs)) left ∙ sym (in_front d.before (chosen 1 (k ∷ ks) ts) (others (suc k) ks d.after)))
