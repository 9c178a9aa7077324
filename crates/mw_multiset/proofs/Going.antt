-- Into some elements of the operator's list, by their numbers, and out again.
use Rattle.std.specs.Prelude.{◌≡◌, ◌⊎◌, ◌+◌, ◌≤◌, ℕ, suc, List, [], ◌∷◌, length, Bool, true, false, cond, nat_eq, refl}
use Rattle.std.proofs.Common.{inl, inr, sym, subst, ap, ◌∙◌, arith}
use Rattle.std.proofs.lemmas.Bool.{both_ways, eqb-true, eqb-false}
use Rattle.mw_logic.specs.Term.{RawTerm, apply, RawTerms, nil, cons, join}
use Rattle.mw_logic.specs.Signature.{Signature, IsAssociative}
use Rattle.mw_logic.specs.Accepted.{IsAccepted}
use Rattle.mw_logic.specs.Parts.{is_assoc, number_of_terms}
use Rattle.mw_logic.specs.TermOrder.{sorted_terms}
use Rattle.mw_logic.specs.NormalForm.{is_comm, arranged}
use Rattle.mw_logic.specs.CanonicalPart.{AreSeveral}
use Rattle.mw_logic.specs.Module.{Module}
use Rattle.mw_logic.proofs.Canonical.{Each, IsCanonical, all_canonical}
use Rattle.mw_logic.proofs.Holes.{Each-parts, Each-unarranged}
use Rattle.mw_logic.proofs.Elements.{taken as taken_out, taken-insert}
use Rattle.mw_logic.proofs.Inside.{associative}
use Rattle.mw_logic.proofs.Soundness.{IsLong}
use Rattle.mw_arguments.specs.Places.{chosen, others, Rise}
use Rattle.mw_arguments.proofs.Places.{chosen_whole}
use Rattle.mw_arguments.proofs.Middles.{first_there, chosen-middle, others-middle, in_front}
use Rattle.mw_deduction.specs.Standing.{IsClear}
use Rattle.mw_deduction.specs.Replay.{Move, into, among, begun, opened, going_in, into_argument, play, IsMove}
use Rattle.mw_deduction.proofs.Taking.{into_is, Taken, taken}
use Rattle.mw_multiset.specs.Together.{IsMember}
use Rattle.mw_multiset.proofs.Together.{each_weaker, elements_of}

-- into one argument, or into several
abbrev pub way : List ℕ → Move
way [] = among []
way (k ∷ []) = into k
way (k ∷ l ∷ ks) = among (k ∷ l ∷ ks)

-- lists in order that are the same with more are the same without
pub less : (us ts vs : RawTerms) → sorted_terms (join us ts) ≡ sorted_terms (join us vs) → sorted_terms ts ≡ sorted_terms vs
less nil ts vs e = e
less (cons u us) ts vs e = less us ts vs (sym (taken-insert u (sorted_terms (join us ts))) ∙ ap (taken_out u) e ∙ taken-insert u (sorted_terms (join us vs)))

-- as many are chosen as there are numbers, and the others stay
chosen_numbers : (i : ℕ) (ks : List ℕ) (ts : RawTerms) → Rise i (i + number_of_terms ts) ks → (number_of_terms (chosen i ks ts) ≡ length ks) × (length ks + number_of_terms (others i ks ts) ≡ number_of_terms ts)
chosen_numbers i [] ts r = (refl, omega arith)
chosen_numbers i (k ∷ ks) nil r = let l = r.0 in let m = r.1 in absurd (omega (arith, l, m))
chosen_numbers i (k ∷ ks) (cons t ts) r = by_test (nat_eq i k) refl (λ q. chosen_numbers (suc i) ks ts q) (λ q. chosen_numbers (suc i) (k ∷ ks) ts q)
  where
    e : i + suc (number_of_terms ts) ≡ suc i + number_of_terms ts
    e = omega arith

    higher : nat_eq i k ≡ false → suc i ≤ k
    higher q = let l = r.0 in let d : i ≡ k → ⊥ = eqb-false i k q in omega (arith, l, d)

    by_test : (m : Bool) → nat_eq i k ≡ m
        → (Rise (suc i) (suc i + number_of_terms ts) ks → (number_of_terms (chosen (suc i) ks ts) ≡ length ks) × (length ks + number_of_terms (others (suc i) ks ts) ≡ number_of_terms ts))
        → (Rise (suc i) (suc i + number_of_terms ts) (k ∷ ks) → (number_of_terms (chosen (suc i) (k ∷ ks) ts) ≡ suc (length ks)) × (suc (length ks) + number_of_terms (others (suc i) (k ∷ ks) ts) ≡ number_of_terms ts))
        → (number_of_terms (cond m (cons t (chosen (suc i) ks ts)) (chosen (suc i) (k ∷ ks) ts)) ≡ suc (length ks))
        × (suc (length ks) + number_of_terms (cond m (others (suc i) ks ts) (cons t (others (suc i) (k ∷ ks) ts))) ≡ suc (number_of_terms ts))
    by_test true q x y =
        let w : i ≡ k = eqb-true i k q in
        let (u, v) = x (subst (λ n. Rise (suc i) n ks) e (subst (λ j. Rise (suc j) (i + suc (number_of_terms ts)) ks) (sym w) r.2)) in
        (ap suc u, omega (arith, v))
    by_test false q x y =
        let (u, v) = y (subst (λ n. Rise (suc i) n (k ∷ ks)) e (higher q, r.1, r.2)) in
        (u, omega (arith, v))

-- the move m goes from f on ts into a hole where t stands, beside the others
pub record GoesIn (M : Module) (f : ℕ) (ts : RawTerms) (rest : RawTerms) (t : RawTerm) (m : Move) : Type 0 where
  pub before : RawTerms
  pub after : RawTerms
  pub members_before : Each (IsMember M.signature f) before
  pub members_after : Each (IsMember M.signature f) after
  pub same : sorted_terms (join before after) ≡ sorted_terms rest
  pub may : (n : ℕ) → IsMove M m (begun n (apply f ts) ∷ [])
  pub goes : (n : ℕ) → play M m (begun n (apply f ts) ∷ []) ≡ going_in M.signature (opened f before after) t (begun n (apply f ts)) ∷ []

module _ (M : Module) (ok : IsAccepted M.signature) (f : ℕ) (assoc : is_assoc M.signature f ≡ true) (comm : is_comm M.signature f ≡ true) where
  abbrev sig : Signature
  sig = M.signature

  abbrev Members : RawTerms → Type 0
  Members = Each (IsMember sig f)

  long_number : (xs : RawTerms) → 1 ≤ number_of_terms xs → IsLong xs
  long_number nil l = absurd (omega (arith, l))
  long_number (cons x xs) l = tt

  several_number : (xs : RawTerms) → AreSeveral xs → 2 ≤ number_of_terms xs
  several_number nil l = absurd l
  several_number (cons x nil) l = absurd l
  several_number (cons x (cons y xs)) l = omega arith

  clear_members : (b a : RawTerms) → Members b → Members a → IsLong (join b a) → IsClear sig (opened f b a)
  clear_members b a hb ha l = record {
    before = all_canonical sig b (each_weaker (IsMember sig f) (IsCanonical sig) (λ x k. k.canonical) b hb);
    after = all_canonical sig a (each_weaker (IsMember sig f) (IsCanonical sig) (λ x k. k.canonical) a ha);
    before_elements = λ q. elements_of sig f b hb;
    after_elements = λ q. elements_of sig f a ha;
    others = λ q. l;
  }

  -- ts in order, of which these numbers choose es and leave others
  module _ (ts : RawTerms) (members : Members ts) (order : sorted_terms ts ≡ ts) (canonical : IsCanonical sig (apply f ts)) (ks : List ℕ) (rise : Rise 1 (suc (number_of_terms ts)) ks) (left : 1 ≤ number_of_terms (others 1 ks ts)) where
    abbrev es : RawTerms
    es = chosen 1 ks ts

    abbrev Goes : RawTerms → RawTerm → Move → Type 0
    Goes = GoesIn M f ts

    counted : (number_of_terms es ≡ length ks) × (length ks + number_of_terms (others 1 ks ts) ≡ number_of_terms ts)
    counted = let n : suc (number_of_terms ts) ≡ 1 + number_of_terms ts = omega arith in chosen_numbers 1 ks ts (subst (λ m. Rise 1 m ks) n rise)

    goes_one : (t : RawTerm) → es ≡ cons t nil → Goes (others 1 ks ts) t (way ks)
    goes_one t e = by_numbers ks refl
      where
        by_numbers : (ns : List ℕ) → ks ≡ ns → Goes (others 1 ks ts) t (way ks)
        by_numbers [] q = let (u, v) = counted in let a : number_of_terms es ≡ 1 = ap number_of_terms e in let b : length ks ≡ 0 = ap length q in absurd (omega (arith, u, a, b))
        by_numbers (k ∷ l ∷ ns) q = let (u, v) = counted in let a : number_of_terms es ≡ 1 = ap number_of_terms e in let b : length ks ≡ suc (suc (length ns)) = ap length q in absurd (omega (arith, u, a, b))
        by_numbers (k ∷ []) q =
            let (i, m, x, d) = first_there k [] ts (subst (Rise 1 (suc (number_of_terms ts))) q rise) in
            let z : k ≡ 1 + number_of_terms d.before = let s = d.size in omega (arith, m, s) in
            let picked : cons x nil ≡ cons t nil = sym (ap (chosen 1 (k ∷ [])) d.whole ∙ chosen-middle 1 k [] d.before x d.after z) ∙ ap (λ ns. chosen 1 ns ts) (sym q) ∙ e in
            let same : x ≡ t = cc in
            let there : ts ≡ join d.before (cons t d.after) = d.whole ∙ ap (λ y. join d.before (cons y d.after)) same in
            let w : others 1 ks ts ≡ join d.before d.after = ap (λ ns. others 1 ns ts) q ∙ ap (others 1 (k ∷ [])) d.whole ∙ others-middle 1 k [] d.before x d.after z in
            let (hb, hta) = Each-parts (IsMember sig f) d.before (cons t d.after) (subst Members there members) in
            let n : k ≡ suc (number_of_terms d.before) = omega (arith, z) in
            let long : IsLong (join d.before d.after) = long_number (join d.before d.after) (subst (λ us. 1 ≤ number_of_terms us) w left) in
            subst (λ ns. Goes (others 1 ks ts) t (way ns)) (sym q) (record {
              before = d.before;
              after = d.after;
              members_before = hb;
              members_after = hta.1;
              same = ap sorted_terms (sym w);
              may = λ r. record { operator = f; before = d.before; argument = t; after = d.after; is = ap (apply f) there; number = n; clear = clear_members d.before d.after hb hta.1 long };
              goes = λ r. ap (λ us. into_argument sig k (apply f us) (begun r (apply f ts)) ∷ []) there ∙ ap (λ S. S ∷ []) (into_is sig k f d.before t d.after (begun r (apply f ts)) n);
            })

    goes_several : AreSeveral es → Goes (others 1 ks ts) (apply f es) (way ks)
    goes_several several = by_numbers ks refl
      where
        by_numbers : (ns : List ℕ) → ks ≡ ns → Goes (others 1 ks ts) (apply f es) (way ks)
        by_numbers [] q = let (u, v) = counted in let a = several_number es several in let b : length ks ≡ 0 = ap length q in absurd (omega (arith, u, a, b))
        by_numbers (k ∷ []) q = let (u, v) = counted in let a = several_number es several in let b : length ks ≡ 1 = ap length q in absurd (omega (arith, u, a, b))
        by_numbers (k ∷ l ∷ ns) q =
            let A : IsAssociative sig f = associative sig ok f assoc in
            let x : Taken sig k (l ∷ ns) f ts = taken sig ok k (l ∷ ns) f ts canonical A (subst (Rise 1 (suc (number_of_terms ts))) q rise) (λ h. absurd (both_ways _ h comm)) in
            let picked : chosen 1 (k ∷ l ∷ ns) ts ≡ es = ap (λ ms. chosen 1 ms ts) (sym q) in
            let long : IsLong (join x.before x.after) = x.others (let (u, v) = counted in let b : length ks ≡ length (k ∷ l ∷ ns) = ap length q in omega (arith, v, b, left)) in
            let all : sorted_terms (join x.before (join (chosen 1 (k ∷ l ∷ ns) ts) x.after)) ≡ ts = subst (λ m. arranged m (join x.before (join (chosen 1 (k ∷ l ∷ ns) ts) x.after)) ≡ ts) comm x.whole in
            let front : sorted_terms (join es (join x.before x.after)) ≡ ts = sym (in_front x.before es x.after) ∙ ap (λ us. sorted_terms (join x.before (join us x.after))) (sym picked) ∙ all in
            let leaves : sorted_terms (join es (others 1 ks ts)) ≡ ts = chosen_whole 1 ks ts ∙ order in
            let mem : Members (join x.before (join (chosen 1 (k ∷ l ∷ ns) ts) x.after)) = Each-unarranged (IsMember sig f) true (join x.before (join (chosen 1 (k ∷ l ∷ ns) ts) x.after)) (subst Members (sym all) members) in
            let (hb, rest) = Each-parts (IsMember sig f) x.before (join (chosen 1 (k ∷ l ∷ ns) ts) x.after) mem in
            let (he, ha) = Each-parts (IsMember sig f) (chosen 1 (k ∷ l ∷ ns) ts) x.after rest in
            subst (λ ms. Goes (others 1 ks ts) (apply f es) (way ms)) (sym q) (record {
              before = x.before;
              after = x.after;
              members_before = hb;
              members_after = ha;
              same = less es (join x.before x.after) (others 1 ks ts) (front ∙ sym leaves);
              may = λ n. record {
                part = apply f (chosen 1 (k ∷ l ∷ ns) ts);
                takes = record { operator = f; args = ts; term = refl; assoc = A; rise = subst (Rise 1 (suc (number_of_terms ts))) q rise; several = subst AreSeveral (sym picked) several; follow = λ h. absurd (both_ways _ h comm); part = refl };
                proper = (let (u, v) = counted in let b : length ks ≡ length (k ∷ l ∷ ns) = ap length q in omega (arith, v, b, left));
              };
              goes = λ n. ap (λ S. S ∷ []) (x.goes_in (begun n (apply f ts))) ∙ ap (λ us. going_in sig (opened f x.before x.after) (apply f us) (begun n (apply f ts)) ∷ []) picked;
            })

    pub goes_in : (t : RawTerm) → (es ≡ cons t nil) ⊎ ((t ≡ apply f es) × AreSeveral es) → Goes (others 1 ks ts) t (way ks)
    goes_in t (inl e) = goes_one t e
    goes_in t (inr (e, s)) = subst (λ x. Goes (others 1 ks ts) x (way ks)) (sym e) (goes_several s)
