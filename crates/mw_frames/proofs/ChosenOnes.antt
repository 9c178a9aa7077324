-- Terms are gone through one by one, and those that have one of some numbers are set apart.
use Rattle.std.specs.Prelude.{◌≡◌, ◌≢◌, ◌⊎◌, ◌≤◌, ◌<◌, ◌+◌, ℕ, zero, suc, List, [], ◌∷◌, length, drop, true, nat_eq, refl}
use Rattle.std.proofs.Common.{sym, ap, ◌∙◌, arith, inl, inr, get_or}
use Rattle.std.proofs.Math.Seq.{drop-cons}
use Rattle.std.proofs.lemmas.Bool.{cases_lt}
use Rattle.std.proofs.lemmas.List.{drop_all}
use Rattle.mw_logic.specs.Term.{RawTerm, RawTerms, nil, cons, join}
use Rattle.mw_logic.specs.Terms.{terms_of, skip}
use Rattle.mw_logic.proofs.Canonical.{nat_eq-refl}
use Rattle.mw_logic.proofs.SortLaws.{join-nil, join_assoc}
use Rattle.mw_arguments.specs.Places.{chosen, others}
use Rattle.mw_arguments.proofs.Middles.{differ}

-- none of those in front has one of the numbers
pub chosen_later : (k : ℕ) (ks : List ℕ) (i d : ℕ) (ts : RawTerms) → k ≡ i + d → chosen i (k ∷ ks) ts ≡ chosen k (k ∷ ks) (skip d ts)
chosen_later k ks i zero ts e = let q : k ≡ i = omega (arith, e) in ap (λ n. chosen n (k ∷ ks) ts) (sym q)
chosen_later k ks i (suc d) nil e = refl
chosen_later k ks i (suc d) (cons t ts) e = rw (differ i k (λ q. omega (arith, e, q))) (chosen_later k ks (suc i) d ts (omega (arith, e)))

-- all were gone through
pub all_taken : (i : ℕ) (ks : List ℕ) (ts : List RawTerm) (found z : RawTerms) → ts ≡ [] → join found (chosen i ks (terms_of ts)) ≡ z → found ≡ z
all_taken i ks ts found z e h = sym (join-nil found) ∙ ap (join found) (sym (ap (λ us. chosen i ks (terms_of us)) e ∙ nothing ks)) ∙ h
  where
    nothing : (ks : List ℕ) → chosen i ks nil ≡ nil
    nothing [] = refl
    nothing (k ∷ ks) = refl

pub all_left : (i : ℕ) (ks : List ℕ) (ts : List RawTerm) (found z : RawTerms) → ts ≡ [] → join found (others i ks (terms_of ts)) ≡ z → found ≡ z
all_left i ks ts found z e h = sym (join-nil found) ∙ ap (join found) (sym (ap (λ us. others i ks (terms_of us)) e ∙ nothing ks)) ∙ h
  where
    nothing : (ks : List ℕ) → others i ks nil ≡ nil
    nothing [] = refl
    nothing (k ∷ ks) = refl

-- the next term is t, whose number is i, and `next` of the numbers were found
module _ (i j next : ℕ) (after : j ≡ suc i) (ns : List ℕ) (t : RawTerm) (us ts : List RawTerm) (is : us ≡ t ∷ ts) (found z : RawTerms) where
  numbers : (l : next < length ns) → drop next ns ≡ get_or ns next 0 ∷ drop (next + 1) ns
  numbers l = drop-cons ns next 0 l ∙ ap (λ n. get_or ns next 0 ∷ drop n ns) (plus next)
    where
      plus : (n : ℕ) → suc n ≡ n + 1
      plus n = omega arith

  module _ (l : next < length ns) (e : get_or ns next 0 ≡ i) where
    same : nat_eq i (get_or ns next 0) ≡ true
    same = ap (nat_eq i) e ∙ nat_eq-refl i

    pub one_taken : (found' : RawTerms) → found' ≡ join found (cons t nil) → join found (chosen i (drop next ns) (terms_of us)) ≡ z → join found' (chosen j (drop (next + 1) ns) (terms_of ts)) ≡ z
    one_taken found' f h =
        let ks = drop (next + 1) ns in
        let a : chosen i (drop next ns) (terms_of us) ≡ cons t (chosen j ks (terms_of ts)) = rw (numbers l, is, same, after) refl in
        ap (λ us. join us (chosen j ks (terms_of ts))) f ∙ join_assoc found (cons t nil) (chosen j ks (terms_of ts)) ∙ ap (join found) (sym a) ∙ h

    pub none_left : join found (others i (drop next ns) (terms_of us)) ≡ z → join found (others j (drop (next + 1) ns) (terms_of ts)) ≡ z
    none_left h =
        let a : others i (drop next ns) (terms_of us) ≡ others j (drop (next + 1) ns) (terms_of ts) = rw (numbers l, is, same, after) refl in
        ap (join found) (sym a) ∙ h

  module _ (n : next < length ns → get_or ns next 0 ≢ i) where
    pub none_taken : join found (chosen i (drop next ns) (terms_of us)) ≡ z → join found (chosen j (drop next ns) (terms_of ts)) ≡ z
    none_taken h = ap (join found) (sym (by_numbers (cases_lt next (length ns)))) ∙ h
      where
        by_numbers : (next < length ns) ⊎ (length ns ≤ next) → chosen i (drop next ns) (terms_of us) ≡ chosen j (drop next ns) (terms_of ts)
        by_numbers (inl l) = rw (numbers l, is, differ i (get_or ns next 0) (λ q. n l (sym q)), after) refl
        by_numbers (inr l) = rw (drop_all next ns l) refl

    pub one_left : (found' : RawTerms) → found' ≡ join found (cons t nil) → join found (others i (drop next ns) (terms_of us)) ≡ z → join found' (others j (drop next ns) (terms_of ts)) ≡ z
    one_left found' f h =
        let a : others i (drop next ns) (terms_of us) ≡ cons t (others j (drop next ns) (terms_of ts)) = by_numbers (cases_lt next (length ns)) in
        ap (λ us. join us (others j (drop next ns) (terms_of ts))) f ∙ join_assoc found (cons t nil) (others j (drop next ns) (terms_of ts)) ∙ ap (join found) (sym a) ∙ h
      where
        by_numbers : (next < length ns) ⊎ (length ns ≤ next) → others i (drop next ns) (terms_of us) ≡ cons t (others j (drop next ns) (terms_of ts))
        by_numbers (inl l) = rw (numbers l, is, differ i (get_or ns next 0) (λ q. n l (sym q)), after) refl
        by_numbers (inr l) = rw (drop_all next ns l, is) refl
