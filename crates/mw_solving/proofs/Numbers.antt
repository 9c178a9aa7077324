-- The numbers of arguments that are chosen: how many they are, the least ones among equal arguments, and those of neighbours.
use Rattle.std.specs.Prelude.{◌≡◌, ◌<◌, ◌≤◌, ◌+◌, ◌⊎◌, ℕ, zero, suc, List, [], ◌∷◌, length, Bool, true, false, cond, nat_eq, Some, slice_get, refl}
use Rattle.std.proofs.Common.{inl, inr, ap, sym, subst, ◌∙◌, arith}
use Rattle.std.proofs.lemmas.Bool.{both_ways, eqb-true, eqb-false, eq-eqb}
use Rattle.std.proofs.lemmas.Option.{none-some, same_Some}
use Rattle.mw_logic.specs.Term.{RawTerm, RawTerms, nil, cons}
use Rattle.mw_logic.specs.Terms.{list_of, front, skip}
use Rattle.mw_logic.specs.Signature.{Member}
use Rattle.mw_logic.specs.Parts.{Among, number_of_terms}
use Rattle.mw_logic.specs.TermOrder.{stands_after}
use Rattle.mw_logic.proofs.OrderLaws.{after-antisym, not_after_itself}
use Rattle.mw_logic.proofs.SortedLists.{same_term, same_itself, Climbs}
use Rattle.mw_arguments.specs.Bags.{same}
use Rattle.mw_arguments.specs.Places.{chosen, Rise, Follow, numbers_of}
use Rattle.mw_arguments.proofs.Places.{numbers_rise}
use Rattle.mw_arguments.proofs.Runs.{same-equal}
use Rattle.mw_arguments.proofs.Standing.{each_among}
use Rattle.mw_matching.specs.Found.{numbers_from}
use Rattle.mw_matching.specs.Multisets.{is_within}
use Rattle.mw_solving.specs.Inside.{AreLeast}

-- rising numbers choose as many as they are
pub chosen_number : (i : ℕ) (ks : List ℕ) (ts : RawTerms) → Rise i (i + number_of_terms ts) ks → number_of_terms (chosen i ks ts) ≡ length ks
chosen_number i [] ts r = refl
chosen_number i (k ∷ ks) nil r = let a = r.0 in let b = r.1 in absurd (omega (arith, a, b))
chosen_number i (k ∷ ks) (cons t ts) r = by_test (nat_eq i k) refl (chosen_number (suc i) ks ts) (chosen_number (suc i) (k ∷ ks) ts)
  where
    e : suc i + number_of_terms ts ≡ i + suc (number_of_terms ts)
    e = omega arith

    by_test : (b : Bool) → nat_eq i k ≡ b → (Rise (suc i) (suc i + number_of_terms ts) ks → number_of_terms (chosen (suc i) ks ts) ≡ length ks)
        → (Rise (suc i) (suc i + number_of_terms ts) (k ∷ ks) → number_of_terms (chosen (suc i) (k ∷ ks) ts) ≡ suc (length ks))
        → number_of_terms (cond b (cons t (chosen (suc i) ks ts)) (chosen (suc i) (k ∷ ks) ts)) ≡ suc (length ks)
    by_test true q here later =
        let w : i ≡ k = eqb-true i k q in
        ap suc (here (subst (λ j. Rise (suc j) (suc i + number_of_terms ts) ks) (sym w) (subst (λ n. Rise (suc k) n ks) (sym e) r.2)))
    by_test false q here later =
        let a = r.0 in
        let b = r.1 in
        let d = eqb-false i k q in
        later (omega (arith, a, d), omega (arith, b), subst (λ n. Rise (suc k) n ks) (sym e) r.2)

-- numbers that rise from i on are no less
rise_member : (i n a : ℕ) (ks : List ℕ) → Rise i n ks → Member a ks → i ≤ a
rise_member i n a [] r m = absurd m
rise_member i n a (k ∷ ks) r (inl e) = let l = r.0 in omega (arith, l, e)
rise_member i n a (k ∷ ks) r (inr m) = let l = r.0 in let d = rise_member (suc k) n a ks r.2 m in omega (arith, l, d)

-- of equal terms those with the least numbers; i is the number of the first
abbrev LeastFrom : ℕ → List ℕ → RawTerms → Type 0
LeastFrom i ks ts = (a b : ℕ) (u : RawTerm) → a < b → slice_get (list_of ts) a ≡ Some u → slice_get (list_of ts) b ≡ Some u → Member (i + b) ks → Member (i + a) ks

-- the first number chooses the first term
first_chosen : (i k : ℕ) (ks : List ℕ) (u : RawTerm) (us ts : RawTerms) → chosen i (k ∷ ks) ts ≡ cons u us → (d : ℕ) × (k ≡ i + d) × (slice_get (list_of ts) d ≡ Some u)
first_chosen i k ks u us nil e = cc
first_chosen i k ks u us (cons t ts) e = by_test (nat_eq i k) refl e (first_chosen (suc i) k ks u us ts)
  where
    by_test : (b : Bool) → nat_eq i k ≡ b → cond b (cons t (chosen (suc i) ks ts)) (chosen (suc i) (k ∷ ks) ts) ≡ cons u us
        → (chosen (suc i) (k ∷ ks) ts ≡ cons u us → (d : ℕ) × (k ≡ suc i + d) × (slice_get (list_of ts) d ≡ Some u)) → (d : ℕ) × (k ≡ i + d) × (slice_get (t ∷ list_of ts) d ≡ Some u)
    by_test true q e later = let w : t ≡ u = cc in let n : i ≡ k = eqb-true i k q in (0, omega (arith, n), ap Some w)
    by_test false q e later = let (d, n, g) = later e in (suc d, omega (arith, n), g)

-- the least numbers of what numbers choose are these, where they are the least
least_again : (i : ℕ) (ks : List ℕ) (ts : RawTerms) → Rise i (i + number_of_terms ts) ks → LeastFrom i ks ts → numbers_of i (chosen i ks ts) ts ≡ ks
least_again i [] ts r l = refl
least_again i (k ∷ ks) nil r l = let a = r.0 in let b = r.1 in absurd (omega (arith, a, b))
least_again i (k ∷ ks) (cons t ts) r l = by_test (nat_eq i k) refl (least_again (suc i) ks ts) (least_again (suc i) (k ∷ ks) ts)
  where
    e : suc i + number_of_terms ts ≡ i + suc (number_of_terms ts)
    e = omega arith

    later : (a : ℕ) → i + suc a ≡ suc i + a
    later a = omega arith

    behind : i ≡ k → LeastFrom (suc i) ks ts
    behind w a b u h p q m = of (l (suc a) (suc b) u (omega (arith, h)) p q (inr (subst (λ n. Member n ks) (sym (later b)) m)))
      where
        of : (k ≡ i + suc a) ⊎ Member (i + suc a) ks → Member (suc i + a) ks
        of (inl d) = absurd (omega (arith, w, d))
        of (inr m) = subst (λ n. Member n ks) (later a) m

    shifted : LeastFrom (suc i) (k ∷ ks) ts
    shifted a b u h p q m =
        subst (λ n. Member n (k ∷ ks)) (later a) (l (suc a) (suc b) u (omega (arith, h)) p q (subst (λ n. Member n (k ∷ ks)) (sym (later b)) m))

    not_first : i < k → (u : RawTerm) (us : RawTerms) → chosen (suc i) (k ∷ ks) ts ≡ cons u us → (b : Bool) → same u t ≡ b → b ≡ false
    not_first h u us w false q = refl
    not_first h u us w true q =
        let (d, n, g) = first_chosen (suc i) k ks u us ts w in
        let s : u ≡ t = same_term u t q in
        let m : Member (i + 0) (k ∷ ks) = l 0 (suc d) u (omega arith) (ap Some (sym s)) g (inl (omega (arith, n))) in
        let a = rise_member (suc i) (i + suc (number_of_terms ts)) (i + 0) (k ∷ ks) (omega (arith, h), r.1, r.2) m in
        absurd (omega (arith, a))

    skipped : i < k → (us : RawTerms) → chosen (suc i) (k ∷ ks) ts ≡ us → numbers_of (suc i) us ts ≡ k ∷ ks → numbers_of i us (cons t ts) ≡ k ∷ ks
    skipped h nil w n = n
    skipped h (cons u us) w n = rw (not_first h u us w (same u t) refl) n

    by_test : (b : Bool) → nat_eq i k ≡ b → (Rise (suc i) (suc i + number_of_terms ts) ks → LeastFrom (suc i) ks ts → numbers_of (suc i) (chosen (suc i) ks ts) ts ≡ ks)
        → (Rise (suc i) (suc i + number_of_terms ts) (k ∷ ks) → LeastFrom (suc i) (k ∷ ks) ts → numbers_of (suc i) (chosen (suc i) (k ∷ ks) ts) ts ≡ k ∷ ks)
        → numbers_of i (cond b (cons t (chosen (suc i) ks ts)) (chosen (suc i) (k ∷ ks) ts)) (cons t ts) ≡ k ∷ ks
    by_test true q here behind_it =
        let w : i ≡ k = eqb-true i k q in
        let n = here (subst (λ j. Rise (suc j) (suc i + number_of_terms ts) ks) (sym w) (subst (λ n. Rise (suc k) n ks) (sym e) r.2)) (behind w) in
        rw (same_itself t, n, w) refl
    by_test false q here behind_it =
        let a = r.0 in
        let b = r.1 in
        let d = eqb-false i k q in
        let h : i < k = omega (arith, a, d) in
        skipped h (chosen (suc i) (k ∷ ks) ts) refl (behind_it (h, omega (arith, b), subst (λ n. Rise (suc k) n ks) (sym e) r.2) shifted)

pub least_numbers : (ks : List ℕ) (ts : RawTerms) → Rise 1 (suc (number_of_terms ts)) ks → AreLeast ks ts → numbers_of 1 (chosen 1 ks ts) ts ≡ ks
least_numbers ks ts r l =
    least_again 1 ks ts (subst (λ n. Rise 1 n ks) (omega arith) r)
    (λ a b u h p q m. subst (λ n. Member n ks) (one a) (l (suc a) (suc b) u (omega (arith, h)) p q (subst (λ n. Member n ks) (sym (one b)) m)))
  where
    one : (a : ℕ) → suc a ≡ 1 + a
    one a = omega arith

-- the numbers of a part are no less than the first
numbers_low : (i a : ℕ) (us ts : RawTerms) → Member a (numbers_of i us ts) → i ≤ a
numbers_low i a us ts m = rise_member i (i + number_of_terms ts) a (numbers_of i us ts) (numbers_rise i us ts) m

-- what has one of the numbers is among those that have them
abbrev HaveNumbers : ℕ → RawTerm → RawTerms → Type 0
HaveNumbers i x ts = (us : RawTerms) (b : ℕ) → Member (i + b) (numbers_of i us ts) → slice_get (list_of ts) b ≡ Some x → Among us x

numbered_among : (i b : ℕ) (x : RawTerm) (us ts : RawTerms) → Member (i + b) (numbers_of i us ts) → slice_get (list_of ts) b ≡ Some x → Among us x
numbered_among i b x nil ts m g = absurd m
numbered_among i b x (cons u us) nil m g = absurd m
numbered_among i b x (cons u us) (cons t ts) m g = by_test (same u t) refl m (λ vs n. numbered_among (suc i) n x vs ts)
  where
    behind : HaveNumbers (suc i) x ts → (vs : RawTerms) (n : ℕ) → slice_get (t ∷ list_of ts) n ≡ Some x → Member (i + n) (numbers_of (suc i) vs ts) → Among vs x
    behind known vs zero g m = let a = numbers_low (suc i) (i + 0) vs ts m in absurd (omega (arith, a))
    behind known vs (suc n) g m = known vs n (subst (λ k. Member k (numbers_of (suc i) vs ts)) (omega arith) m) g

    first : (n : ℕ) → i ≡ i + n → slice_get (t ∷ list_of ts) n ≡ Some x → t ≡ x
    first zero e g = same_Some t x g
    first (suc n) e g = absurd (omega (arith, e))

    by_test : (c : Bool) → same u t ≡ c → Member (i + b) (cond c (i ∷ numbers_of (suc i) us ts) (numbers_of (suc i) (cons u us) ts)) → HaveNumbers (suc i) x ts → (u ≡ x) ⊎ Among us x
    by_test true q (inl e) known = inl (same_term u t q ∙ first b e g)
    by_test true q (inr m) known = inr (behind known us b g m)
    by_test false q m known = behind known (cons u us) b g m

-- the head of a part stands in the whole
head_within : (u : RawTerm) (us ts : RawTerms) → is_within (cons u us) ts ≡ true → Among ts u
head_within u us nil w = absurd (both_ways _ refl w)
head_within u us (cons t ts) w = by_test (same u t) refl w (head_within u us ts)
  where
    by_test : (b : Bool) → same u t ≡ b → cond b (is_within us ts) (is_within (cons u us) ts) ≡ true → (is_within (cons u us) ts ≡ true → Among ts u) → (t ≡ u) ⊎ Among ts u
    by_test true q w r = inl (sym (same_term u t q))
    by_test false q w r = inr (r w)

-- the numbers of a part are the least
abbrev HasLeast : ℕ → RawTerm → RawTerms → RawTerms → Type 0
HasLeast i x us ts = is_within us ts ≡ true → (a b : ℕ) → a < b → slice_get (list_of ts) a ≡ Some x → slice_get (list_of ts) b ≡ Some x → Member (i + b) (numbers_of i us ts) → Member (i + a) (numbers_of i us ts)

part_least : (i : ℕ) (us ts : RawTerms) → Climbs us → Climbs ts → is_within us ts ≡ true → LeastFrom i (numbers_of i us ts) ts
part_least i nil ts cu ct w a b x h p q m = absurd m
part_least i (cons u us) nil cu ct w a b x h p q m = absurd m
part_least i (cons u us) (cons t ts) cu ct w a b x h p q m =
    by_test (same u t) refl w a b h p q m (λ w a b. part_least (suc i) us ts cu.1 ct.1 w a b x) (λ w a b. part_least (suc i) (cons u us) ts cu ct.1 w a b x)
  where
    -- the first isn't in a part that begins behind it, so none that is equal is
    not_there : same u t ≡ false → is_within (cons u us) ts ≡ true → Among (cons u us) t → ⊥
    not_there e w m =
        let low : stands_after t u ≡ false = each_among (λ v. stands_after t v ≡ false) u ts ct.0 (head_within u us ts w) in
        let high : stands_after u t ≡ false = each_among (λ v. stands_after u v ≡ false) t (cons u us) (not_after_itself u, cu.0) m in
        both_ways _ e (same-equal u t (after-antisym u t high low))

    by_test : (c : Bool) → same u t ≡ c → cond c (is_within us ts) (is_within (cons u us) ts) ≡ true → (a b : ℕ) → a < b → slice_get (t ∷ list_of ts) a ≡ Some x → slice_get (t ∷ list_of ts) b ≡ Some x
        → Member (i + b) (cond c (i ∷ numbers_of (suc i) us ts) (numbers_of (suc i) (cons u us) ts)) → HasLeast (suc i) x us ts → HasLeast (suc i) x (cons u us) ts → Member (i + a) (cond c (i ∷ numbers_of (suc i) us ts) (numbers_of (suc i) (cons u us) ts))
    by_test c e w a zero h p q m r s = absurd (omega (arith, h))
    by_test true e w zero (suc b) h p q m r s = inl (omega arith)
    by_test true e w (suc a) (suc b) h p q (inl d) r s = absurd (omega (arith, d))
    by_test true e w (suc a) (suc b) h p q (inr m) r s =
        inr (subst (λ n. Member n (numbers_of (suc i) us ts)) (omega arith)
        (r w a b (omega (arith, h)) p q (subst (λ n. Member n (numbers_of (suc i) us ts)) (omega arith) m)))
    by_test false e w zero (suc b) h p q m r s =
        let y : t ≡ x = same_Some t x p in
        let k : Among (cons u us) x = numbered_among (suc i) b x (cons u us) ts (subst (λ n. Member n (numbers_of (suc i) (cons u us) ts)) (omega arith) m) q in
        absurd (not_there e w (subst (Among (cons u us)) (sym y) k))
    by_test false e w (suc a) (suc b) h p q m r s =
        subst (λ n. Member n (numbers_of (suc i) (cons u us) ts)) (omega arith)
        (s w a b (omega (arith, h)) p q (subst (λ n. Member n (numbers_of (suc i) (cons u us) ts)) (omega arith) m))

pub numbers_least : (us ts : RawTerms) → Climbs us → Climbs ts → is_within us ts ≡ true → AreLeast (numbers_of 1 us ts) ts
numbers_least us ts cu ct w zero j x h p q m = absurd (none-some x p)
numbers_least us ts cu ct w (suc a) zero x h p q m = absurd (omega (arith, h))
numbers_least us ts cu ct w (suc a) (suc b) x h p q m =
    subst (λ n. Member n (numbers_of 1 us ts)) (omega arith) (part_least 1 us ts cu ct w a b x (omega (arith, h)) p q (subst (λ n. Member n (numbers_of 1 us ts)) (omega arith) m))

-- numbers that follow one another
pub length_from : (n count : ℕ) → length (numbers_from n count) ≡ count
length_from n zero = refl
length_from n (suc count) = ap suc (length_from (suc n) count)

chosen_front : (k count : ℕ) (ts : RawTerms) → chosen k (numbers_from k count) ts ≡ front count ts
chosen_front k zero ts = refl
chosen_front k (suc count) nil = refl
chosen_front k (suc count) (cons t ts) = rw (eq-eqb k k refl) (ap (cons t) (chosen_front (suc k) count ts))

chosen_later : (k i count : ℕ) (ts : RawTerms) → chosen k (numbers_from (k + i) count) ts ≡ front count (skip i ts)
chosen_later k zero count ts = ap (λ n. chosen k (numbers_from n count) ts) (omega arith) ∙ chosen_front k count ts
chosen_later k (suc i) zero nil = refl
chosen_later k (suc i) (suc count) nil = refl
chosen_later k (suc i) zero (cons t ts) = refl
chosen_later k (suc i) (suc count) (cons t ts) =
    let e : k + suc i ≡ suc k + i = omega arith in
    rw (not_here (nat_eq k (k + suc i)) refl) (ap (λ n. chosen (suc k) (numbers_from n (suc count)) ts) e ∙ chosen_later (suc k) i (suc count) ts)
  where
    not_here : (b : Bool) → nat_eq k (k + suc i) ≡ b → b ≡ false
    not_here false q = refl
    not_here true q = let w = eqb-true k (k + suc i) q in absurd (omega (arith, w))

pub chosen_from : (i count : ℕ) (ts : RawTerms) → chosen 1 (numbers_from (suc i) count) ts ≡ front count (skip i ts)
chosen_from i count ts = ap (λ n. chosen 1 (numbers_from n count) ts) (omega arith) ∙ chosen_later 1 i count ts

pub rise_from : (j n count m : ℕ) → j ≤ n → n + count ≤ m → Rise j m (numbers_from n count)
rise_from j n zero m a b = tt
rise_from j n (suc count) m a b = (a, omega (arith, b), rise_from (suc n) (suc n) count m (omega arith) (omega (arith, b)))

pub follow_from : (n count : ℕ) → Follow (numbers_from n count)
follow_from n zero = tt
follow_from n (suc zero) = tt
follow_from n (suc (suc count)) = (refl, follow_from (suc n) (suc count))

pub from_follow : (k : ℕ) (ks : List ℕ) → Follow (k ∷ ks) → k ∷ ks ≡ numbers_from k (suc (length ks))
from_follow k [] h = refl
from_follow k (l ∷ ks) h = ap (λ ls. k ∷ ls) (from_follow l ks h.1 ∙ ap (λ n. numbers_from n (suc (length ks))) h.0)
