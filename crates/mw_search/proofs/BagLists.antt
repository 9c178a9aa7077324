-- Lists of terms by index, and what becomes of them step by step: elements taken away, indices of different elements,
-- runs, and spreads.
use Rattle.std.specs.Prelude.{◌⊎◌, Bool, true, false, not, cond, refl}
use Rattle.std.proofs.Common.{◌≡◌, ◌∙◌, ℕ, zero, suc, ◌+◌, ◌-◌, ◌^◌, ◌<◌, ◌≤◌, min, List, [], ◌∷◌, ◌++◌, length, get_or, take, drop, reverse, inl, inr, ap, sym, arith, add-one, drop-cons, drop_of_length-le, length-drop, take-append-drop}
use Rattle.std.proofs.Math.Seq.{take-suc, drop-nil}
use Rattle.std.proofs.Math.ListN.{set}
use Rattle.std.proofs.lemmas.List.{reverse-reverse, reverse-append, set_at, get_or_at, take_all, length_push}
use Rattle.std.proofs.lemmas.Grind.{reverse_onto}
use Rattle.mw_logic.specs.Term.{RawTerm, RawTerms, nil, cons, join}
use Rattle.mw_logic.specs.Terms.{terms_of}
use Rattle.mw_logic.specs.Parts.{number_of_terms}
use Rattle.mw_logic.proofs.SortLaws.{join-nil}
use Rattle.mw_logic.proofs.Pushed.{join_pushed}
use Rattle.mw_arguments.specs.Bags.{same, with_one, runs, heads, numbers, copies, spread}
use Rattle.mw_arguments.proofs.Runs.{same-equal, runs-spread}
use Rattle.mw_matching.specs.Multisets.{is_within, left_behind, term_at, without, is_new, news, numbers_without}
use Rattle.mw_search.specs.Bags.{AreRuns}

-- a list of terms, by index
pub number_terms : (xs : List RawTerm) → number_of_terms (terms_of xs) ≡ length xs
number_terms [] = refl
number_terms (x ∷ xs) = ap suc (number_terms xs)

in_or_past : {A : Type 0} (xs : List A) (i : ℕ) → (i < length xs) ⊎ (length xs ≤ i)
in_or_past [] i = inr (omega arith)
in_or_past (x ∷ xs) zero = inl (omega arith)
in_or_past (x ∷ xs) (suc i) = elim (in_or_past xs i) [ inl h ↦ inl (omega (arith, h)) | inr h ↦ inr (omega (arith, h)) ]

next : (i : ℕ) → suc i + 1 ≡ suc (i + 1)
next i = omega arith

pub terms_at : (xs : List RawTerm) (i : ℕ) (t : RawTerm) → i < length xs → t ≡ get_or xs i t → terms_of (drop i xs) ≡ cons t (terms_of (drop (i + 1) xs))
terms_at xs i t h e = ap terms_of (drop-cons xs i t h) ∙ rw (← e, add-one) refl

pub terms_past : (xs : List RawTerm) (i : ℕ) → length xs ≤ i → terms_of (drop i xs) ≡ nil
terms_past xs i h = ap terms_of (drop_of_length-le xs h)

pub at_index : (xs : List RawTerm) (i : ℕ) (t : RawTerm) → i < length xs → t ≡ get_or xs i t → t ≡ term_at i (terms_of xs)
at_index [] i t h e = absurd (omega (arith, h))
at_index (x ∷ xs) zero t h e = e
at_index (x ∷ xs) (suc i) t h e = at_index xs i t (omega (arith, h)) e

terms_from : (xs : List RawTerm) (i : ℕ) → i < length xs → terms_of (drop i xs) ≡ cons (term_at i (terms_of xs)) (terms_of (drop (i + 1) xs))
terms_from [] i h = absurd (omega (arith, h))
terms_from (x ∷ xs) zero h = refl
terms_from (x ∷ xs) (suc i) h = terms_from xs i (omega (arith, h)) ∙ ap (λ n. cons (term_at i (terms_of xs)) (terms_of (drop n (x ∷ xs)))) (sym (next i))

-- elements taken away: ts are still to be found in zs, and the others that were met are kept
pub record IsTaking (taken elements ts zs left : RawTerms) : Type 0 where
  pub within : is_within taken elements ≡ is_within ts zs
  pub leaves : left_behind taken elements ≡ join left (left_behind ts zs)

pub taken_one : (taken elements left : RawTerms) (xs ys : List RawTerm) (i k : ℕ) (y : RawTerm) → i < length xs → k < length ys → y ≡ get_or ys k y → same (term_at i (terms_of xs)) y ≡ true
    → IsTaking taken elements (terms_of (drop i xs)) (terms_of (drop k ys)) left → IsTaking taken elements (terms_of (drop (i + 1) xs)) (terms_of (drop (k + 1) ys)) left
taken_one taken elements left xs ys i k y h j e s t = record {
  within = t.within ∙ ap (λ ts. is_within ts (terms_of (drop k ys))) (terms_from xs i h) ∙ ap (is_within (cons (term_at i (terms_of xs)) (terms_of (drop (i + 1) xs)))) (terms_at ys k y j e) ∙ rw s refl;
  leaves = t.leaves ∙ ap (join left) (ap (λ ts. left_behind ts (terms_of (drop k ys))) (terms_from xs i h) ∙ ap (left_behind (cons (term_at i (terms_of xs)) (terms_of (drop (i + 1) xs)))) (terms_at ys k y j e) ∙ rw s refl);
}

pub left_one : (taken elements : RawTerms) (left xs ys : List RawTerm) (i k : ℕ) (y : RawTerm) → k < length ys → y ≡ get_or ys k y → (i < length xs → same (term_at i (terms_of xs)) y ≡ false)
    → IsTaking taken elements (terms_of (drop i xs)) (terms_of (drop k ys)) (terms_of left) → IsTaking taken elements (terms_of (drop i xs)) (terms_of (drop (k + 1) ys)) (terms_of (left ++ y ∷ []))
left_one taken elements left xs ys i k y j e s t = record {
  within = t.within ∙ ap (is_within (terms_of (drop i xs))) (terms_at ys k y j e) ∙ within (in_or_past xs i);
  leaves = t.leaves ∙ ap (join (terms_of left)) (ap (left_behind (terms_of (drop i xs))) (terms_at ys k y j e) ∙ leaves (in_or_past xs i)) ∙ sym (join_pushed left y (left_behind (terms_of (drop i xs)) (terms_of (drop (k + 1) ys))));
}
  where
    within : (i < length xs) ⊎ (length xs ≤ i) → is_within (terms_of (drop i xs)) (cons y (terms_of (drop (k + 1) ys))) ≡ is_within (terms_of (drop i xs)) (terms_of (drop (k + 1) ys))
    within (inl h) = let d : terms_of (drop i xs) ≡ cons (term_at i (terms_of xs)) (terms_of (drop (i + 1) xs)) = terms_from xs i h in let f : same (term_at i (terms_of xs)) y ≡ false = s h in rw d (rw f refl)
    within (inr h) = let d : terms_of (drop i xs) ≡ nil = terms_past xs i h in rw d refl

    leaves : (i < length xs) ⊎ (length xs ≤ i) → left_behind (terms_of (drop i xs)) (cons y (terms_of (drop (k + 1) ys))) ≡ cons y (left_behind (terms_of (drop i xs)) (terms_of (drop (k + 1) ys)))
    leaves (inl h) = let d : terms_of (drop i xs) ≡ cons (term_at i (terms_of xs)) (terms_of (drop (i + 1) xs)) = terms_from xs i h in let f : same (term_at i (terms_of xs)) y ≡ false = s h in rw d (rw f refl)
    leaves (inr h) = let d : terms_of (drop i xs) ≡ nil = terms_past xs i h in rw d refl

pub none_taken : (taken elements left : RawTerms) (xs ys : List RawTerm) (i k : ℕ) → i < length xs → length ys ≤ k → IsTaking taken elements (terms_of (drop i xs)) (terms_of (drop k ys)) left → is_within taken elements ≡ false
none_taken taken elements left xs ys i k h j t =
    t.within ∙ ap (λ ts. is_within ts (terms_of (drop k ys))) (terms_from xs i h) ∙ ap (is_within (cons (term_at i (terms_of xs)) (terms_of (drop (i + 1) xs)))) (terms_past ys k j)

pub all_taken : (taken elements left : RawTerms) (xs ys : List RawTerm) (i k : ℕ) → length xs ≤ i → length ys ≤ k → IsTaking taken elements (terms_of (drop i xs)) (terms_of (drop k ys)) left
    → (is_within taken elements ≡ true) × (left ≡ left_behind taken elements)
all_taken taken elements left xs ys i k h j t = (
  t.within ∙ ap (λ ts. is_within ts (terms_of (drop k ys))) (terms_past xs i h),
  sym (t.leaves ∙ ap (join left) (ap (λ ts. left_behind ts (terms_of (drop k ys))) (terms_past xs i h) ∙ terms_past ys k j) ∙ join-nil left),
)

-- the indices of different elements
news_step : (zs : RawTerms) (i n : ℕ) → i < n → news zs i (n - i) ≡ cond (is_new zs i) (i ∷ news zs (i + 1) (n - (i + 1))) (news zs (i + 1) (n - (i + 1)))
news_step zs i n h =
    let e : n - i ≡ suc (n - (i + 1)) = omega (arith, h) in
    let f : suc i ≡ i + 1 = omega arith in
    ap (news zs i) e ∙ ap (λ j. cond (is_new zs i) (i ∷ news zs j (n - (i + 1))) (news zs j (n - (i + 1)))) f

pub news_here : (zs : RawTerms) (i n : ℕ) → i < n → is_new zs i ≡ true → news zs i (n - i) ≡ i ∷ news zs (i + 1) (n - (i + 1))
news_here zs i n h e = news_step zs i n h ∙ ap (λ b. cond b (i ∷ news zs (i + 1) (n - (i + 1))) (news zs (i + 1) (n - (i + 1)))) e

pub news_behind : (zs : RawTerms) (i n : ℕ) → i < n → is_new zs i ≡ false → news zs i (n - i) ≡ news zs (i + 1) (n - (i + 1))
news_behind zs i n h e = news_step zs i n h ∙ ap (λ b. cond b (i ∷ news zs (i + 1) (n - (i + 1))) (news zs (i + 1) (n - (i + 1)))) e

pub new_test : (zs : RawTerms) (i : ℕ) → 0 < i → is_new zs i ≡ not (same (term_at i zs) (term_at (i - 1) zs))
new_test zs zero h = absurd (omega (arith, h))
new_test zs (suc i) h = let e : i ≡ suc i - 1 = omega arith in ap (λ j. not (same (term_at (suc i) zs) (term_at j zs))) e

pub news_none : (zs : RawTerms) (i n : ℕ) → n ≤ i → news zs i (n - i) ≡ []
news_none zs i n h = let e : n - i ≡ 0 = omega (arith, h) in ap (news zs i) e

-- without the element of an index: up to i the others were put
pub record IsWithout (index : ℕ) (xs : List RawTerm) (i : ℕ) (made : List RawTerm) : Type 0 where
  pub before : i ≤ index → made ≡ take i xs
  pub behind : index < i → join (terms_of made) (terms_of (drop i xs)) ≡ without index (terms_of xs)

without_here : (xs : List RawTerm) (i : ℕ) → i < length xs → join (terms_of (take i xs)) (terms_of (drop (i + 1) xs)) ≡ without i (terms_of xs)
without_here [] i h = absurd (omega (arith, h))
without_here (x ∷ xs) zero h = refl
without_here (x ∷ xs) (suc i) h = ap (λ n. cons x (join (terms_of (take i xs)) (terms_of (drop n (x ∷ xs))))) (next i) ∙ ap (cons x) (without_here xs i (omega (arith, h)))

without_past : (zs : RawTerms) (i : ℕ) → number_of_terms zs ≤ i → without i zs ≡ zs
without_past nil i h = refl
without_past (cons z zs) zero h = absurd (omega (arith, h))
without_past (cons z zs) (suc i) h = ap (cons z) (without_past zs i (omega (arith, h)))

pub without_skipped : (index : ℕ) (xs made : List RawTerm) (i : ℕ) → i < length xs → i ≡ index → IsWithout index xs i made → IsWithout index xs (i + 1) made
without_skipped index xs made i h e w = record {
  before = λ k. absurd (omega (arith, k, e));
  behind = λ k. ap (λ ts. join (terms_of ts) (terms_of (drop (i + 1) xs))) (w.before (omega (arith, e))) ∙ without_here xs i h ∙ ap (λ n. without n (terms_of xs)) e;
}

pub without_put : (index : ℕ) (xs made : List RawTerm) (i : ℕ) (t : RawTerm) → i < length xs → t ≡ get_or xs i t → (i ≡ index → ⊥) → IsWithout index xs i made → IsWithout index xs (i + 1) (made ++ t ∷ [])
without_put index xs made i t h e n w = record {
  before = λ k. ap (λ ts. ts ++ t ∷ []) (w.before (omega (arith, k))) ∙ ap (λ x. take i xs ++ x ∷ []) e ∙ sym (take-suc xs i t h) ∙ ap (λ j. take j xs) (sym (add-one i));
  behind = λ k. join_pushed made t (terms_of (drop (i + 1) xs)) ∙ ap (join (terms_of made)) (sym (terms_at xs i t h e)) ∙ w.behind (below k);
}
  where
    below : index < i + 1 → index < i
    below k = omega (arith, k, n)

pub without_done : (index : ℕ) (xs made : List RawTerm) (i : ℕ) → i ≡ length xs → IsWithout index xs i made → terms_of made ≡ without index (terms_of xs)
without_done index xs made i e w = of (in_or_past xs index)
  where
    of : (index < length xs) ⊎ (length xs ≤ index) → terms_of made ≡ without index (terms_of xs)
    of (inl h) = sym (join-nil (terms_of made)) ∙ ap (join (terms_of made)) (sym (terms_past xs i (omega (arith, e)))) ∙ w.behind (omega (arith, e, h))
    of (inr h) = ap terms_of (w.before (omega (arith, e, h)) ∙ take_all i xs (omega (arith, e))) ∙ sym (without_past (terms_of xs) index (omega (arith, number_terms xs, h)))

pub spread_past : (ds : List RawTerm) (ns : List ℕ) (i : ℕ) → min (length ds) (length ns) ≤ i → spread (drop i ds) (drop i ns) ≡ nil
spread_past ds ns i h = of (in_or_past ds i)
  where
    none : (xs : List RawTerm) → spread xs [] ≡ nil
    none [] = refl
    none (x ∷ xs) = refl

    of : (i < length ds) ⊎ (length ds ≤ i) → spread (drop i ds) (drop i ns) ≡ nil
    of (inl k) = ap (spread (drop i ds)) (drop_of_length-le ns (omega (arith, k, h))) ∙ none (drop i ds)
    of (inr k) = ap (λ xs. spread xs (drop i ns)) (drop_of_length-le ds k)

copies_more : (n : ℕ) (t : RawTerm) (us : RawTerms) → copies n t (cons t us) ≡ copies (n + 1) t us
copies_more zero t us = refl
copies_more (suc n) t us = ap (cons t) (copies_more n t us) ∙ ap (λ m. copies m t us) (sym (next n))

pub copied_more : (made new start : List RawTerm) (n : ℕ) (t u : RawTerm) → ((us : RawTerms) → join (terms_of made) us ≡ join (terms_of start) (copies n t us)) → new ≡ made ++ u ∷ [] → u ≡ t
    → (us : RawTerms) → join (terms_of new) us ≡ join (terms_of start) (copies (n + 1) t us)
copied_more made new start n t u h e w us =
    ap (λ (xs : List RawTerm). join (terms_of xs) us) e ∙ join_pushed made u us ∙ ap (λ x. join (terms_of made) (cons x us)) w ∙ h (cons t us) ∙ ap (join (terms_of start)) (copies_more n t us)

-- numbers less what is taken
pub numbers_at : (ns c : List ℕ) (i : ℕ) → i < length ns → numbers_without (drop i ns) (drop i c) ≡ (get_or ns i 0 - get_or c i 0) ∷ numbers_without (drop (i + 1) ns) (drop (i + 1) c)
numbers_at [] c i h = absurd (omega (arith, h))
numbers_at (n ∷ ns) [] zero h = ap (λ m. m ∷ numbers_without ns []) (less_none n)
  where
    less_none : (n : ℕ) → n ≡ n - 0
    less_none n = omega arith
numbers_at (n ∷ ns) (m ∷ c) zero h = refl
numbers_at (n ∷ ns) [] (suc i) h =
    ap (numbers_without (drop i ns)) (sym (drop-nil i)) ∙ numbers_at ns [] i (omega (arith, h))
    ∙ ap (λ x. (get_or ns i 0 - 0) ∷ numbers_without (drop (i + 1) ns) x) (drop-nil (i + 1) ∙ sym (drop-nil (suc i + 1))) ∙ ap (λ j. (get_or ns i 0 - 0) ∷ numbers_without (drop j (n ∷ ns)) (drop (suc i + 1) [])) (sym (next i))
numbers_at (n ∷ ns) (m ∷ c) (suc i) h =
    numbers_at ns c i (omega (arith, h)) ∙ ap (λ j. (get_or ns i 0 - get_or c i 0) ∷ numbers_without (drop j (n ∷ ns)) (drop j (m ∷ c))) (sym (next i))

-- the last of a list
pub is_last_of : {A : Type 0} (xs : List A) (d : A) → 0 < length xs → d ≡ get_or xs (length xs - 1) d → xs ≡ take (length xs - 1) xs ++ d ∷ []
is_last_of {A} xs d h e =
    let k : length xs - 1 < length xs = omega (arith, h) in
    let past : length xs ≤ suc (length xs - 1) = omega (arith, h) in
    sym (take-append-drop (length xs - 1) xs) ∙ ap (λ ys. take (length xs - 1) xs ++ ys) (drop-cons xs (length xs - 1) d k)
    ∙ ap (λ x. take (length xs - 1) xs ++ x ∷ drop (suc (length xs - 1)) xs) (sym e) ∙ ap (λ ys. take (length xs - 1) xs ++ d ∷ ys) (drop_of_length-le xs past)

-- runs, made from the last element to the first; what was made is turned round
pub record IsRunsFrom (xs : List RawTerm) (i : ℕ) (hs : List RawTerm) (ns : List ℕ) : Type 0 where
  pub inside : i ≤ length xs
  pub small : length xs < 2 ^ 64
  pub terms : reverse hs ≡ heads (runs (terms_of (drop i xs)))
  pub numbers_are : reverse ns ≡ numbers (runs (terms_of (drop i xs)))

reverse_pushed : {A : Type 0} (xs : List A) (x : A) → reverse (xs ++ x ∷ []) ≡ x ∷ reverse xs
reverse_pushed xs x = reverse-append xs (x ∷ [])

turned_first : {A : Type 0} (xs ys : List A) (x : A) → reverse xs ≡ x ∷ ys → xs ≡ reverse ys ++ x ∷ []
turned_first xs ys x e = sym (reverse-reverse xs) ∙ ap reverse e ∙ reverse_onto ys x []

-- the first run has no more than all
first_number : (zs : RawTerms) (n : ℕ) (ns : List ℕ) → numbers (runs zs) ≡ n ∷ ns → n ≤ number_of_terms zs
first_number nil n ns e = cc
first_number (cons z zs) n ns e = of (runs zs) e (first_number zs)
  where
    of : (rs : List (RawTerm × ℕ)) → numbers (with_one z rs) ≡ n ∷ ns → ((m : ℕ) (ms : List ℕ) → numbers rs ≡ m ∷ ms → m ≤ number_of_terms zs) → n ≤ suc (number_of_terms zs)
    of [] e h = let f : 1 ≡ n = cc in omega (arith, f)
    of (r ∷ rs) e h = by_test (same z r.0) e (h r.1 (numbers rs) refl)
      where
        by_test : (b : Bool) → numbers (cond b ((r.0, suc r.1) ∷ rs) ((z, 1) ∷ r ∷ rs)) ≡ n ∷ ns → r.1 ≤ number_of_terms zs → n ≤ suc (number_of_terms zs)
        by_test true e k = let f : suc r.1 ≡ n = cc in omega (arith, f, k)
        by_test false e k = let f : 1 ≡ n = cc in omega (arith, f)

one_longer : (xs : List RawTerm) (i j : ℕ) (t : RawTerm) → j + 1 ≡ i → i ≤ length xs → t ≡ get_or xs j t → terms_of (drop j xs) ≡ cons t (terms_of (drop i xs))
one_longer xs i j t e h w = terms_at xs j t (omega (arith, e, h)) w ∙ ap (λ n. cons t (terms_of (drop n xs))) e

-- a term that is that of the first run
pub record IsOneMore (xs : List RawTerm) (i : ℕ) (ns : List ℕ) : Type 0 where
  pub some : 0 < length ns
  pub few : get_or ns (length ns - 1) 0 ≤ length xs - i

same_first : (xs hs ds : List RawTerm) (ns : List ℕ) (i : ℕ) (t : RawTerm) → IsRunsFrom xs i hs ns → hs ≡ ds ++ t ∷ [] → (r : RawTerm × ℕ) × (rs : List (RawTerm × ℕ)) × (runs (terms_of (drop i xs)) ≡ r ∷ rs) × (t ≡ r.0)
same_first xs hs ds ns i t w e = of (runs (terms_of (drop i xs))) refl (sym (reverse_pushed ds t) ∙ ap reverse (sym e) ∙ w.terms)
  where
    of : (rs : List (RawTerm × ℕ)) → runs (terms_of (drop i xs)) ≡ rs → (t ∷ reverse ds) ≡ heads rs → (r : RawTerm × ℕ) × (rs : List (RawTerm × ℕ)) × (runs (terms_of (drop i xs)) ≡ r ∷ rs) × (t ≡ r.0)
    of [] u f = cc
    of (r ∷ rs) u f = (r, rs, u, cc)

pub one_more : (xs hs ds : List RawTerm) (ns : List ℕ) (i : ℕ) (t : RawTerm) → IsRunsFrom xs i hs ns → hs ≡ ds ++ t ∷ [] → IsOneMore xs i ns
one_more xs hs ds ns i t w e =
    let (r, rs, u, f) = same_first xs hs ds ns i t w e in
    let m : reverse ns ≡ r.1 ∷ numbers rs = w.numbers_are ∙ ap numbers u in
    let v : ns ≡ reverse (numbers rs) ++ r.1 ∷ [] = turned_first ns (numbers rs) r.1 m in
    let l : length ns ≡ length (reverse (numbers rs)) + 1 = ap length v ∙ length_push (reverse (numbers rs)) r.1 in
    let k : r.1 ≤ number_of_terms (terms_of (drop i xs)) = first_number (terms_of (drop i xs)) r.1 (numbers rs) (ap numbers u) in
    let g : get_or ns (length ns - 1) 0 ≡ r.1 = ap (λ ys. get_or ys (length ns - 1) 0) v ∙ get_or_at (reverse (numbers rs)) r.1 [] 0 (length ns - 1) (omega (arith, l)) in
    record { some = omega (arith, l); few = omega (arith, g, k, number_terms (drop i xs), length-drop i xs) }

pub runs_counted : (xs hs ds : List RawTerm) (ns : List ℕ) (i j n : ℕ) (t : RawTerm) → j + 1 ≡ i → t ≡ get_or xs j t → IsRunsFrom xs i hs ns → hs ≡ ds ++ t ∷ [] → n ≡ get_or ns (length ns - 1) 0 + 1
    → IsRunsFrom xs j hs (set ns (length ns - 1) n)
runs_counted xs hs ds ns i j n t e a w h c =
    let (r, rs, u, f) = same_first xs hs ds ns i t w h in
    let m : reverse ns ≡ r.1 ∷ numbers rs = w.numbers_are ∙ ap numbers u in
    let v : ns ≡ reverse (numbers rs) ++ r.1 ∷ [] = turned_first ns (numbers rs) r.1 m in
    let l : length ns ≡ length (reverse (numbers rs)) + 1 = ap length v ∙ length_push (reverse (numbers rs)) r.1 in
    let g : get_or ns (length ns - 1) 0 ≡ r.1 = ap (λ ys. get_or ys (length ns - 1) 0) v ∙ get_or_at (reverse (numbers rs)) r.1 [] 0 (length ns - 1) (omega (arith, l)) in
    let p : n ≡ suc r.1 = omega (arith, c, g) in
    let s : set ns (length ns - 1) n ≡ reverse (numbers rs) ++ n ∷ [] = ap (λ ys. set ys (length ns - 1) n) v ∙ set_at (reverse (numbers rs)) r.1 [] n (length ns - 1) (omega (arith, l)) in
    let z : runs (terms_of (drop j xs)) ≡ (r.0, suc r.1) ∷ rs =
    ap runs (one_longer xs i j t e w.inside a) ∙ ap (with_one t) u ∙ ap (λ b. cond b ((r.0, suc r.1) ∷ rs) ((t, 1) ∷ r ∷ rs)) (same-equal t r.0 f) in
    record {
      inside = omega (arith, e, w.inside);
      small = w.small;
      terms = w.terms ∙ ap heads u ∙ sym (ap heads z);
      numbers_are = ap reverse s ∙ reverse_pushed (reverse (numbers rs)) n ∙ ap (λ ys. n ∷ ys) (reverse-reverse (numbers rs)) ∙ ap (λ k. k ∷ numbers rs) p ∙ sym (ap numbers z);
    }

pub runs_put : (xs hs : List RawTerm) (ns : List ℕ) (i j : ℕ) (t : RawTerm) → j + 1 ≡ i → t ≡ get_or xs j t → IsRunsFrom xs i hs ns → ((ds : List RawTerm) (d : RawTerm) → hs ≡ ds ++ d ∷ [] → same t d ≡ false)
    → IsRunsFrom xs j (hs ++ t ∷ []) (ns ++ 1 ∷ [])
runs_put xs hs ns i j t e a w h = of (runs (terms_of (drop i xs))) refl
  where
    of : (rs : List (RawTerm × ℕ)) → runs (terms_of (drop i xs)) ≡ rs → IsRunsFrom xs j (hs ++ t ∷ []) (ns ++ 1 ∷ [])
    of rs u = record {
      inside = omega (arith, e, w.inside);
      small = w.small;
      terms = reverse_pushed hs t ∙ ap (λ ys. t ∷ ys) (w.terms ∙ ap heads u) ∙ sym (ap heads (z rs u));
      numbers_are = reverse_pushed ns 1 ∙ ap (λ ys. 1 ∷ ys) (w.numbers_are ∙ ap numbers u) ∙ sym (ap numbers (z rs u));
    }
      where
        z : (rs : List (RawTerm × ℕ)) → runs (terms_of (drop i xs)) ≡ rs → runs (terms_of (drop j xs)) ≡ (t, 1) ∷ rs
        z [] u = ap runs (one_longer xs i j t e w.inside a) ∙ ap (with_one t) u
        z (r ∷ rs) u =
            let q : same t r.0 ≡ false = h (reverse (heads rs)) r.0 (turned_first hs (heads rs) r.0 (w.terms ∙ ap heads u)) in
            ap runs (one_longer xs i j t e w.inside a) ∙ ap (with_one t) u ∙ ap (λ b. cond b ((r.0, suc r.1) ∷ rs) ((t, 1) ∷ r ∷ rs)) q

-- runs and their spread
pub spread_runs : (zs : RawTerms) (ds : List RawTerm) (ns : List ℕ) → ds ≡ heads (runs zs) → ns ≡ numbers (runs zs) → spread ds ns ≡ zs
spread_runs zs ds ns d n = ap (λ xs. spread xs ns) d ∙ ap (spread (heads (runs zs))) n ∙ runs-spread zs

pub are_runs : (zs : RawTerms) (ds : List RawTerm) (ns : List ℕ) → ds ≡ heads (runs zs) → ns ≡ numbers (runs zs) → AreRuns ds ns
are_runs zs ds ns d n =
    let s : spread ds ns ≡ zs = spread_runs zs ds ns d n in
    record { terms = d ∙ ap (λ xs. heads (runs xs)) (sym s); numbers_are = n ∙ ap (λ xs. numbers (runs xs)) (sym s) }
