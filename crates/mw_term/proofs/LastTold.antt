-- What is told of the last terms of lists.
use Rattle.std.proofs.Common.{◌≡◌, ◌∙◌, ℕ, zero, suc, ◌<◌, ◌≤◌, ◌+◌, ◌-◌, ◌%◌, ◌^◌, List, [], ◌∷◌, ◌++◌, length, get_or, set, drop, drop-cons, length-set, inl, inr, ap, sym, refl, arith, length-append}
use Rattle.std.specs.Prelude.{slice_range}
use Rattle.std.proofs.Math.ListN.{get_or-append}
use Rattle.std.proofs.Math.Seq.{get_or-append_seam}
use Rattle.std.proofs.lemmas.Bool.{cases_lt}
use Rattle.std.proofs.lemmas.List.{drop-append-le, drop_all, get_or-set_other, get_or-set_same}
use Rattle.std.proofs.lemmas.List.Folds.{drop_split}
use Rattle.mw_logic.specs.Term.{RawTerm}
use Rattle.mw_logic.specs.Terms.{terms_of}
use Rattle.mw_term.specs.Facts.{facts_of, facts_of_all, facts_of_nothing, facts_joined}
use Rattle.mw_term.specs.Hashes.{hash_of, hash_sum, scattered}
use Rattle.mw_term.specs.Sections.{AreJoined, AreTold, IsTable, told_by}
use Rattle.mw_term.specs.declared.facts.Facts.{Facts}
use Rattle.mw_term.specs.declared.told.Told.{Told}
use Rattle.mw_term.proofs.Hashes.{sum_append, sum_small}
use Rattle.mw_term.proofs.KeptFacts.{facts-append, facts_of_more, facts_of_one, joined_assoc}

abbrev pub telling : ℕ → Facts → Told
telling n a = record { sum = n; facts = a }

-- sums from a base
in_front : (b h s : ℕ) → (h + (b + s) % 2 ^ 32) % 2 ^ 32 ≡ (b + (h + s) % 2 ^ 32) % 2 ^ 32
in_front b h s = omega arith

behind : (b c h s n : ℕ) → s < 2 ^ 32 → n ≡ (b + 0) % 2 ^ 32 → c ≡ (n + (2 ^ 32 - (h + 0) % 2 ^ 32)) % 2 ^ 32 → (b + s) % 2 ^ 32 ≡ (c + (s + (h + 0) % 2 ^ 32) % 2 ^ 32) % 2 ^ 32
behind b c h s n k e f = omega (arith, k, e, f)

apart : (b part rest : ℕ) → part < 2 ^ 32 → ((b + (part + rest) % 2 ^ 32) % 2 ^ 32 + (2 ^ 32 - (b + rest) % 2 ^ 32)) % 2 ^ 32 ≡ part
apart b part rest h = omega (arith, h)

-- of a term in front of others
pub told_first : (b : ℕ) (t : RawTerm) (ts : List RawTerm) (o : Told) (n : ℕ) (a f : Facts) → o ≡ told_by b ts → n ≡ (scattered (hash_of t) + o.sum) % 2 ^ 32 → f ≡ facts_of t → a ≡ facts_joined f o.facts
    → telling n a ≡ told_by b (t ∷ ts)
told_first b t ts o n a f e p q r =
    let s : n ≡ (b + hash_sum (terms_of (t ∷ ts))) % 2 ^ 32 = p ∙ ap (λ (x : Told). (scattered (hash_of t) + x.sum) % 2 ^ 32) e ∙ in_front b (scattered (hash_of t)) (hash_sum (terms_of ts)) in
    let w : a ≡ facts_of_all (terms_of (t ∷ ts)) = r ∙ ap (λ x. facts_joined x o.facts) q ∙ ap (λ (x : Told). facts_joined (facts_of t) x.facts) e ∙ sym (facts_of_more t (terms_of ts)) in
    ap (λ m. telling m a) s ∙ ap (telling ((b + hash_sum (terms_of (t ∷ ts))) % 2 ^ 32)) w

-- of none
pub told_none : (n : Told) → n ≡ told_by 0 [] → IsTable (n ∷ []) []
told_none n e = (0, (refl, none))
  where
    none : (k : ℕ) (d : Told) → k ≤ 0 → get_or (n ∷ []) k d ≡ told_by 0 (drop (0 - k) [])
    none zero d h = e
    none (suc k) d h = absurd (omega (arith, h))

-- of one term more
pub told_push : (b : ℕ) (told : List Told) (ts us : List RawTerm) (n : Told) → length us ≡ length ts + 1 → drop 1 us ≡ ts → AreTold b told ts → n ≡ told_by b us → AreTold b (told ++ n ∷ []) us
told_push b told ts [] n l d s e = absurd (omega (arith, l))
told_push b told ts (u ∷ us) n l d s e = (more, each)
  where
    more : length (told ++ n ∷ []) ≡ length (u ∷ us) + 1
    more = let a = length-append told (n ∷ []) in omega (arith, a, s.0, l)

    each : (k : ℕ) (x : Told) → k ≤ length (u ∷ us) → get_or (told ++ n ∷ []) k x ≡ told_by b (drop (length (u ∷ us) - k) (u ∷ us))
    each k x h = elim (cases_lt k (length told)) [
      | inl m ↦
          let least : k ≤ length ts = omega (arith, m, s.0) in
          let below : length (u ∷ us) - k ≡ suc (length ts - k) = omega (arith, least, l) in
          get_or-append told (n ∷ []) x k m ∙ s.1 k x least ∙ ap (λ ys. told_by b (drop (length ts - k) ys)) (sym d) ∙ ap (λ i. told_by b (drop i (u ∷ us))) (sym below)
      | inr g ↦
          let is : k ≡ length told = omega (arith, g, h, s.0, l) in
          let none : length (u ∷ us) - k ≡ 0 = omega (arith, is, s.0, l) in
          ap (λ i. get_or (told ++ n ∷ []) i x) is ∙ get_or-append_seam told n [] x ∙ e ∙ ap (λ i. told_by b (drop i (u ∷ us))) (sym none)
    ]

-- from a place on
pub told_at : (b : ℕ) (told : List Told) (ts : List RawTerm) (from : ℕ) (n : Told) → AreTold b told ts → from ≤ length ts → n ≡ get_or told (length ts - from) n → n ≡ told_by b (drop from ts)
told_at b told ts from n s h e = e ∙ s.1 (length ts - from) n (omega arith) ∙ ap (λ i. told_by b (drop i ts)) (omega (arith, h))

-- before one more term the sums count from another base
pub joined_first : (b c : ℕ) (told : List Told) (ts : List RawTerm) (t : RawTerm) (n : Told) → AreTold b told ts → n ≡ get_or told 0 n → c ≡ (n.sum + (2 ^ 32 - (scattered (hash_of t) + 0) % 2 ^ 32)) % 2 ^ 32
    → AreJoined c 1 (telling c facts_of_nothing ∷ told) ts t
joined_first b c told ts t n s e f = (omega (arith, s.0), front, others)
  where
    base : n.sum ≡ (b + 0) % 2 ^ 32
    base = ap (λ (x : Told). x.sum) (e ∙ s.1 0 n (omega arith) ∙ ap (λ i. told_by b (drop i ts)) (omega arith)) ∙ ap (λ us. (b + hash_sum (terms_of us)) % 2 ^ 32) (drop_all (length ts) ts (omega arith))

    none : drop (length ts + 1) (ts ++ t ∷ []) ≡ []
    none = drop_all (length ts + 1) (ts ++ t ∷ []) (let a = length-append ts (t ∷ []) in omega (arith, a))

    front : (k : ℕ) (d : Told) → k < 1 → k ≤ length ts + 1 → get_or (telling c facts_of_nothing ∷ told) k d ≡ told_by c (drop (length ts + 1 - k) (ts ++ t ∷ []))
    front zero d h l =
        let m : c ≡ (c + 0) % 2 ^ 32 = omega (arith, f) in
        let i : length ts + 1 ≡ length ts + 1 - 0 = omega arith in
        ap (λ x. telling x facts_of_nothing) m ∙ ap (told_by c) (sym none) ∙ ap (λ j. told_by c (drop j (ts ++ t ∷ []))) i
    front (suc k) d h l = absurd (omega (arith, h))

    others : (k : ℕ) (d : Told) → 1 ≤ k → k ≤ length ts + 1
        → get_or (telling c facts_of_nothing ∷ told) k d ≡ record { sum = (c + hash_sum (terms_of (drop (length ts + 1 - k) (ts ++ t ∷ [])))) % 2 ^ 32; facts = facts_of_all (terms_of (drop (length ts + 1 - k) ts)) }
    others zero d h l = absurd (omega (arith, h))
    others (suc k) d h l =
        let j : ℕ = length ts - k in
        let i : length ts + 1 - suc k ≡ j = omega arith in
        let w : drop j (ts ++ t ∷ []) ≡ drop j ts ++ t ∷ [] = drop-append-le j ts (t ∷ []) (omega arith) in
        let m : (b + hash_sum (terms_of (drop j ts))) % 2 ^ 32 ≡ (c + hash_sum (terms_of (drop j (ts ++ t ∷ [])))) % 2 ^ 32 =
        behind b c (scattered (hash_of t)) (hash_sum (terms_of (drop j ts))) n.sum (sum_small (terms_of (drop j ts))) base f
        ∙ ap (λ x. (c + x) % 2 ^ 32) (sym (sum_append (drop j ts) (t ∷ [])) ∙ ap (λ us. hash_sum (terms_of us)) (sym w)) in
        s.1 k d (omega (arith, l)) ∙ ap (λ x. telling x (facts_of_all (terms_of (drop j ts)))) m
        ∙ ap (λ x. telling ((c + hash_sum (terms_of (drop x (ts ++ t ∷ [])))) % 2 ^ 32) (facts_of_all (terms_of (drop x ts)))) (sym i)

-- of one more term behind
one_more : (ts : List RawTerm) (t : RawTerm) (j : ℕ) → j ≤ length ts → facts_joined (facts_of_all (terms_of (drop j ts))) (facts_of t) ≡ facts_of_all (terms_of (drop j (ts ++ t ∷ [])))
one_more ts t j h =
    ap (facts_joined (facts_of_all (terms_of (drop j ts)))) (facts_of_one t) ∙ sym (facts-append (drop j ts) (t ∷ [])) ∙ ap (λ (us : List RawTerm). facts_of_all (terms_of us)) (sym (drop-append-le j ts (t ∷ []) h))

-- of which a place has the facts
abbrev joined_sum : ℕ → ℕ → List RawTerm → RawTerm → ℕ
joined_sum b j ts t = (b + hash_sum (terms_of (drop j (ts ++ t ∷ [])))) % 2 ^ 32

pub joined_next : (b at : ℕ) (told : List Told) (ts : List RawTerm) (t : RawTerm) (x : Told) (a : Facts) → AreJoined b at told ts t → 1 ≤ at → at < length told → x ≡ get_or told at x → a ≡ facts_joined x.facts (facts_of t)
    → AreJoined b (at + 1) (set told at (telling x.sum a)) ts t
joined_next b at told ts t x a s p h e f = (length-set told at (telling x.sum a) ∙ s.0, front, others)
  where
    j : ℕ
    j = length ts + 1 - at

    is : x ≡ telling (joined_sum b j ts t) (facts_of_all (terms_of (drop j ts)))
    is = e ∙ s.2 at x (omega arith) (omega (arith, h, s.0))

    right : telling x.sum a ≡ told_by b (drop j (ts ++ t ∷ []))
    right =
        let w : a ≡ facts_of_all (terms_of (drop j (ts ++ t ∷ []))) = f ∙ ap (λ (o : Told). facts_joined o.facts (facts_of t)) is ∙ one_more ts t j (omega (arith, p)) in
        ap (λ m. telling m a) (ap (λ (o : Told). o.sum) is) ∙ ap (telling (joined_sum b j ts t)) w

    front : (k : ℕ) (d : Told) → k < at + 1 → k ≤ length ts + 1 → get_or (set told at (telling x.sum a)) k d ≡ told_by b (drop (length ts + 1 - k) (ts ++ t ∷ []))
    front k d l m = elim (cases_lt k at) [
      | inl n ↦ get_or-set_other told at k (telling x.sum a) d (λ q. omega (arith, n, q)) ∙ s.1 k d n m
      | inr n ↦
          let q : at ≡ k = omega (arith, n, l) in
          ap (λ i. get_or (set told at (telling x.sum a)) i d) (sym q) ∙ get_or-set_same told at (telling x.sum a) d h ∙ right ∙ ap (λ i. told_by b (drop (length ts + 1 - i) (ts ++ t ∷ []))) q
    ]

    others : (k : ℕ) (d : Told) → at + 1 ≤ k → k ≤ length ts + 1
        → get_or (set told at (telling x.sum a)) k d ≡ telling (joined_sum b (length ts + 1 - k) ts t) (facts_of_all (terms_of (drop (length ts + 1 - k) ts)))
    others k d l m = get_or-set_other told at k (telling x.sum a) d (λ q. omega (arith, l, q)) ∙ s.2 k d (omega (arith, l)) m

pub joined_whole : (b at : ℕ) (told : List Told) (ts : List RawTerm) (t : RawTerm) → AreJoined b at told ts t → length told ≤ at → AreTold b told (ts ++ t ∷ [])
joined_whole b at told ts t s h = (s.0 ∙ omega (arith, more), each)
  where
    more : length (ts ++ t ∷ []) ≡ length ts + 1
    more = length-append ts (t ∷ [])

    each : (k : ℕ) (d : Told) → k ≤ length (ts ++ t ∷ []) → get_or told k d ≡ told_by b (drop (length (ts ++ t ∷ []) - k) (ts ++ t ∷ []))
    each k d l = s.1 k d (omega (arith, l, more, h, s.0)) (omega (arith, l, more)) ∙ ap (λ i. told_by b (drop (i - k) (ts ++ t ∷ []))) (sym more)

pub joined_early : (b at : ℕ) (told : List Told) (ts : List RawTerm) (t : RawTerm) (x : Told) → AreJoined b at told ts t → 1 ≤ at → at < length told → x ≡ get_or told at x → facts_joined x.facts (facts_of t) ≡ x.facts
    → AreTold b told (ts ++ t ∷ [])
joined_early b at told ts t x s p h e f = (s.0 ∙ omega (arith, more), each)
  where
    more : length (ts ++ t ∷ []) ≡ length ts + 1
    more = length-append ts (t ∷ [])

    all : List RawTerm → Facts
    all xs = facts_of_all (terms_of xs)

    j : ℕ
    j = length ts + 1 - at

    own : x.facts ≡ all (drop j ts)
    own = ap (λ (o : Told). o.facts) (e ∙ s.2 at x (omega arith) (omega (arith, h, s.0)))

    kept : facts_joined (all (drop j ts)) (facts_of t) ≡ all (drop j ts)
    kept = ap (λ a. facts_joined a (facts_of t)) (sym own) ∙ f ∙ own

    before : (i : ℕ) → i ≤ j → all (drop i ts) ≡ all (drop i (ts ++ t ∷ []))
    before i l =
        let mid : List RawTerm = slice_range ts i j in
        let w : all (drop i ts) ≡ facts_joined (all mid) (all (drop j ts)) = ap all (drop_split ts i j l) ∙ facts-append mid (drop j ts) in
        w ∙ ap (facts_joined (all mid)) (sym kept) ∙ sym (joined_assoc (all mid) (all (drop j ts)) (facts_of t)) ∙ ap (λ a. facts_joined a (facts_of t)) (sym w) ∙ one_more ts t i (omega (arith, l, p))

    each : (k : ℕ) (d : Told) → k ≤ length (ts ++ t ∷ []) → get_or told k d ≡ told_by b (drop (length (ts ++ t ∷ []) - k) (ts ++ t ∷ []))
    each k d l = elim (cases_lt k at) [
      | inl n ↦ s.1 k d n (omega (arith, l, more)) ∙ ap (λ i. told_by b (drop (i - k) (ts ++ t ∷ []))) (sym more)
      | inr n ↦
          let i : ℕ = length ts + 1 - k in
          s.2 k d n (omega (arith, l, more)) ∙ ap (telling (joined_sum b i ts t)) (before i (omega (arith, n))) ∙ ap (λ m. told_by b (drop (m - k) (ts ++ t ∷ []))) (sym more)
    ]

-- the list from the place before on
pub dropped_before : (xs : List RawTerm) (i : ℕ) (t : RawTerm) → 0 < i → i ≤ length xs → t ≡ get_or xs (i - 1) t → drop (i - 1) xs ≡ t ∷ drop i xs
dropped_before xs i t p h e =
    let k : suc (i - 1) ≡ i = omega (arith, p) in
    drop-cons xs (i - 1) t (omega (arith, p, h)) ∙ ap (λ j. get_or xs (i - 1) t ∷ drop j xs) k ∙ ap (λ u. u ∷ drop i xs) (sym e)

pub from_before : (xs ts : List RawTerm) (i : ℕ) (t : RawTerm) → 0 < i → i ≤ length xs → t ≡ get_or xs (i - 1) t → drop (i - 1) xs ++ ts ≡ t ∷ (drop i xs ++ ts)
from_before xs ts i t p h e = ap (λ (ys : List RawTerm). ys ++ ts) (dropped_before xs i t p h e)

-- the lists from two places in a row on, before others
pub rest_before : (xs ts : List RawTerm) (i : ℕ) → 0 < i → i ≤ length xs → (length (drop (i - 1) xs ++ ts) ≡ length (drop i xs ++ ts) + 1) × (drop 1 (drop (i - 1) xs ++ ts) ≡ drop i xs ++ ts)
rest_before xs ts zero p h = absurd (omega (arith, p))
rest_before [] ts (suc i) p h = absurd (omega (arith, h))
rest_before (x ∷ xs) ts (suc zero) p h = (omega arith, refl)
rest_before (x ∷ xs) ts (suc (suc i)) p h = let e : suc (suc i) - 1 ≡ suc (suc i - 1) = omega arith in rw e (rest_before xs ts (suc i) (omega arith) (omega (arith, h)))

-- the sum between two places
pub sum_between : (b : ℕ) (ts : List RawTerm) (from end : ℕ) (x y : Told) → from ≤ end → x ≡ told_by b (drop from ts) → y ≡ told_by b (drop end ts) → (x.sum + (2 ^ 32 - y.sum)) % 2 ^ 32 ≡ hash_sum (terms_of (slice_range ts from end))
sum_between b ts from end x y h p q =
    let mid : List RawTerm = slice_range ts from end in
    let rest : ℕ = hash_sum (terms_of (drop end ts)) in
    let w : hash_sum (terms_of (drop from ts)) ≡ (hash_sum (terms_of mid) + rest) % 2 ^ 32 =
    ap (λ (us : List RawTerm). hash_sum (terms_of us)) (drop_split ts from end h) ∙ sum_append mid (drop end ts) in
    let u : x.sum ≡ (b + (hash_sum (terms_of mid) + rest) % 2 ^ 32) % 2 ^ 32 = ap (λ (o : Told). o.sum) p ∙ ap (λ n. (b + n) % 2 ^ 32) w in
    let v : y.sum ≡ (b + rest) % 2 ^ 32 = ap (λ (o : Told). o.sum) q in
    ap (λ n. (n + (2 ^ 32 - y.sum)) % 2 ^ 32) u ∙ ap (λ n. ((b + (hash_sum (terms_of mid) + rest) % 2 ^ 32) % 2 ^ 32 + (2 ^ 32 - n)) % 2 ^ 32) v ∙ apart b (hash_sum (terms_of mid)) rest (sum_small (terms_of mid))
