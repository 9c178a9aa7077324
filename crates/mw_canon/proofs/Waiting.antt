-- Lists of written terms that wait, and the size of what waits.
use Rattle.std.specs.Prelude.{◌≡◌, ◌≤◌, ◌<◌, ◌+◌, ℕ, zero, suc, List, [], ◌∷◌, ◌++◌, length, get_or, take, drop, ◌-◌, Bool, true, false, nat_eq, cond, refl}
use Rattle.std.proofs.Common.{arith, ap, sym, ◌∙◌, add-one, drop-cons, drop_of_length-le}
use Rattle.std.proofs.Math.Seq.{take-length}
use Rattle.std.proofs.lemmas.Bool.{eq-eqb}
use denote.Ref.{Bor}
use Rattle.mw_logic.specs.Term.{RawTerm, numeral, quoted, variable, apply, RawTerms, nil, cons, join}
use Rattle.mw_logic.proofs.SortLaws.{join_assoc}
use Rattle.mw_term.specs.declared.raw.Raw.{Raw}
use Rattle.mw_term.specs.Raws.{raw_term, raw_terms}
use Rattle.mw_canon.specs.Made.{entered, all_entered, seen_terms}

-- lists that wait, the last one first, and these terms behind them
abbrev pub waiting_before : List (Bor (List Raw)) → RawTerms → RawTerms
waiting_before [] after = after
waiting_before (rs ∷ rss) after = waiting_before rss (join (raw_terms rs.now) after)

-- a list that is pushed waits first
waiting_push : (rss : List (Bor (List Raw))) (rs : Bor (List Raw)) (after : RawTerms) → waiting_before (rss ++ rs ∷ []) after ≡ join (raw_terms rs.now) (waiting_before rss after)
waiting_push [] rs after = refl
waiting_push (ss ∷ rss) rs after = waiting_push rss rs (join (raw_terms ss.now) after)

-- the size of terms
abbrev mutual
  pub weight : RawTerm → ℕ
  weight (numeral n) = 1
  weight (quoted q) = 1
  weight (variable x) = 1
  weight (apply f ts) = 2 + weights ts

  pub weights : RawTerms → ℕ
  weights nil = 0
  weights (cons t ts) = weight t + weights ts

-- and of the lists that wait
abbrev pub load : List (Bor (List Raw)) → ℕ
load [] = 0
load (rs ∷ rss) = 1 + weights (raw_terms rs.now) + load rss

load_push : (rss : List (Bor (List Raw))) (rs : Bor (List Raw)) → load (rss ++ rs ∷ []) ≡ 1 + weights (raw_terms rs.now) + load rss
load_push [] rs = refl
load_push (ss ∷ rss) rs = let h = load_push rss rs in omega (arith, h)

weight_some : (t : RawTerm) → 1 ≤ weight t
weight_some (numeral n) = omega arith
weight_some (quoted q) = omega arith
weight_some (variable x) = omega arith
weight_some (apply f ts) = omega arith

weights-join : (ts us : RawTerms) → weights (join ts us) ≡ weights ts + weights us
weights-join nil us = omega arith
weights-join (cons t ts) us = let h = weights-join ts us in omega (arith, h)

-- entering makes nothing larger
mutual
  entered_weight : (f : ℕ) (t : RawTerm) → weights (entered f t) ≤ weight t
  entered_weight f (numeral n) = omega arith
  entered_weight f (quoted q) = omega arith
  entered_weight f (variable x) = omega arith
  entered_weight f (apply g nil) = omega arith
  entered_weight f (apply g (cons t ts)) = by_test (all_entered_weight f (cons t ts)) (nat_eq f g)
    where
      by_test : weights (all_entered f (cons t ts)) ≤ weights (cons t ts) → (b : Bool) → weights (cond b (join (entered f t) (all_entered f ts)) (cons (apply g (cons t ts)) nil)) ≤ weight (apply g (cons t ts))
      by_test h true = omega (arith, h)
      by_test h false = omega arith

  pub all_entered_weight : (f : ℕ) (ts : RawTerms) → weights (all_entered f ts) ≤ weights ts
  all_entered_weight f nil = omega arith
  all_entered_weight f (cons t ts) = let h = entered_weight f t in let k = all_entered_weight f ts in let e = weights-join (entered f t) (all_entered f ts) in omega (arith, h, k, e)

-- what is entered of two lists
all_entered-join : (f : ℕ) (ts us : RawTerms) → all_entered f (join ts us) ≡ join (all_entered f ts) (all_entered f us)
all_entered-join f nil us = refl
all_entered-join f (cons t ts) us = ap (join (entered f t)) (all_entered-join f ts us) ∙ sym (join_assoc (entered f t) (all_entered f ts) (all_entered f us))

-- one more term is seen
seen_push : (rs : List (Bor Raw)) (r : Bor Raw) → seen_terms (rs ++ r ∷ []) ≡ join (seen_terms rs) (cons (raw_term r.now) nil)
seen_push [] r = refl
seen_push (q ∷ rs) r = ap (cons (raw_term q.now)) (seen_push rs r)

-- an argument of an operator's own term stands in it, by the list of its arguments
pub entered_own : (f g : ℕ) (t : RawTerm) (ts us : RawTerms) (rs : List Raw) → t ≡ apply g ts → us ≡ ts → raw_terms rs ≡ us → g ≡ f → (length rs ≡ 0 → ⊥)
    → (t ≡ apply f (raw_terms rs)) × (entered f t ≡ all_entered f (raw_terms rs))
entered_own f g t ts us [] e d h k n = absurd (n refl)
entered_own f g t ts us (r ∷ rs) e d h k n =
    let is : t ≡ apply f (raw_terms (r ∷ rs)) = e ∙ ap (λ f. apply f ts) k ∙ ap (apply f) (sym (h ∙ d)) in
    (is, ap (entered f) is ∙ rw (eq-eqb f f refl) refl)

-- a list that is taken out
popped : (W Wp : List (Bor (List Raw))) (next : Bor (List Raw)) → W ≡ Wp ++ next ∷ [] → waiting_before W nil ≡ join (raw_terms next.now) (waiting_before Wp nil)
popped W Wp next e = ap (λ rss. waiting_before rss nil) e ∙ waiting_push Wp next nil

popped_load : (W Wp : List (Bor (List Raw))) (next : Bor (List Raw)) → W ≡ Wp ++ next ∷ [] → load W ≡ 1 + weights (raw_terms next.now) + load Wp
popped_load W Wp next e = ap load e ∙ load_push Wp next

-- has nothing in it
pub empty_waits : (W Wp : List (Bor (List Raw))) (next : Bor (List Raw)) → W ≡ Wp ++ next ∷ [] → length next.now < 1 → waiting_before Wp nil ≡ waiting_before W nil
empty_waits W Wp next e l = sym (popped W Wp next e ∙ ap (λ rs. join (raw_terms rs) (waiting_before Wp nil)) (none next.now l))
  where
    none : (rs : List Raw) → length rs < 1 → rs ≡ []
    none [] l = refl
    none (r ∷ rs) l = absurd (omega arith)

pub empty_smaller : (W Wp : List (Bor (List Raw))) (next : Bor (List Raw)) → W ≡ Wp ++ next ∷ [] → load Wp < load W
empty_smaller W Wp next e = let h = popped_load W Wp next e in omega (arith, h)

-- or has a first term, and those behind it wait on
first_raw : (rs : List Raw) (r : Raw) → 1 ≤ length rs → r ≡ get_or rs 0 r → raw_terms rs ≡ cons (raw_term r) (raw_terms (take (length rs - 1) (drop 1 rs)))
first_raw [] r l e = absurd (omega arith)
first_raw (q ∷ rs) r l e =
    let one : suc (length rs) - 1 ≡ length rs = omega arith in
    rw e (ap (λ ss. cons (raw_term q) (raw_terms ss)) (sym (ap (λ n. take n rs) one ∙ take-length rs)))

module _ (f : ℕ) (W Wp W' : List (Bor (List Raw))) (next after : Bor (List Raw)) (arg : Raw) (e : W ≡ Wp ++ next ∷ []) (l : 1 ≤ length next.now) (g : arg ≡ get_or next.now 0 arg)
    (a : after.now ≡ take (length next.now - 1) (drop 1 next.now)) (p : W' ≡ Wp ++ after ∷ []) where
  listed : raw_terms next.now ≡ cons (raw_term arg) (raw_terms after.now)
  listed = first_raw next.now arg l g ∙ ap (λ rs. cons (raw_term arg) (raw_terms rs)) (sym a)

  waits : waiting_before W nil ≡ cons (raw_term arg) (waiting_before W' nil)
  waits = popped W Wp next e ∙ ap (λ ts. join ts (waiting_before Wp nil)) listed ∙ ap (cons (raw_term arg)) (sym (popped W' Wp after p))

  loads : load W ≡ weight (raw_term arg) + load W'
  loads = let h = popped_load W Wp next e in let k = popped_load W' Wp after p in let w = ap weights listed in omega (arith, h, k, w)

  -- the first term is told
  pub first_told : (found found' : List (Bor Raw)) (r : Bor Raw) → entered f (raw_term arg) ≡ cons (raw_term arg) nil → found' ≡ found ++ r ∷ [] → r.now ≡ arg
      → join (seen_terms found') (all_entered f (waiting_before W' nil)) ≡ join (seen_terms found) (all_entered f (waiting_before W nil))
  first_told found found' r alone n is =
      ap (λ rs. join (seen_terms rs) (all_entered f (waiting_before W' nil))) n ∙ ap (λ ts. join ts (all_entered f (waiting_before W' nil))) (seen_push found r)
      ∙ join_assoc (seen_terms found) (cons (raw_term r.now) nil) (all_entered f (waiting_before W' nil))
      ∙ ap (join (seen_terms found)) (ap (λ q. cons (raw_term q) (all_entered f (waiting_before W' nil))) is ∙ sym (ap (all_entered f) waits ∙ ap (λ ts. join ts (all_entered f (waiting_before W' nil))) alone))

  pub first_smaller : load W' < load W
  first_smaller = let h = weight_some (raw_term arg) in let k = loads in omega (arith, h, k)

  -- or its arguments wait in its place
  module _ (W'' : List (Bor (List Raw))) (inner : Bor (List Raw)) (q : W'' ≡ W' ++ inner ∷ []) (is : raw_term arg ≡ apply f (raw_terms inner.now)) where
    pub inner_waits : entered f (raw_term arg) ≡ all_entered f (raw_terms inner.now) → all_entered f (waiting_before W'' nil) ≡ all_entered f (waiting_before W nil)
    inner_waits h =
        ap (all_entered f) (popped W'' W' inner q) ∙ all_entered-join f (raw_terms inner.now) (waiting_before W' nil) ∙ ap (λ ts. join ts (all_entered f (waiting_before W' nil))) (sym h)
        ∙ sym (ap (all_entered f) waits)

    pub inner_smaller : load W'' < load W
    inner_smaller = let h = popped_load W'' W' inner q in let k = loads in let w = ap weight is in omega (arith, h, k, w)

-- no term is larger than those that it stands among
pub raw_weight : (rs : List Raw) (i : ℕ) (d : Raw) → i < length rs → weight (raw_term (get_or rs i d)) ≤ weights (raw_terms rs)
raw_weight [] i d h = absurd (omega arith)
raw_weight (r ∷ rs) zero d h = omega arith
raw_weight (r ∷ rs) (suc i) d h = omega (arith, raw_weight rs i d (omega arith))

pub seen_weight : (rs : List (Bor Raw)) (i : ℕ) (d : Bor Raw) → i < length rs → weight (raw_term (get_or rs i d).now) ≤ weights (seen_terms rs)
seen_weight [] i d h = absurd (omega arith)
seen_weight (r ∷ rs) zero d h = omega arith
seen_weight (r ∷ rs) (suc i) d h = omega (arith, seen_weight rs i d (omega arith))

-- the term at an index, and those behind it
pub seen_at : (rs : List (Bor Raw)) (i : ℕ) (r : Bor Raw) → i < length rs → r ≡ get_or rs i r → seen_terms (drop i rs) ≡ cons (raw_term r.now) (seen_terms (drop (i + 1) rs))
seen_at rs i r h e = ap seen_terms (drop-cons rs i r h) ∙ rw (← e, add-one) refl

pub seen_past : (rs : List (Bor Raw)) (i : ℕ) → length rs ≤ i → seen_terms (drop i rs) ≡ nil
seen_past rs i h = ap seen_terms (drop_of_length-le rs h)
