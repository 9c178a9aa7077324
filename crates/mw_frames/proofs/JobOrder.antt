-- Jobs that wait in order, and one more among them.
use Rattle.std.specs.Prelude.{◌≡◌, ◌≤◌, ◌<◌, ℕ, ◌+◌, List, [], ◌∷◌, ◌++◌, length, take, drop, min, get_or, Bool, true, false, not, refl}
use Rattle.std.specs.Ordering.{is_gt}
use Rattle.std.proofs.Common.{sym, subst, ap, ◌∙◌, arith, true≢false}
use Rattle.std.proofs.Math.Seq.{take-length}
use Rattle.std.proofs.lemmas.List.{length-take, length-take-le, drop-append-le, take-append-le, take-append-drop, take-take, take_more, drop_all}
use Rattle.mw_logic.specs.Term.{RawTerm, RawTerms, nil, cons, join}
use Rattle.mw_logic.specs.Signature.{Signature}
use Rattle.mw_logic.specs.Module.{Module}
use Rattle.mw_logic.specs.TermOrder.{compare_terms, stands_after, insert_term, sorted_terms}
use Rattle.mw_logic.specs.NormalForm.{arranged}
use Rattle.mw_logic.proofs.OrderLaws.{after-trans, after-asym}
use Rattle.mw_logic.proofs.SortLaws.{join-nil, join_assoc, sorted_terms-comm}
use Rattle.mw_logic.proofs.SortedLists.{NoneBelow, NoneBelow-lower, Climbs, climbs, sorted_terms-climbing}
use Rattle.mw_logic.proofs.Canonical.{Each, Each-join, arranged-right, arranged-twice}
use Rattle.mw_pattern.proofs.Lists.{drop_at}
use Rattle.mw_stack.proofs.Cutting.{each_weaker, climbs_parts, climbs_join}
use Rattle.mw_stack.proofs.Searched.{after_test}
use Rattle.mw_frames.specs.declared.job.Job.{Job}
use Rattle.mw_frames.specs.Jobs.{term_of, rest, weight, weights}
use Rattle.mw_frames.specs.State.{IsJob, AreJobs, IsAtHand, AreAtHand}
use Rattle.mw_frames.specs.Arrivals.{Joins}

-- what a test of two terms tells
pub test_before : (t u : RawTerm) (b : Bool) → b ≡ is_gt (compare_terms t u) → not b ≡ true → stands_after t u ≡ false
test_before t u true e h = cc
test_before t u false e h = after_test t u false e

pub test_behind : (t u : RawTerm) (b : Bool) → b ≡ is_gt (compare_terms t u) → not b ≡ false → stands_after t u ≡ true
test_behind t u true e h = after_test t u true e
test_behind t u false e h = cc

pub rest-join : (sig : Signature) (vs : List RawTerm) (xs ys : List Job) → rest sig vs (xs ++ ys) ≡ join (rest sig vs ys) (rest sig vs xs)
rest-join sig vs [] ys = sym (join-nil (rest sig vs ys))
rest-join sig vs (x ∷ xs) ys = ap (λ zs. join zs (cons (term_of sig vs x) nil)) (rest-join sig vs xs ys) ∙ join_assoc (rest sig vs ys) (rest sig vs xs) (cons (term_of sig vs x) nil)

pub weights-append : (sig : Signature) (vs : List RawTerm) (xs ys : List Job) → weights sig vs (xs ++ ys) ≡ weights sig vs xs + weights sig vs ys
weights-append sig vs [] ys = omega arith
weights-append sig vs (x ∷ xs) ys = let h = weights-append sig vs xs ys in omega (arith, h)

pub AreJobs-append : (M : Module) (n : ℕ) (vs : List RawTerm) (xs ys : List Job) → AreJobs M n vs xs → AreJobs M n vs ys → AreJobs M n vs (xs ++ ys)
AreJobs-append M n vs [] ys h k = k
AreJobs-append M n vs (x ∷ xs) ys h k = (h.0, AreJobs-append M n vs xs ys h.1 k)

pub AreJobs-parts : (M : Module) (n : ℕ) (vs : List RawTerm) (xs ys : List Job) → AreJobs M n vs (xs ++ ys) → AreJobs M n vs xs × AreJobs M n vs ys
AreJobs-parts M n vs [] ys h = (tt, h)
AreJobs-parts M n vs (x ∷ xs) ys h = let (a, b) = AreJobs-parts M n vs xs ys h.1 in ((h.0, a), b)

pub AreAtHand-append : (xs ys : List Job) → AreAtHand xs → AreAtHand ys → AreAtHand (xs ++ ys)
AreAtHand-append [] ys h k = k
AreAtHand-append (x ∷ xs) ys h k = (h.0, AreAtHand-append xs ys h.1 k)

pub AreAtHand-parts : (xs ys : List Job) → AreAtHand (xs ++ ys) → AreAtHand xs × AreAtHand ys
AreAtHand-parts [] ys h = (tt, h)
AreAtHand-parts (x ∷ xs) ys h = let (a, b) = AreAtHand-parts xs ys h.1 in ((h.0, a), b)

-- what stands from w on, and what comes there at a place behind w
pub cut : {A : Type 0} (xs : List A) (w at : ℕ) → w ≤ at → at ≤ length xs → drop w (take at xs) ++ drop at xs ≡ drop w xs
cut xs w at l m =
    let k = length-take-le at xs m in
    sym (drop-append-le w (take at xs) (drop at xs) (omega (arith, k, l))) ∙ ap (drop w) (take-append-drop at xs)

pub put_in : {A : Type 0} (xs : List A) (x : A) (w at : ℕ) → w ≤ at → at ≤ length xs → drop w (take at xs ++ x ∷ drop at xs) ≡ drop w (take at xs) ++ x ∷ drop at xs
put_in xs x w at l m = let k = length-take-le at xs m in drop-append-le w (take at xs) (x ∷ drop at xs) (omega (arith, k, l))

pub kept_below : {A : Type 0} (xs : List A) (ys : List A) (w at : ℕ) → w ≤ at → at ≤ length xs → take w (take at xs ++ ys) ≡ take w xs
kept_below xs ys w at l m = let k = length-take-le at xs m in take-append-le w (take at xs) ys (omega (arith, k, l)) ∙ take-take w at xs l

-- the one before a place, and those behind
pub one_more : {A : Type 0} (xs : List A) (w k at : ℕ) (x : A) → k + 1 ≡ at → w ≤ k → at ≤ length xs → x ≡ get_or xs k x
    → (drop k xs ≡ x ∷ drop at xs) × (drop w (take at xs) ≡ drop w (take k xs) ++ x ∷ [])
one_more xs w k at x e l m i =
    let n : k < length xs = omega (arith, e, m) in
    let j = length-take-le k xs (omega (arith, n)) in (
      drop_at xs k x n i ∙ ap (λ a. x ∷ drop a xs) e,
      ap (λ a. drop w (take a xs)) (sym e) ∙ ap (drop w) (take_more xs k x n ∙ ap (λ y. take k xs ++ y ∷ []) (sym i)) ∙ drop-append-le w (take k xs) (x ∷ []) (omega (arith, j, l)),
    )

module _ (sig : Signature) (vs : List RawTerm) (t : RawTerm) where
  -- none of those from a place on comes behind t
  pub before_more : (xs : List Job) (k at : ℕ) (x : Job) → drop k xs ≡ x ∷ drop at xs → stands_after (term_of sig vs x) t ≡ false
      → Each (λ u. stands_after u t ≡ false) (rest sig vs (drop at xs)) → Each (λ u. stands_after u t ≡ false) (rest sig vs (drop k xs))
  before_more xs k at x e h b =
      subst (λ ys. Each (λ u. stands_after u t ≡ false) (rest sig vs ys)) (sym e) (Each-join (λ u. stands_after u t ≡ false) (rest sig vs (drop at xs)) (cons (term_of sig vs x) nil) b (h, tt))

  higher : (u : RawTerm) (us : RawTerms) → stands_after u t ≡ true → NoneBelow u us → Each (λ v. stands_after v t ≡ true) us
  higher u us h n = each_weaker (λ v. stands_after u v ≡ false) (λ v. stands_after v t ≡ true) us (λ v e. by_test v e (stands_after v t) refl) n
    where
      by_test : (v : RawTerm) → stands_after u v ≡ false → (b : Bool) → stands_after v t ≡ b → b ≡ true
      by_test v e true k = refl
      by_test v e false k = absurd (true≢false (sym h ∙ after-trans u v t e k))

  -- so where the one before that place does, all others do
  pub behind_all : (xs ys zs : List Job) (x : Job) → sorted_terms (rest sig vs ((xs ++ x ∷ []) ++ zs)) ≡ rest sig vs ((xs ++ x ∷ []) ++ zs) → ys ≡ xs ++ x ∷ [] → stands_after (term_of sig vs x) t ≡ true
      → Each (λ u. stands_after u t ≡ true) (rest sig vs ys)
  behind_all xs ys zs x o e h =
      let c = climbs (rest sig vs ((xs ++ x ∷ []) ++ zs)) o in
      let d = climbs_parts (rest sig vs zs) (rest sig vs (xs ++ x ∷ [])) (subst Climbs (rest-join sig vs (xs ++ x ∷ []) zs) c) in
      let r : rest sig vs (xs ++ x ∷ []) ≡ cons (term_of sig vs x) (rest sig vs xs) = rest-join sig vs xs (x ∷ []) in
      let k : Climbs (cons (term_of sig vs x) (rest sig vs xs)) = subst Climbs r d.1 in
      subst (λ zs'. Each (λ u. stands_after u t ≡ true) (rest sig vs zs')) (sym e) (subst (Each (λ u. stands_after u t ≡ true)) (sym r) (h, higher (term_of sig vs x) (rest sig vs xs) h k.0))

  moved_first : (us ws : RawTerms) → sorted_terms (join us (cons t ws)) ≡ sorted_terms (cons t (join us ws))
  moved_first us ws = sorted_terms-comm us (cons t ws) ∙ ap (insert_term t) (sorted_terms-comm ws us)

  -- t between those that don't come behind it and those that do
  pub in_order : (us ws : RawTerms) → sorted_terms (join us ws) ≡ join us ws → Each (λ u. stands_after u t ≡ false) us → Each (λ u. stands_after u t ≡ true) ws
      → join us (cons t ws) ≡ sorted_terms (cons t (join us ws))
  in_order us ws o b a =
      let c = climbs_parts us ws (climbs (join us ws) o) in
      let n : NoneBelow t ws = each_weaker (λ u. stands_after u t ≡ true) (λ u. stands_after t u ≡ false) ws (λ u. after-asym u t) a in
      let k : Climbs (join us (cons t ws)) =
      climbs_join us (cons t ws) c.0 (n, c.1) (each_weaker (λ u. stands_after u t ≡ false) (λ u. NoneBelow u (cons t ws)) us (λ u e. (e, NoneBelow-lower u t ws e n)) b) in
      sym (sorted_terms-climbing (join us (cons t ws)) k) ∙ moved_first us ws

-- A job that comes at a place, which is right where they are kept in order.
pub joins_at : (sig : Signature) (vs : List RawTerm) (c : Bool) (w at : ℕ) (x : Job) (js js' : List Job) → js' ≡ take at js ++ x ∷ drop at js → at ≤ length js → (w ≤ length js → w ≤ at)
    → IsAtHand x
    → (w ≤ length js → (c ≡ true → AreAtHand (drop w js)) → arranged c (rest sig vs (drop w js)) ≡ rest sig vs (drop w js)
    → rest sig vs (drop w (take at js) ++ x ∷ drop at js) ≡ arranged c (cons (term_of sig vs x) (rest sig vs (drop w js))))
    → Joins sig vs c w (cons (term_of sig vs x) nil) (λ M n. IsJob M n vs x) js js'
joins_at sig vs c w at x js js' e l m hand order = record {
  below = λ k. ap (take w) e ∙ kept_below js (x ∷ drop at js) w at (m k) l;
  known = λ M n k j h.
      let (a, b) = AreJobs-parts M n vs (drop w (take at js)) (drop at js) (subst (AreJobs M n vs) (sym (cut js w at (m k) l)) h) in
      subst (AreJobs M n vs) (sym (placed k)) (AreJobs-append M n vs (drop w (take at js)) (x ∷ drop at js) a (j, b));
  at_hand = λ k h.
      let (a, b) = AreAtHand-parts (drop w (take at js)) (drop at js) (subst AreAtHand (sym (cut js w at (m k) l)) h) in
      subst AreAtHand (sym (placed k)) (AreAtHand-append (drop w (take at js)) (x ∷ drop at js) a (hand, b));
  order = λ k h o. ap (rest sig vs) (placed k) ∙ order k h o;
}
  where
    placed : w ≤ length js → drop w js' ≡ drop w (take at js) ++ x ∷ drop at js
    placed k = ap (drop w) e ∙ put_in js x w at (m k) l

-- where they are in order
pub joins_inserted : (sig : Signature) (vs : List RawTerm) (w at : ℕ) (x : Job) (js js' : List Job) → js' ≡ take at js ++ x ∷ drop at js → at ≤ length js → (w ≤ length js → w ≤ at)
    → IsAtHand x
    → Each (λ u. stands_after u (term_of sig vs x) ≡ false) (rest sig vs (drop at js))
    → (AreAtHand (drop w js) → IsAtHand x → sorted_terms (rest sig vs (drop w js)) ≡ rest sig vs (drop w js) → Each (λ u. stands_after u (term_of sig vs x) ≡ true) (rest sig vs (drop w (take at js))))
    → Joins sig vs true w (cons (term_of sig vs x) nil) (λ M n. IsJob M n vs x) js js'
joins_inserted sig vs w at x js js' e l m hand before behind =
    joins_at sig vs true w at x js js' e l m hand
    (λ k h o.
    let A : List Job = drop w (take at js) in
    let D : List Job = drop at js in
    let z : rest sig vs (drop w js) ≡ join (rest sig vs D) (rest sig vs A) = ap (rest sig vs) (sym (cut js w at (m k) l)) ∙ rest-join sig vs A D in
    let r : rest sig vs (A ++ x ∷ D) ≡ join (rest sig vs D) (cons (term_of sig vs x) (rest sig vs A)) = rest-join sig vs A (x ∷ D) ∙ join_assoc (rest sig vs D) (cons (term_of sig vs x) nil) (rest sig vs A) in
    r ∙ in_order sig vs (term_of sig vs x) (rest sig vs D) (rest sig vs A) (subst (λ ts. sorted_terms ts ≡ ts) z o) before (behind (h refl) hand o) ∙ ap (λ ts. sorted_terms (cons (term_of sig vs x) ts)) (sym z))

-- in front of all
pub joins_pushed : (sig : Signature) (vs : List RawTerm) (w : ℕ) (x : Job) (js js' : List Job) → IsAtHand x → js' ≡ js ++ x ∷ [] → Joins sig vs false w (cons (term_of sig vs x) nil) (λ M n. IsJob M n vs x) js js'
joins_pushed sig vs w x js js' hand e =
    let t : take (length js) js ≡ js = take-length js in
    let d : drop (length js) js ≡ [] = drop_all (length js) js (omega arith) in
    joins_at sig vs false w (length js) x js js' (e ∙ sym (ap (λ ys. ys ++ x ∷ drop (length js) js) t ∙ ap (λ ys. js ++ x ∷ ys) d)) (omega arith) (λ k. k) hand
    (λ k h o. ap (λ ys. rest sig vs (drop w ys ++ x ∷ drop (length js) js)) t ∙ ap (λ ys. rest sig vs (drop w js ++ x ∷ ys)) d ∙ rest-join sig vs (drop w js) (x ∷ []))

pub weights-put : (sig : Signature) (vs : List RawTerm) (x : Job) (at : ℕ) (js js' : List Job) → js' ≡ take at js ++ x ∷ drop at js → weights sig vs js' ≡ weights sig vs js + weight sig vs x
weights-put sig vs x at js js' e =
    let a = ap (weights sig vs) e in
    let b = weights-append sig vs (take at js) (x ∷ drop at js) in
    let c = ap (weights sig vs) (sym (take-append-drop at js)) in
    let d = weights-append sig vs (take at js) (drop at js) in
    omega (arith, a, b, c, d)

pub weights-pushed : (sig : Signature) (vs : List RawTerm) (x : Job) (js js' : List Job) → js' ≡ js ++ x ∷ [] → weights sig vs js' ≡ weights sig vs js + weight sig vs x
weights-pushed sig vs x js js' e = let a = ap (weights sig vs) e in let b = weights-append sig vs js (x ∷ []) in omega (arith, a, b)

pub still_within : {A : Type 0} (w : ℕ) (xs ys : List A) → take w ys ≡ take w xs → w ≤ length xs → w ≤ length ys
still_within w xs ys e l = let a = length-take w xs in let b = length-take w ys in let c = ap length e in least w (length xs) (length ys) _ _ l a b c
  where
    least : (w a b x y : ℕ) → w ≤ a → x ≡ min w a → y ≡ min w b → y ≡ x → w ≤ b
    least w a b x y l p q r = omega (arith, l, p, q, r)

-- some come, and then others
pub joins_then : (sig : Signature) (vs : List RawTerm) (c : Bool) (w : ℕ) (ts us : RawTerms) (J K L : Module → ℕ → Type 0) (xs ys zs : List Job) → ((M : Module) (n : ℕ) → L M n → J M n) → ((M : Module) (n : ℕ) → L M n → K M n)
    → Joins sig vs c w ts J xs ys → Joins sig vs c w us K ys zs → Joins sig vs c w (join us ts) L xs zs
joins_then sig vs c w ts us J K L xs ys zs p q h k = record {
  below = λ l. k.below (on l) ∙ h.below l;
  known = λ M n l o j. k.known M n (on l) (q M n o) (h.known M n l (p M n o) j);
  at_hand = λ l a. k.at_hand (on l) (h.at_hand l a);
  order = λ l a o.
      let r = h.order l a o in
      k.order (on l) (λ e. h.at_hand l (a e)) (ap (arranged c) r ∙ arranged-twice c (join ts (rest sig vs (drop w xs))) ∙ sym r)
      ∙ ap (λ vs'. arranged c (join us vs')) r ∙ arranged-right c us (join ts (rest sig vs (drop w xs))) ∙ sym (ap (arranged c) (join_assoc us ts (rest sig vs (drop w xs))));
}
  where
    on : w ≤ length xs → w ≤ length ys
    on l = still_within w xs ys (h.below l) l
