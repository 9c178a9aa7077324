-- Terms in order come among others in order: their numbers in the list that comes of it.
use Rattle.std.specs.Prelude.{◌≡◌, ◌+◌, ◌≤◌, ℕ, zero, suc, List, [], ◌∷◌, Bool, true, false, cond, refl}
use Rattle.std.proofs.Common.{ap, sym, subst, ◌∙◌, arith}
use Rattle.std.proofs.lemmas.Bool.{both_ways}
use Rattle.mw_logic.specs.Term.{RawTerm, RawTerms, nil, cons, join}
use Rattle.mw_logic.specs.Terms.{front, skip}
use Rattle.mw_logic.specs.Parts.{number_of_terms}
use Rattle.mw_logic.specs.TermOrder.{stands_after, insert_term, sorted_terms}
use Rattle.mw_logic.proofs.OrderLaws.{after-trans, after-asym, not_after_itself}
use Rattle.mw_logic.proofs.SortLaws.{join_assoc, sorted_terms-comm}
use Rattle.mw_logic.proofs.Canonical.{Each, Each-join, Each-arranged}
use Rattle.mw_logic.proofs.SortedLists.{Climbs, NoneBelow, NoneBelow-lower, insert_first}
use Rattle.mw_arguments.specs.Places.{chosen, Rise}
use Rattle.mw_arguments.proofs.Middles.{chosen-middle}
use Rattle.mw_arguments.proofs.ListPieces.{number_front, join_parts}
use Rattle.mw_stack.proofs.Cutting.{each_weaker, climbs_parts}
use Rattle.mw_spot.specs.Spots.{below}

-- a list in order has as many terms
number-insert : (t : RawTerm) (us : RawTerms) → number_of_terms (insert_term t us) ≡ suc (number_of_terms us)
number-insert t nil = refl
number-insert t (cons u us) = by_test (stands_after t u) (number-insert t us)
  where
    by_test : (b : Bool) → number_of_terms (insert_term t us) ≡ suc (number_of_terms us) → number_of_terms (cond b (cons u (insert_term t us)) (cons t (cons u us))) ≡ suc (suc (number_of_terms us))
    by_test true r = ap suc r
    by_test false r = refl

pub number-sorted : (ts : RawTerms) → number_of_terms (sorted_terms ts) ≡ number_of_terms ts
number-sorted nil = refl
number-sorted (cons t ts) = number-insert t (sorted_terms ts) ∙ ap suc (number-sorted ts)

-- where a list in order is cut: the terms that stand before t, and the others, which don't
all_before : (t : RawTerm) (ts : RawTerms) → Each (λ u. stands_after t u ≡ true) (front (below t ts) ts)
all_before t nil = tt
all_before t (cons u us) = by_test (stands_after t u) refl (all_before t us)
  where
    by_test : (b : Bool) → stands_after t u ≡ b → Each (λ u. stands_after t u ≡ true) (front (below t us) us) → Each (λ u. stands_after t u ≡ true) (front (cond b (suc (below t us)) 0) (cons u us))
    by_test true e r = (e, r)
    by_test false e r = tt

none_before : (t : RawTerm) (ts : RawTerms) → Climbs ts → NoneBelow t (skip (below t ts) ts)
none_before t nil c = tt
none_before t (cons u us) c = by_test (stands_after t u) refl (none_before t us c.1)
  where
    by_test : (b : Bool) → stands_after t u ≡ b → NoneBelow t (skip (below t us) us) → NoneBelow t (skip (cond b (suc (below t us)) 0) (cons u us))
    by_test true e r = r
    by_test false e r = (e, NoneBelow-lower t u us e c.0)

sorted_behind : (ts us : RawTerms) → Climbs ts → Each (λ t. NoneBelow t us) ts → sorted_terms (join ts us) ≡ join ts (sorted_terms us)
sorted_behind nil us h n = refl
sorted_behind (cons t ts) us h n =
    ap (insert_term t) (sorted_behind ts us h.1 n.1)
    ∙ insert_first t (join ts (sorted_terms us)) (Each-join (λ u. stands_after t u ≡ false) ts (sorted_terms us) h.0 (Each-arranged (λ u. stands_after t u ≡ false) true us n.0))

-- the first of the terms that come comes there, and the others behind it
cut_there : (t : RawTerm) (us ts : RawTerms) → Climbs ts → Climbs (cons t us) → sorted_terms (join ts (cons t us)) ≡ join (front (below t ts) ts) (cons t (sorted_terms (join (skip (below t ts) ts) us)))
cut_there t us ts c d =
    let b : RawTerms = front (below t ts) ts in
    let a : RawTerms = skip (below t ts) ts in
    let z : join b a ≡ ts = join_parts (below t ts) ts in
    let k : _ = climbs_parts b a (subst Climbs (sym z) c) in
    let h : NoneBelow t a = none_before t ts c in
    let m : NoneBelow t (join a (cons t us)) = Each-join (λ u. stands_after t u ≡ false) a (cons t us) h (not_after_itself t, d.0) in
    let n : Each (λ u. NoneBelow u (join a (cons t us))) b =
    each_weaker (λ u. stands_after t u ≡ true) (λ u. NoneBelow u (join a (cons t us))) b (λ u e. NoneBelow-lower u t (join a (cons t us)) (after-asym t u e) m) (all_before t ts) in
    let l : NoneBelow t (sorted_terms (join us a)) = Each-arranged (λ u. stands_after t u ≡ false) true (join us a) (Each-join (λ u. stands_after t u ≡ false) us a d.0 h) in
    ap (λ vs. sorted_terms (join vs (cons t us))) (sym z) ∙ ap sorted_terms (join_assoc b a (cons t us)) ∙ sorted_behind b (join a (cons t us)) k.0 n
    ∙ ap (join b) (sorted_terms-comm a (cons t us) ∙ insert_first t (sorted_terms (join us a)) l ∙ ap (cons t) (sorted_terms-comm us a))

pub below_within : (t : RawTerm) (ts : RawTerms) → below t ts ≤ number_of_terms ts
below_within t nil = omega arith
below_within t (cons u us) = by_test (stands_after t u) (below_within t us)
  where
    by_test : (b : Bool) → below t us ≤ number_of_terms us → cond b (suc (below t us)) 0 ≤ suc (number_of_terms us)
    by_test true r = omega (arith, r)
    by_test false r = omega arith

-- a later term has no fewer before it
below_later : (t u : RawTerm) (ts : RawTerms) → stands_after t u ≡ false → below t ts ≤ below u ts
below_later t u nil h = omega arith
below_later t u (cons v vs) h = by_test (stands_after t v) refl (below_later t u vs h)
  where
    by_other : (b : Bool) → stands_after u v ≡ b → stands_after t v ≡ true → b ≡ true
    by_other true e f = refl
    by_other false e f = absurd (both_ways _ (after-trans t u v h e) f)

    by_test : (b : Bool) → stands_after t v ≡ b → below t vs ≤ below u vs → cond b (suc (below t vs)) 0 ≤ cond (stands_after u v) (suc (below u vs)) 0
    by_test true e r = rw (by_other (stands_after u v) refl e) (omega (arith, r))
    by_test false e r = omega arith

-- without some of those before it
below_skipped : (t : RawTerm) (q : ℕ) (ts : RawTerms) → q ≤ below t ts → below t ts ≡ q + below t (skip q ts)
below_skipped t zero ts h = omega arith
below_skipped t (suc q) nil h = absurd (omega (arith, h))
below_skipped t (suc q) (cons u us) h = by_test (stands_after t u) (below_skipped t q us) h
  where
    by_test : (b : Bool) → (q ≤ below t us → below t us ≡ q + below t (skip q us)) → suc q ≤ cond b (suc (below t us)) 0 → cond b (suc (below t us)) 0 ≡ suc q + below t (skip q us)
    by_test true r l = let e = r (omega (arith, l)) in omega (arith, e)
    by_test false r l = absurd (omega (arith, l))

climbs_skip : (q : ℕ) (ts : RawTerms) → Climbs ts → Climbs (skip q ts)
climbs_skip zero ts c = c
climbs_skip (suc q) nil c = tt
climbs_skip (suc q) (cons t ts) c = climbs_skip q ts c.1

skip_skip : (r q : ℕ) (ts : RawTerms) → skip r (skip q ts) ≡ skip (q + r) ts
skip_skip r zero ts = let z : r ≡ 0 + r = omega arith in ap (λ n. skip n ts) z
skip_skip zero (suc q) nil = let z : suc q + 0 ≡ suc (q + 0) = omega arith in ap (λ n. skip n nil) (sym z)
skip_skip (suc r) (suc q) nil = let z : suc q + suc r ≡ suc (q + suc r) = omega arith in ap (λ n. skip n nil) (sym z)
skip_skip r (suc q) (cons t ts) = let z : suc q + r ≡ suc (q + r) = omega arith in skip_skip r q ts ∙ ap (λ n. skip n (cons t ts)) (sym z)

-- the numbers of terms in order that come among ds, which are in order; the first has number i among them
abbrev pub merged : RawTerms → ℕ → RawTerms → List ℕ
merged ds i nil = []
merged ds i (cons e es) = (below e ds + i) ∷ merged ds (suc i) es

-- each has so many before it
abbrev pub AreBeyond : ℕ → RawTerms → RawTerms → Type 0
AreBeyond q ds = Each (λ e. q ≤ below e ds)

later_beyond : (e : RawTerm) (es ds : RawTerms) → NoneBelow e es → AreBeyond (below e ds) ds es
later_beyond e nil ds n = tt
later_beyond e (cons f es) ds n = (below_later e f ds n.0, later_beyond e es ds n.1)

pub merged_rise : (q i m : ℕ) (ds es : RawTerms) → Climbs es → AreBeyond q ds es → number_of_terms ds + i + number_of_terms es ≤ m → Rise (q + i) m (merged ds i es)
merged_rise q i m ds nil c b l = tt
merged_rise q i m ds (cons e es) c b l =
    let h = b.0 in
    let w = below_within e ds in
    let z : below e ds + suc i ≡ suc (below e ds + i) = omega arith in
    (omega (arith, h), omega (arith, w, l), subst (λ j. Rise j m (merged ds (suc i) es)) z (merged_rise (below e ds) (suc i) m ds es c.1 (later_beyond e es ds c.0) (omega (arith, l))))

-- they choose these terms
pub merged_chosen : (q i : ℕ) (ds es : RawTerms) → Climbs ds → Climbs es → AreBeyond q ds es → chosen (q + i) (merged ds i es) (sorted_terms (join (skip q ds) es)) ≡ es
merged_chosen q i ds nil d c b = refl
merged_chosen q i ds (cons e es) d c b =
    let p : ℕ = below e ds in
    let rest : RawTerms = skip q ds in
    let r : ℕ = below e rest in
    let s : p ≡ q + r = below_skipped e q ds b.0 in
    let cs : Climbs rest = climbs_skip q ds d in
    let cut : sorted_terms (join rest (cons e es)) ≡ join (front r rest) (cons e (sorted_terms (join (skip r rest) es))) =
    cut_there e es rest cs c in
    let left : skip r rest ≡ skip p ds = skip_skip r q ds ∙ ap (λ n. skip n ds) (sym s) in
    let size : number_of_terms (front r rest) ≡ r = number_front r rest (below_within e rest) in
    let z : p + i ≡ (q + i) + number_of_terms (front r rest) = omega (arith, s, size) in
    let y : suc (p + i) ≡ p + suc i = omega arith in
    ap (chosen (q + i) (merged ds i (cons e es))) cut
    ∙ chosen-middle (q + i) (p + i) (merged ds (suc i) es) (front r rest) e (sorted_terms (join (skip r rest) es)) z
    ∙ ap (cons e) (ap (λ j. chosen j (merged ds (suc i) es) (sorted_terms (join (skip r rest) es))) y ∙ ap (λ us. chosen (p + suc i) (merged ds (suc i) es) (sorted_terms (join us es))) left
    ∙ merged_chosen p (suc i) ds es d c.1 (later_beyond e es ds c.0))
