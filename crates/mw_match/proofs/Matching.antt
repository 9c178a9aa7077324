-- Matching, case by case.
use Rattle.std.specs.Prelude.{◌≡◌, ◌≢◌, ◌≤◌, ◌<◌, ◌+◌, ◌↔◌, ℕ, zero, suc, List, [], ◌∷◌, ◌++◌, length, drop, get_or, Bool, true, false, Some, slice_get, unwrap_or, IsTrue, refl}
use Rattle.std.proofs.Common.{sym, ap, ◌∙◌, arith, true≢false}
use Rattle.mw_logic.specs.Term.{RawTerm, RawTerms, variable, cons}
use Rattle.mw_position.specs.Positions.{position, counted, counted_all, IsNumbered, AreNumbered, Begins}
use Rattle.mw_logic.specs.NormalForm.{height, highest}
use Rattle.mw_logic.specs.Signature.{Signature}
use Rattle.mw_logic.specs.Terms.{terms_of}
use Rattle.mw_position.proofs.Begins.{begins_same, begins_then, begins_at, begins_put, begins_last, begins_append}
use Rattle.mw_position.proofs.Counting.{all_counted_grows}
use Rattle.mw_matching.specs.Matches.{evaluated, evaluated_all}
use Rattle.mw_pattern.specs.Clean.{clean, clean_all}
use Rattle.mw_match.specs.Matching.{Decides}
use Rattle.mw_pattern.specs.declared.pattern.Pattern.{Pattern}
use Rattle.mw_pattern.proofs.Lists.{drop_at}

pub decides_var_old : (sig : Signature) → (old : List RawTerm) (i : ℕ) (v t : RawTerm) (b : Bool) → slice_get old i ≡ Some v → (IsTrue b ↔ (v ≡ t)) → Decides b (counted (length old) (variable (position i))) old old (λ us. evaluated sig us (variable (position i)) ≡ t)
decides_var_old sig old i v t true h e = (begins_same old, λ us b m. ((λ p. b), (λ q. let k : slice_get us i ≡ Some v = begins_at old us i v b h in rw k (e.0 refl))))
decides_var_old sig old i v t false h e = λ us b m p. let k : slice_get us i ≡ Some v = begins_at old us i v b h in true≢false (sym (e.1 (rw k at p)))

-- a pattern without variables
pub decides_same : (old : List RawTerm) (n : ℕ) (P : Type 0) (b : Bool) → (IsTrue b ↔ P) → Decides b n old old (λ us. P)
decides_same old n P true h = (begins_same old, λ us b m. ((λ p. b), (λ q. h.0 refl)))
decides_same old n P false h = λ us b m p. true≢false (sym (h.1 p))

read_back : (us : List RawTerm) (i : ℕ) (x t : RawTerm) → i < length us → unwrap_or (slice_get us i) x ≡ t → slice_get us i ≡ Some t
read_back [] i x t l e = absurd (omega (arith, l))
read_back (u ∷ us) zero x t l e = ap Some e
read_back (u ∷ us) (suc i) x t l e = read_back us i x t (omega (arith, l)) e

pub decides_var_new : (sig : Signature) → (old new : List RawTerm) (i : ℕ) (t : RawTerm) → i ≡ length old → new ≡ old ++ t ∷ [] → Decides true (counted (length old) (variable (position i))) old new (λ us. evaluated sig us (variable (position i)) ≡ t)
decides_var_new sig old new i t l m = rw m (
  begins_append old (t ∷ []),
  λ us b k. (
    (λ p. begins_put old us t b (rw (← l) (read_back us i (variable (position i)) t (omega (arith, k, l)) p))),
    (λ q. let k : slice_get us i ≡ Some t = rw l (begins_last old us t q) in rw k refl),
  ),
)

-- the first i arguments were matched
pub record Matching (sig : Signature) (old cur : List RawTerm) (ps : List Pattern) (ts : List RawTerm) (i : ℕ) : Type 0 where
  pub begins : Begins old cur
  pub same : (us : List RawTerm) → Begins old us → counted_all (length old) (clean_all ps) ≤ length us → ((evaluated_all sig us (clean_all ps) ≡ terms_of ts) ↔ (Begins cur us × (evaluated_all sig us (clean_all (drop i ps)) ≡ terms_of (drop i ts))))
  pub numbered : AreNumbered (length cur) (clean_all (drop i ps))
  pub count : counted_all (length cur) (clean_all (drop i ps)) ≡ counted_all (length old) (clean_all ps)
  pub long : length ps ≡ length ts

pub matching_starts : (sig : Signature) → (old : List RawTerm) (ps : List Pattern) (ts : List RawTerm) → AreNumbered (length old) (clean_all ps) → length ps ≡ length ts → Matching sig old old ps ts 0
matching_starts sig old ps ts n l = record { begins = begins_same old; same = λ us b m. ((λ p. (b, p)), (λ q. q.1)); numbered = n; count = refl; long = l }

cons_parts : (t u : RawTerm) (ts us : RawTerms) → cons t ts ≡ cons u us → (t ≡ u) × (ts ≡ us)
cons_parts t u ts us e = ((cc), (cc))

pub matching_on : (sig : Signature) → (old cur new : List RawTerm) (ps : List Pattern) (ts : List RawTerm) (i : ℕ) (p : Pattern) (t : RawTerm)
    → i < length ps → p ≡ get_or ps i p → t ≡ get_or ts i t → Decides true (counted (length cur) (clean p)) cur new (λ us. evaluated sig us (clean p) ≡ t) → length new ≡ counted (length cur) (clean p)
    → Matching sig old cur ps ts i → Matching sig old new ps ts (i + 1)
matching_on sig old cur new ps ts i p t h e g d n m =
    let dp : drop i ps ≡ p ∷ drop (i + 1) ps = drop_at ps i p h e in
    let lt : i < length ts = let l = m.long in omega (arith, l, h) in
    let dt : drop i ts ≡ t ∷ drop (i + 1) ts = drop_at ts i t lt g in
    let nu = rw dp at m.numbered in
    let co = rw dp at m.count in
    let w = all_counted_grows (counted (length cur) (clean p)) (clean_all (drop (i + 1) ps)) in
    record {
      begins = begins_then old cur new m.begins d.0;
      same = λ us b z. (
        (λ q.
            let a = (m.same us b z).0 q in
            let c : cons (evaluated sig us (clean p)) (evaluated_all sig us (clean_all (drop (i + 1) ps))) ≡ cons t (terms_of (drop (i + 1) ts)) = ap (λ xs. evaluated_all sig us (clean_all xs)) (sym dp) ∙ a.1 ∙ ap terms_of dt in
            let k = cons_parts _ _ _ _ c in ((d.1 us a.0 (omega (arith, w, co, z))).0 k.0, k.1)),
        (λ q.
            let a : Begins cur us = begins_then cur new us d.0 q.0 in
            let k : evaluated sig us (clean p) ≡ t = (d.1 us a (omega (arith, w, co, z))).1 q.0 in
            let y : evaluated_all sig us (clean_all (drop (i + 1) ps)) ≡ terms_of (drop (i + 1) ts) = q.1 in
            let c : evaluated_all sig us (clean_all (drop i ps)) ≡ terms_of (drop i ts) = rw (dp, dt, k, y) refl in (m.same us b z).1 (a, c)),
      );
      numbered = rw n nu.1;
      count = rw n co;
      long = m.long;
    }

-- the next pattern's variables are numbered on from those that have values
pub numbered_here : {sig : Signature} {old cur : List RawTerm} {ps : List Pattern} {ts : List RawTerm} (i : ℕ) (p : Pattern) → i < length ps → p ≡ get_or ps i p → Matching sig old cur ps ts i → IsNumbered (length cur) (clean p)
numbered_here i p h e m = (rw (drop_at _ i p h e) at m.numbered).0

-- no pattern is higher than the highest
pub pattern_height : (ps : List Pattern) (i : ℕ) (p : Pattern) → i < length ps → p ≡ get_or ps i p → height (clean p) ≤ highest (clean_all ps)
pattern_height [] i p h e = absurd (omega (arith, h))
pattern_height (q ∷ ps) zero p h e = let f : height (clean p) ≡ height (clean q) = ap (λ x. height (clean x)) e in omega (arith, f)
pattern_height (q ∷ ps) (suc i) p h e = let k = pattern_height ps i p (omega (arith, h)) e in omega (arith, k)

pub matching_fails : (sig : Signature) → (old cur new new' : List RawTerm) (ps : List Pattern) (ts : List RawTerm) (i : ℕ) (p : Pattern) (t : RawTerm)
    → i < length ps → p ≡ get_or ps i p → t ≡ get_or ts i t → Decides false (counted (length cur) (clean p)) cur new (λ us. evaluated sig us (clean p) ≡ t)
    → Matching sig old cur ps ts i → Decides false (counted_all (length old) (clean_all ps)) old new' (λ us. evaluated_all sig us (clean_all ps) ≡ terms_of ts)
matching_fails sig old cur new new' ps ts i p t h e g d m = λ us b z q.
    let dp : drop i ps ≡ p ∷ drop (i + 1) ps = drop_at ps i p h e in
    let lt : i < length ts = let l = m.long in omega (arith, l, h) in
    let dt : drop i ts ≡ t ∷ drop (i + 1) ts = drop_at ts i t lt g in
    let co = rw dp at m.count in
    let w = all_counted_grows (counted (length cur) (clean p)) (clean_all (drop (i + 1) ps)) in
    let a = (m.same us b z).0 q in
    let c : cons (evaluated sig us (clean p)) (evaluated_all sig us (clean_all (drop (i + 1) ps))) ≡ cons t (terms_of (drop (i + 1) ts)) = ap (λ xs. evaluated_all sig us (clean_all xs)) (sym dp) ∙ a.1 ∙ ap terms_of dt in
    d us a.0 (omega (arith, w, co, z)) (cons_parts _ _ _ _ c).0

number_patterns : (sig : Signature) → (us : List RawTerm) (ps : List Pattern) (ts : List RawTerm) → evaluated_all sig us (clean_all ps) ≡ terms_of ts → length ps ≡ length ts
number_patterns sig us [] [] e = refl
number_patterns sig us [] (t ∷ ts) e = cc
number_patterns sig us (p ∷ ps) [] e = cc
number_patterns sig us (p ∷ ps) (t ∷ ts) e = let h : evaluated_all sig us (clean_all ps) ≡ terms_of ts = cc in ap suc (number_patterns sig us ps ts h)

pub lengths_differ : (sig : Signature) → (old new : List RawTerm) (ps : List Pattern) (ts : List RawTerm) → length ps ≢ length ts → Decides false (counted_all (length old) (clean_all ps)) old new (λ us. evaluated_all sig us (clean_all ps) ≡ terms_of ts)
lengths_differ sig old new ps ts n = λ us b m q. n (number_patterns sig us ps ts q)
