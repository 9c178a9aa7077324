-- Levels of one associative operator, put together at once.
use Rattle.std.specs.Prelude.{◌≡◌, ◌+◌, ◌-◌, ◌≤◌, ◌<◌, ℕ, List, [], ◌∷◌, ◌++◌, take, drop, length, get_or, reverse, All}
use Rattle.std.proofs.Common.{ap, sym, subst, ◌∙◌, arith}
use Rattle.std.proofs.lemmas.List.{take-append-drop, reverse-append, drop-append-le, take-append-le, length-take-le, take_more}
use Rattle.std.proofs.lemmas.List.Elements.{All-head, All-tail}
use Rattle.std.proofs.Math.Seq.{take-length}
use Rattle.mw_logic.specs.Term.{RawTerm, RawTerms, nil, cons, join}
use Rattle.mw_logic.specs.Terms.{terms_of}
use Rattle.mw_logic.specs.Signature.{Signature}
use Rattle.mw_logic.specs.Accepted.{IsAccepted}
use Rattle.mw_logic.specs.NormalForm.{applied_in}
use Rattle.mw_logic.proofs.SortLaws.{join_assoc, join-nil}
use Rattle.mw_logic.proofs.Canonical.{Each-join, IsCanonical, AreCanonical, each_canonical, all_canonical}
use Rattle.mw_logic.proofs.Soundness.{IsLong, long-join}
use Rattle.mw_logic.proofs.Replacing.{applied-inside}
use Rattle.mw_logic.proofs.Pushed.{terms_of-append}
use Rattle.mw_deduction.specs.Standing.{Open, filled, IsClear, AreClear}
use Rattle.mw_deduction.specs.Replay.{whole}
use Rattle.mw_spot.specs.Spots.{IsAnother, AreMore, all_before, all_after}
use Rattle.mw_spot.proofs.Calls.{last_first, pushed_first}
use Rattle.mw_spot.proofs.Filled.{long_middle}

more-append : (sig : Signature) (f : ℕ) (os ps : List Open) → AreMore sig f os → AreMore sig f ps → AreMore sig f (os ++ ps)
more-append sig f [] ps h k = k
more-append sig f (o ∷ os) ps h k = (h.0, more-append sig f os ps h.1 k)

pub more_reversed : (sig : Signature) (f : ℕ) (os : List Open) → All (IsAnother sig f) os → AreMore sig f (reverse os)
more_reversed sig f [] h = tt
more_reversed sig f (o ∷ os) h =
    subst (AreMore sig f) (sym (reverse-append (o ∷ []) os))
    (more-append sig f (reverse os) (o ∷ []) (more_reversed sig f os (All-tail (IsAnother sig f) o os h)) (All-head (IsAnother sig f) o os h, tt))

-- the last of a list is cut off with those before it, from the n-th on
pub cut_behind : {A : Type 0} (xs : List A) (x : A) (n : ℕ) → 1 ≤ length xs → x ≡ get_or xs (length xs - 1) x → n ≤ length xs - 1
    → (reverse (drop n xs) ≡ x ∷ reverse (drop n (take (length xs - 1) xs))) × (reverse xs ≡ reverse (drop n xs) ++ reverse (take n (take (length xs - 1) xs)))
cut_behind xs x n l e h =
    let m : ℕ = length xs - 1 in
    let z : m + 1 ≡ length xs = omega (arith, l) in
    let w : xs ≡ take m xs ++ (x ∷ []) = sym (ap (λ k. take k xs) z ∙ take-length xs) ∙ take_more xs m x (omega (arith, l)) ∙ ap (λ y. take m xs ++ (y ∷ [])) (sym e) in
    let s : length (take m xs) ≡ m = length-take-le m xs (omega (arith, l)) in
    let k : n ≤ length (take m xs) = omega (arith, h, s) in
    let behind : drop n xs ≡ drop n (take m xs) ++ (x ∷ []) = ap (drop n) w ∙ drop-append-le n (take m xs) (x ∷ []) k in
    let front : take n xs ≡ take n (take m xs) = ap (take n) w ∙ take-append-le n (take m xs) (x ∷ []) k in (
      ap reverse behind ∙ reverse-append (drop n (take m xs)) (x ∷ []),
      sym (ap reverse (take-append-drop n xs)) ∙ reverse-append (take n xs) (drop n xs) ∙ ap (λ ys. reverse (drop n xs) ++ reverse ys) front,
    )

module _ (sig : Signature) (ok : IsAccepted sig) where
  beside_canonical : (o : Open) → IsClear sig o → (ts : RawTerms) → AreCanonical sig ts → AreCanonical sig (join o.before (join ts o.after))
  beside_canonical o clear ts k =
      all_canonical sig (join o.before (join ts o.after))
      (Each-join (IsCanonical sig) o.before (join ts o.after) (each_canonical sig o.before clear.before)
      (Each-join (IsCanonical sig) ts o.after (each_canonical sig ts k) (each_canonical sig o.after clear.after)))

  longer : (b ts a : RawTerms) → IsLong ts → IsLong (join b (join ts a))
  longer nil ts a l = long-join ts a l
  longer (cons t b) ts a l = tt

  module _ (f : ℕ) where
    put_together : (os : List Open) → AreMore sig f os → AreClear sig os → (ts : RawTerms) → IsLong ts → AreCanonical sig ts
        → whole sig os (applied_in sig f ts) ≡ applied_in sig f (join (all_before os) (join ts (all_after os)))
    put_together [] more clear ts l k = ap (applied_in sig f) (sym (join-nil ts))
    put_together (o ∷ os) more clear ts l k =
        let here : filled sig o (applied_in sig f ts) ≡ applied_in sig f (join o.before (join ts o.after)) =
        ap (λ g. applied_in sig g (join o.before (cons (applied_in sig f ts) o.after))) more.0.1 ∙ applied-inside sig ok f more.0.0 o.before ts o.after l k in
        let rest = put_together os more.1 clear.1 (join o.before (join ts o.after)) (longer o.before ts o.after l) (beside_canonical o clear.0 ts k) in
        let sides : join (all_before os) (join (join o.before (join ts o.after)) (all_after os)) ≡ join (join (all_before os) o.before) (join ts (join o.after (all_after os))) =
        ap (join (all_before os)) (join_assoc o.before (join ts o.after) (all_after os) ∙ ap (join o.before) (join_assoc ts o.after (all_after os)))
        ∙ sym (join_assoc (all_before os) o.before (join ts (join o.after (all_after os)))) in
        ap (whole sig os) here ∙ rest ∙ ap (applied_in sig f) sides

    -- what the levels are with a term in the innermost hole
    pub whole_together : (o : Open) (os : List Open) → o.operator ≡ f → AreMore sig f os → AreClear sig (o ∷ os) → (t : RawTerm) → IsCanonical sig t
        → applied_in sig f (join (all_before (o ∷ os)) (cons t (all_after (o ∷ os)))) ≡ whole sig (o ∷ os) t
    whole_together o os e more clear t k =
        let ts : RawTerms = join o.before (cons t o.after) in
        let here : filled sig o t ≡ applied_in sig f ts = ap (λ g. applied_in sig g ts) e in
        let rest = put_together os more clear.1 ts (long_middle o.before t o.after) (beside_canonical o clear.0 (cons t nil) (k, tt)) in
        let sides : join (all_before os) (join ts (all_after os)) ≡ join (join (all_before os) o.before) (cons t (join o.after (all_after os))) =
        ap (join (all_before os)) (join_assoc o.before (cons t o.after) (all_after os)) ∙ sym (join_assoc (all_before os) o.before (cons t (join o.after (all_after os)))) in
        sym (ap (whole sig os) here ∙ rest ∙ ap (applied_in sig f) sides)

-- one level more, from the outermost on
pub before_more : (levels : List Open) (i : ℕ) (o : Open) (old new bs : List RawTerm) → i < length levels → o ≡ get_or levels i o → new ≡ old ++ bs → terms_of bs ≡ o.before
    → terms_of old ≡ all_before (reverse (take i levels)) → terms_of new ≡ all_before (reverse (take (i + 1) levels))
before_more levels i o old new bs l e n b h =
    let first : reverse (take (i + 1) levels) ≡ o ∷ reverse (take i levels) = pushed_first (take i levels) (take (i + 1) levels) o (take_more levels i o l ∙ ap (λ x. take i levels ++ (x ∷ [])) (sym e)) in
    ap terms_of n ∙ terms_of-append old bs ∙ ap (λ ts. join ts (terms_of bs)) h ∙ ap (join (all_before (reverse (take i levels)))) b ∙ sym (ap all_before first)

-- and from the innermost on
pub after_more : (rest : List Open) (o : Open) (old new bs : List RawTerm) → 1 ≤ length rest → o ≡ get_or rest (length rest - 1) o → new ≡ old ++ bs → terms_of bs ≡ o.after
    → join (terms_of new) (all_after (reverse (take (length rest - 1) rest))) ≡ join (terms_of old) (all_after (reverse rest))
after_more rest o old new bs l e n b =
    let us : RawTerms = all_after (reverse (take (length rest - 1) rest)) in
    ap (λ ts. join (terms_of ts) us) n ∙ ap (λ ts. join ts us) (terms_of-append old bs) ∙ join_assoc (terms_of old) (terms_of bs) us ∙ ap (λ ts. join (terms_of old) (join ts us)) b
    ∙ sym (ap (λ os. join (terms_of old) (all_after os)) (last_first rest o l e))

pub no_more : (rest : List Open) (args : List RawTerm) (all : RawTerms) → length rest < 1 → join (terms_of args) (all_after (reverse rest)) ≡ all → terms_of args ≡ all
no_more [] args all l e = sym (join-nil (terms_of args)) ∙ e
no_more (o ∷ os) args all l e = absurd (omega (arith, l))
