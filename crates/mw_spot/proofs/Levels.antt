-- A level of a walk: the arguments beside the hole stand in one list.
use Rattle.std.specs.Prelude.{◌≡◌, ◌≤◌, ◌<◌, ◌++◌, ℕ, zero, suc, List, [], ◌∷◌, take, drop, length, get_or, Bool, true, false, refl}
use Rattle.std.specs.Ordering.{is_gt}
use Rattle.std.specs.List.Sorted.{IsPartitionedBy, IsPartitionPoint}
use Rattle.std.proofs.Common.{ap, sym, subst, ◌∙◌, arith}
use Rattle.std.proofs.lemmas.Bool.{both_ways}
use Rattle.std.proofs.lemmas.List.{take-append-drop, length-take}
use Rattle.mw_logic.specs.Term.{RawTerm, cons, join}
use Rattle.mw_logic.specs.Terms.{terms_of}
use Rattle.mw_logic.specs.Signature.{Signature}
use Rattle.mw_logic.specs.TermOrder.{compare_terms, stands_after, sorted_terms}
use Rattle.mw_logic.proofs.OrderLaws.{after-trans}
use Rattle.mw_logic.proofs.SortedLists.{climbs}
use Rattle.mw_logic.specs.NormalForm.{is_comm, arranged}
use Rattle.mw_logic.specs.Parts.{number_of_terms}
use Rattle.mw_logic.proofs.Pushed.{terms_of-append}
use Rattle.mw_deduction.specs.Standing.{Open}
use Rattle.mw_stack.proofs.Piles.{number-terms_of}
use Rattle.mw_spot.specs.Walks.{level_of, IsOrderly}
use Rattle.mw_spot.specs.Spots.{below, place}
use Rattle.mw_stack.proofs.Searched.{none_after, after_test}

pub beside : (at : ℕ) (xs : List RawTerm) → join (terms_of (take at xs)) (terms_of (drop at xs)) ≡ terms_of xs
beside at xs = sym (terms_of-append (take at xs) (drop at xs)) ∙ ap terms_of (take-append-drop at xs)

pub with_one : (at : ℕ) (xs : List RawTerm) (t : RawTerm) → terms_of (take at xs ++ (t ∷ drop at xs)) ≡ join (terms_of (take at xs)) (cons t (terms_of (drop at xs)))
with_one at xs t = terms_of-append (take at xs) (t ∷ drop at xs)

pub so_many : (at : ℕ) (xs : List RawTerm) → at ≤ length xs → number_of_terms (terms_of (take at xs)) ≡ at
so_many at xs h = let l = length-take at xs in number-terms_of (take at xs) ∙ omega (arith, h, l)

pub place_stays : (sig : Signature) (f at : ℕ) (xs : List RawTerm) (t : RawTerm) (o : Open) → level_of f at xs ≡ o → is_comm sig o.operator ≡ false → at ≤ length xs → at ≡ place sig o t
place_stays sig f at xs t o e c h = subst (λ o. is_comm sig o.operator ≡ false → at ≡ place sig o t) e here c
  where
    here : is_comm sig f ≡ false → at ≡ place sig (level_of f at xs) t
    here c = rw c (sym (so_many at xs h))

pub place_found : (sig : Signature) (f at : ℕ) (xs : List RawTerm) (t : RawTerm) (i : ℕ) (o : Open) → level_of f at xs ≡ o → is_comm sig o.operator ≡ true → IsOrderly sig o
    → (sorted_terms (terms_of xs) ≡ terms_of xs → i ≡ below t (terms_of xs)) → i ≡ place sig o t
place_found sig f at xs t i o e c q h = subst (λ o. is_comm sig o.operator ≡ true → IsOrderly sig o → i ≡ place sig o t) e here c q
  where
    here : is_comm sig f ≡ true → IsOrderly sig (level_of f at xs) → i ≡ place sig (level_of f at xs) t
    here c q = rw (c, beside at xs) (h (subst (λ m. arranged m (terms_of xs) ≡ terms_of xs) c (subst (λ ts. arranged (is_comm sig f) ts ≡ ts) (beside at xs) q)))

-- what a search among terms in order finds
pub is_divided : (t : RawTerm) (xs : List RawTerm) → sorted_terms (terms_of xs) ≡ terms_of xs → IsPartitionedBy (λ u. is_gt (compare_terms t u)) xs
is_divided t xs o i j d l m h = by_test (is_gt (compare_terms t (get_or xs i d))) refl
  where
    by_test : (b : Bool) → is_gt (compare_terms t (get_or xs i d)) ≡ b → b ≡ true
    by_test true e = refl
    by_test false e =
        absurd (both_ways _ (after-trans t (get_or xs i d) (get_or xs j d) (after_test t (get_or xs i d) false (sym e)) (none_after xs i j d (climbs (terms_of xs) o) l m)) (after_test t (get_or xs j d) true (sym h)))

pub found_below : (t : RawTerm) (xs : List RawTerm) (i : ℕ) → i ≤ length xs → ((k : ℕ) (d : RawTerm) → k < i → stands_after t (get_or xs k d) ≡ true)
    → ((k : ℕ) (d : RawTerm) → i ≤ k → k < length xs → stands_after t (get_or xs k d) ≡ false) → i ≡ below t (terms_of xs)
found_below t [] zero l g h = refl
found_below t [] (suc i) l g h = absurd (omega (arith, l))
found_below t (x ∷ xs) zero l g h = rw (h 0 x (omega arith) (omega arith)) refl
found_below t (x ∷ xs) (suc i) l g h = rw (g 0 x (omega arith)) (ap suc (found_below t xs i (omega (arith, l)) (λ k d m. g (suc k) d (omega (arith, m))) (λ k d m n. h (suc k) d (omega (arith, m)) (omega (arith, n)))))

pub found_there : (t : RawTerm) (xs : List RawTerm) (i : ℕ) → i ≤ length xs → IsPartitionPoint (λ u. is_gt (compare_terms t u) ≡ true) (λ u. is_gt (compare_terms t u) ≡ false) xs i → i ≡ below t (terms_of xs)
found_there t xs i l p = found_below t xs i l (λ k d m. after_test t (get_or xs k d) true (sym (p.0 k d (omega arith) m))) (λ k d m n. after_test t (get_or xs k d) false (sym (p.1 k d m n)))
