-- The matches of a trace are those that are found, each followed by what comes after it; and each goes on from the values
-- that were there.
use Rattle.std.specs.Prelude.{Bool, true, false, cond, Option, Some, None, is_some, unwrap_or, slice_get, ◌≡◌, refl}
use Rattle.std.proofs.Common.{◌∙◌, ℕ, List, [], ◌∷◌, ◌++◌, ap, sym}
use Rattle.std.specs.List.{flat_map}
use Rattle.std.proofs.lemmas.List.{append-nil}
use Rattle.mw_logic.specs.Term.{RawTerm, numeral, quoted, variable, apply, RawTerms, nil, cons}
use Rattle.mw_logic.specs.Terms.{args_of, front, skip}
use Rattle.mw_logic.specs.Signature.{Signature}
use Rattle.mw_logic.specs.Kinds.{is_successor}
use Rattle.mw_logic.specs.Parts.{is_assoc, number_of_terms}
use Rattle.mw_logic.specs.NormalForm.{is_comm, identity_of, elements, rebuilt}
use Rattle.mw_arguments.specs.Pieces.{is_backed}
use Rattle.mw_arguments.specs.Bags.{same}
use Rattle.mw_arguments.specs.Splits.{orders}
use Rattle.mw_arguments.proofs.Once.{flat_map-flat_map, flat_map-same}
use Rattle.mw_matching.specs.Patterns.{is_rigid}
use Rattle.mw_matching.specs.Multisets.{is_within, left_behind, term_at, without, news, times, part_of, rest_of, parts}
use Rattle.mw_matching.specs.Found.{Values, is_single, fits, has_top, has_before, before, value_of, first_term, are_none, fronts, placed, found, found_all, found_orders, found_row, found_bag}
use Rattle.mw_search.specs.Traces.{Trace, somes, ticked, finish, at_position, trace, trace_all, trace_orders, trace_row, trace_bag}
use Rattle.mw_search.specs.Goals.{goal_trace, goal_found, top_of}
use Rattle.mw_search.specs.declared.goals.Goal.{Goal}
use Rattle.mw_search.specs.declared.goals.Goal.TheVariants.{Meet, Args, Row, Bag, Left}

pub somes-append : (a b : Trace) → somes (a ++ b) ≡ somes a ++ somes b
somes-append [] b = refl
somes-append (None ∷ a) b = somes-append a b
somes-append (Some vs ∷ a) b = ap (λ l. vs ∷ l) (somes-append a b)

pub somes-ticked : {X : Type 0} (F : X → Trace) (xs : List X) → somes (ticked F xs) ≡ flat_map (λ x. somes (F x)) xs
somes-ticked F [] = refl
somes-ticked F (x ∷ xs) = somes-append (F x) (ticked F xs) ∙ ap (λ l. somes (F x) ++ l) (somes-ticked F xs)

then_is : (X : Trace) (L : List Values) (R : Values → Trace) (S : Values → List Values) (k : Values → Trace) → somes X ≡ flat_map (λ us. somes (R us)) L → ((us : Values) → somes (R us) ≡ flat_map (λ ws. somes (k ws)) (S us))
    → somes X ≡ flat_map (λ ws. somes (k ws)) (flat_map S L)
then_is X L R S k h g = h ∙ flat_map-same _ _ L g ∙ sym (flat_map-flat_map (λ ws. somes (k ws)) S L)

if_so : (b : Bool) (k : Values → Trace) (vs : Values) → somes (cond b (k vs) []) ≡ flat_map (λ us. somes (k us)) (cond b (vs ∷ []) [])
if_so true k vs = sym (append-nil (somes (k vs)))
if_so false k vs = refl

if_both : (b : Bool) (X : Trace) (L : List Values) (k : Values → Trace) → somes X ≡ flat_map (λ us. somes (k us)) L → somes (cond b X []) ≡ flat_map (λ us. somes (k us)) (cond b L [])
if_both true X L k h = h
if_both false X L k h = refl

if_none : (b : Bool) (X : Trace) (L : List Values) (k : Values → Trace) → somes X ≡ flat_map (λ us. somes (k us)) L → somes (cond b [] X) ≡ flat_map (λ us. somes (k us)) (cond b [] L)
if_none true X L k h = refl
if_none false X L k h = h

if_else : (b : Bool) (X Y : Trace) (L M : List Values) (k : Values → Trace) → somes X ≡ flat_map (λ us. somes (k us)) L → somes Y ≡ flat_map (λ us. somes (k us)) M → somes (cond b X Y) ≡ flat_map (λ us. somes (k us)) (cond b L M)
if_else true X Y L M k h g = h
if_else false X Y L M k h g = g

module _ (sig : Signature) (single : List (List ℕ)) where
  at_placed : (i : ℕ) (t : RawTerm) (vs : Values) (o : Option RawTerm) (k : Values → Trace) → somes (at_position sig single i t vs o k) ≡ flat_map (λ us. somes (k us)) (placed sig single i t vs o)
  at_placed i t vs (Some u) k = if_so (same u t) k vs
  at_placed i t vs None k = if_so (fits sig single i t) k (vs ++ t ∷ [])

  mutual
    finds : (p t : RawTerm) (vs : Values) (k : Values → Trace) → somes (trace sig single p t vs k) ≡ flat_map (λ us. somes (k us)) (found sig single p t vs)
    finds (numeral n) t vs k = if_so (same (numeral n) t) k vs
    finds (quoted q) t vs k = if_so (same (quoted q) t) k vs
    finds (variable x) t vs k = at_placed x.sort t vs (slice_get vs x.sort) k
    finds (apply f qs) t vs k =
        if_else (is_assoc sig f) _ _ _ _ k
        (if_else (is_comm sig f) _ _ _ _ k
        (finds_bag f qs (elements (identity_of sig f) f t) vs k)
        (finds_row f qs (elements (identity_of sig f) f t) vs k))
        (if_else (is_comm sig f) _ _ _ _ k
        (if_both (has_top f t) _ _ k (finds_orders qs (orders (args_of t)) vs k))
        (if_else (is_successor sig f) _ _ _ _ k
        (if_both (has_before f t) _ _ k (finds_all qs (before t) vs k))
        (if_both (has_top f t) _ _ k (finds_all qs (args_of t) vs k))))

    finds_all : (qs ts : RawTerms) (vs : Values) (k : Values → Trace) → somes (trace_all sig single qs ts vs k) ≡ flat_map (λ us. somes (k us)) (found_all sig single qs ts vs)
    finds_all nil nil vs k = sym (append-nil (somes (k vs)))
    finds_all nil (cons t ts) vs k = refl
    finds_all (cons q qs) nil vs k = refl
    finds_all (cons q qs) (cons t ts) vs k =
        finds q t vs (λ us. trace_all sig single qs ts us k)
        ∙ flat_map-same _ _ (found sig single q t vs) (λ us. finds_all qs ts us k) ∙ sym (flat_map-flat_map (λ us. somes (k us)) (λ us. found_all sig single qs ts us) (found sig single q t vs))

    finds_orders : (qs : RawTerms) (tss : List RawTerms) (vs : Values) (k : Values → Trace) → somes (trace_orders sig single qs tss vs k) ≡ flat_map (λ us. somes (k us)) (found_orders sig single qs tss vs)
    finds_orders nil tss vs k = refl
    finds_orders (cons q qs) tss vs k =
        somes-ticked (λ ts. trace sig single q (first_term ts) vs (λ us. trace_all sig single qs (skip 1 ts) us k)) tss
        ∙ flat_map-same _ _ tss (λ ts. finds q (first_term ts) vs (λ us. trace_all sig single qs (skip 1 ts) us k)
        ∙ flat_map-same _ _ (found sig single q (first_term ts) vs) (λ us. finds_all qs (skip 1 ts) us k)
        ∙ sym (flat_map-flat_map (λ us. somes (k us)) (λ us. found_all sig single qs (skip 1 ts) us) (found sig single q (first_term ts) vs)))
        ∙ sym (flat_map-flat_map (λ us. somes (k us)) (λ ts. flat_map (λ us. found_all sig single qs (skip 1 ts) us) (found sig single q (first_term ts) vs)) tss)

    finds_row : (f : ℕ) (qs zs : RawTerms) (vs : Values) (k : Values → Trace) → somes (trace_row sig single f qs zs vs k) ≡ flat_map (λ us. somes (k us)) (found_row sig single f qs zs vs)
    finds_row f nil nil vs k = sym (append-nil (somes (k vs)))
    finds_row f nil (cons z zs) vs k = refl
    finds_row f (cons q qs) zs vs k =
        if_else (is_rigid sig (is_single single) f q) _ _ _ _ k
        (if_none (are_none zs) _ _ k (then_is (trace sig single q (first_term zs) vs (λ us. trace_row sig single f qs (skip 1 zs) us k)) (found sig single q (first_term zs) vs) (λ us. trace_row sig single f qs (skip 1 zs) us k) (λ us. found_row sig single f qs (skip 1 zs) us) k (finds q (first_term zs) vs (λ us. trace_row sig single f qs (skip 1 zs) us k)) (λ us. finds_row f qs (skip 1 zs) us k)))
        (if_else (are_none qs) _ _ _ _ k
        (if_both (is_backed (identity_of sig f) zs) _ _ k (finds q (rebuilt (identity_of sig f) f zs) vs k))
        (somes-ticked (λ n. trace sig single q (rebuilt (identity_of sig f) f (front n zs)) vs (λ us. trace_row sig single f qs (skip n zs) us k)) (fronts (is_some (identity_of sig f)) (number_of_terms zs))
        ∙ flat_map-same _ _ (fronts (is_some (identity_of sig f)) (number_of_terms zs)) (λ n. then_is (trace sig single q (rebuilt (identity_of sig f) f (front n zs)) vs (λ us. trace_row sig single f qs (skip n zs) us k)) (found sig single q (rebuilt (identity_of sig f) f (front n zs)) vs) (λ us. trace_row sig single f qs (skip n zs) us k) (λ us. found_row sig single f qs (skip n zs) us) k (finds q (rebuilt (identity_of sig f) f (front n zs)) vs (λ us. trace_row sig single f qs (skip n zs) us k)) (λ us. finds_row f qs (skip n zs) us k))
        ∙ sym (flat_map-flat_map (λ us. somes (k us)) (λ n. flat_map (λ us. found_row sig single f qs (skip n zs) us) (found sig single q (rebuilt (identity_of sig f) f (front n zs)) vs)) (fronts (is_some (identity_of sig f)) (number_of_terms zs)))))

    finds_bag : (f : ℕ) (qs zs : RawTerms) (vs : Values) (k : Values → Trace) → somes (trace_bag sig single f qs zs vs k) ≡ flat_map (λ us. somes (k us)) (found_bag sig single f qs zs vs)
    finds_bag f nil nil vs k = sym (append-nil (somes (k vs)))
    finds_bag f nil (cons z zs) vs k = refl
    finds_bag f (cons q qs) zs vs k =
        if_else (is_some (value_of q vs)) _ _ _ _ k
        (if_both (is_within (elements (identity_of sig f) f (unwrap_or (value_of q vs) q)) zs) _ _ k (finds_bag f qs (left_behind (elements (identity_of sig f) f (unwrap_or (value_of q vs) q)) zs) vs k))
        (if_else (is_rigid sig (is_single single) f q) _ _ _ _ k
        (somes-ticked (λ n. trace sig single q (term_at n zs) vs (λ us. trace_bag sig single f qs (without n zs) us k)) (news zs 0 (number_of_terms zs))
        ∙ flat_map-same _ _ (news zs 0 (number_of_terms zs)) (λ n. then_is (trace sig single q (term_at n zs) vs (λ us. trace_bag sig single f qs (without n zs) us k)) (found sig single q (term_at n zs) vs) (λ us. trace_bag sig single f qs (without n zs) us k) (λ us. found_bag sig single f qs (without n zs) us) k
        (finds q (term_at n zs) vs (λ us. trace_bag sig single f qs (without n zs) us k)) (λ us. finds_bag f qs (without n zs) us k))
        ∙ sym (flat_map-flat_map (λ us. somes (k us)) (λ n. flat_map (λ us. found_bag sig single f qs (without n zs) us) (found sig single q (term_at n zs) vs)) (news zs 0 (number_of_terms zs))))
        (if_else (are_none qs) _ _ _ _ k
        (if_both (is_backed (identity_of sig f) zs) _ _ k (finds q (rebuilt (identity_of sig f) f zs) vs k))
        (somes-ticked (λ c. trace sig single q (rebuilt (identity_of sig f) f (part_of zs c)) vs (λ us. trace_bag sig single f qs (rest_of zs c) us k)) (parts (is_some (identity_of sig f)) (times q (cons q qs)) zs)
        ∙ flat_map-same _ _ (parts (is_some (identity_of sig f)) (times q (cons q qs)) zs) (λ c. then_is (trace sig single q (rebuilt (identity_of sig f) f (part_of zs c)) vs (λ us. trace_bag sig single f qs (rest_of zs c) us k)) (found sig single q (rebuilt (identity_of sig f) f (part_of zs c)) vs) (λ us. trace_bag sig single f qs (rest_of zs c) us k) (λ us. found_bag sig single f qs (rest_of zs c) us) k
        (finds q (rebuilt (identity_of sig f) f (part_of zs c)) vs (λ us. trace_bag sig single f qs (rest_of zs c) us k)) (λ us. finds_bag f qs (rest_of zs c) us k))
        ∙ sym (flat_map-flat_map (λ us. somes (k us)) (λ c. flat_map (λ us. found_bag sig single f qs (rest_of zs c) us) (found sig single q (rebuilt (identity_of sig f) f (part_of zs c)) vs)) (parts (is_some (identity_of sig f)) (times q (cons q qs)) zs)))))

  flat_map-itself : (ls : List Values) → flat_map (λ us. somes (finish us)) ls ≡ ls
  flat_map-itself [] = refl
  flat_map-itself (l ∷ ls) = ap (λ m. l ∷ m) (flat_map-itself ls)

  pub finds_goal : (g : Goal) (vs : Values) (k : Values → Trace) → somes (goal_trace sig single g vs k) ≡ flat_map (λ us. somes (k us)) (goal_found sig single g vs)
  finds_goal (Meet p t) vs k = finds p t vs k
  finds_goal (Args p t i) vs k = finds_all (skip i (args_of p)) (skip i (args_of t)) vs k
  finds_goal (Row p i r j) vs k = finds_row (top_of p) (skip i (args_of p)) (skip j (args_of r)) vs k
  finds_goal (Bag p i r) vs k = finds_bag (top_of p) (skip i (args_of p)) (args_of r) vs k
  finds_goal (Left p i r n) vs k = finds_bag (top_of p) (skip i (args_of p)) (without n (args_of r)) vs k

  -- what an enumeration gives at the start
  pub all_found : (g : Goal) (vs : Values) → somes (goal_trace sig single g vs finish) ≡ goal_found sig single g vs
  all_found g vs = finds_goal g vs finish ∙ flat_map-itself (goal_found sig single g vs)
