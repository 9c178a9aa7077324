-- Each match begins with the values that were there; so what holds of all lists that go on from them holds of each match
-- that is still to come.
use Rattle.std.specs.Prelude.{Bool, true, false, cond, Option, Some, None, is_some, unwrap_or, slice_get, ◌≡◌, refl}
use Rattle.std.proofs.Common.{◌∙◌, ℕ, List, [], ◌∷◌, ◌++◌, ap, sym, subst, append_assoc}
use Rattle.std.specs.List.{flat_map}
use Rattle.std.proofs.lemmas.List.{append-nil}
use Rattle.mw_logic.specs.Term.{RawTerm, numeral, quoted, variable, apply, RawTerms, nil, cons}
use Rattle.mw_logic.specs.Terms.{args_of, front, skip}
use Rattle.mw_logic.specs.Signature.{Signature}
use Rattle.mw_logic.specs.Kinds.{is_successor}
use Rattle.mw_logic.specs.Parts.{is_assoc, number_of_terms}
use Rattle.mw_logic.specs.NormalForm.{is_comm, identity_of, elements, rebuilt}
use Rattle.mw_arguments.specs.Pieces.{is_backed}
use Rattle.mw_arguments.specs.Bags.{same}
use Rattle.mw_arguments.specs.Splits.{orders}
use Rattle.mw_matching.specs.Patterns.{is_rigid}
use Rattle.mw_matching.specs.Multisets.{is_within, left_behind, term_at, without, news, times, part_of, rest_of, parts}
use Rattle.mw_matching.specs.Found.{Values, is_single, fits, has_top, has_before, before, value_of, first_term, are_none, fronts, placed, found, found_all, found_orders, found_row, found_bag}
use Rattle.mw_search.specs.Traces.{Trace, somes}
use Rattle.mw_search.specs.Goals.{goal_trace, goal_found, hand_trace, top_of}
use Rattle.mw_search.specs.Lacking.{Each}
use Rattle.mw_search.specs.declared.goals.Goal.{Goal}
use Rattle.mw_search.specs.declared.goals.Goal.TheVariants.{Meet, Args, Row, Bag, Left}
use Rattle.mw_search.proofs.Finding.{finds_goal}

-- us goes on from vs
pub record GoesOn (vs us : Values) : Type 0 where
  pub more : Values
  pub is : us ≡ vs ++ more

pub here : (vs : Values) → GoesOn vs vs
here vs = record { more = []; is = sym (append-nil vs) }

pub further : (vs us ws : Values) → GoesOn vs us → GoesOn us ws → GoesOn vs ws
further vs us ws a b = record { more = a.more ++ b.more; is = b.is ∙ ap (λ l. l ++ b.more) a.is ∙ append_assoc vs a.more b.more }

pub each_append : {X : Type 0} (P : X → Type 0) (xs ys : List X) → Each P xs → Each P ys → Each P (xs ++ ys)
each_append P [] ys h k = k
each_append P (x ∷ xs) ys h k = (h.0, each_append P xs ys h.1 k)

each_mapped : {X Y : Type 0} (P : X → Type 0) (Q : Y → Type 0) (f : X → List Y) (xs : List X) → Each P xs → ((x : X) → P x → Each Q (f x)) → Each Q (flat_map f xs)
each_mapped P Q f [] h g = tt
each_mapped P Q f (x ∷ xs) h g = each_append Q (f x) (flat_map f xs) (g x h.0) (each_mapped P Q f xs h.1 g)

each_any : {X Y : Type 0} (Q : Y → Type 0) (f : X → List Y) (xs : List X) → ((x : X) → Each Q (f x)) → Each Q (flat_map f xs)
each_any Q f [] g = tt
each_any Q f (x ∷ xs) g = each_append Q (f x) (flat_map f xs) (g x) (each_any Q f xs g)

each_weaker : {X : Type 0} (P Q : X → Type 0) (xs : List X) → Each P xs → ((x : X) → P x → Q x) → Each Q xs
each_weaker P Q [] h g = tt
each_weaker P Q (x ∷ xs) h g = (g x h.0, each_weaker P Q xs h.1 g)

both_so : {X : Type 0} (P : X → Type 0) (b : Bool) (xs ys : List X) → Each P xs → Each P ys → Each P (cond b xs ys)
both_so P true xs ys h k = h
both_so P false xs ys h k = k

-- what goes on from values that go on
after_each : (vs : Values) (L : List Values) (F : Values → List Values) → Each (GoesOn vs) L → ((us : Values) → Each (GoesOn us) (F us)) → Each (GoesOn vs) (flat_map F L)
after_each vs L F h g = each_mapped (GoesOn vs) (GoesOn vs) F L h (λ us a. each_weaker (GoesOn us) (GoesOn vs) (F us) (g us) (λ ws b. further vs us ws a b))

module _ (sig : Signature) (single : List (List ℕ)) where
  placed_on : (i : ℕ) (t : RawTerm) (vs : Values) (o : Option RawTerm) → Each (GoesOn vs) (placed sig single i t vs o)
  placed_on i t vs (Some u) = both_so (GoesOn vs) (same u t) _ _ (here vs, tt) tt
  placed_on i t vs None = both_so (GoesOn vs) (fits sig single i t) _ _ (record { more = t ∷ []; is = refl }, tt) tt

  mutual
    pub found_on : (p t : RawTerm) (vs : Values) → Each (GoesOn vs) (found sig single p t vs)
    found_on (numeral n) t vs = both_so (GoesOn vs) (same (numeral n) t) _ _ (here vs, tt) tt
    found_on (quoted q) t vs = both_so (GoesOn vs) (same (quoted q) t) _ _ (here vs, tt) tt
    found_on (variable x) t vs = placed_on x.sort t vs (slice_get vs x.sort)
    found_on (apply f qs) t vs =
        both_so (GoesOn vs) (is_assoc sig f) _ _
        (both_so (GoesOn vs) (is_comm sig f) _ _ (bag_on f qs (elements (identity_of sig f) f t) vs) (row_on f qs (elements (identity_of sig f) f t) vs))
        (both_so (GoesOn vs) (is_comm sig f) _ _ (both_so (GoesOn vs) (has_top f t) _ _ (orders_on qs (orders (args_of t)) vs) tt)
        (both_so (GoesOn vs) (is_successor sig f) _ _ (both_so (GoesOn vs) (has_before f t) _ _ (all_on qs (before t) vs) tt) (both_so (GoesOn vs) (has_top f t) _ _ (all_on qs (args_of t) vs) tt)))

    all_on : (qs ts : RawTerms) (vs : Values) → Each (GoesOn vs) (found_all sig single qs ts vs)
    all_on nil nil vs = (here vs, tt)
    all_on nil (cons t ts) vs = tt
    all_on (cons q qs) nil vs = tt
    all_on (cons q qs) (cons t ts) vs = after_each vs (found sig single q t vs) (λ us. found_all sig single qs ts us) (found_on q t vs) (λ us. all_on qs ts us)

    orders_on : (qs : RawTerms) (tss : List RawTerms) (vs : Values) → Each (GoesOn vs) (found_orders sig single qs tss vs)
    orders_on nil tss vs = tt
    orders_on (cons q qs) tss vs =
        each_any (GoesOn vs) _ tss (λ ts. after_each vs (found sig single q (first_term ts) vs) (λ us. found_all sig single qs (skip 1 ts) us) (found_on q (first_term ts) vs) (λ us. all_on qs (skip 1 ts) us))

    row_on : (f : ℕ) (qs zs : RawTerms) (vs : Values) → Each (GoesOn vs) (found_row sig single f qs zs vs)
    row_on f nil nil vs = (here vs, tt)
    row_on f nil (cons z zs) vs = tt
    row_on f (cons q qs) zs vs =
        both_so (GoesOn vs) (is_rigid sig (is_single single) f q) _ _
        (both_so (GoesOn vs) (are_none zs) _ _ tt (after_each vs (found sig single q (first_term zs) vs) (λ us. found_row sig single f qs (skip 1 zs) us) (found_on q (first_term zs) vs) (λ us. row_on f qs (skip 1 zs) us)))
        (both_so (GoesOn vs) (are_none qs) _ _
        (both_so (GoesOn vs) (is_backed (identity_of sig f) zs) _ _ (found_on q (rebuilt (identity_of sig f) f zs) vs) tt)
        (each_any (GoesOn vs) _ (fronts (is_some (identity_of sig f)) (number_of_terms zs))
        (λ n. after_each vs (found sig single q (rebuilt (identity_of sig f) f (front n zs)) vs) (λ us. found_row sig single f qs (skip n zs) us) (found_on q (rebuilt (identity_of sig f) f (front n zs)) vs) (λ us. row_on f qs (skip n zs) us))))

    bag_on : (f : ℕ) (qs zs : RawTerms) (vs : Values) → Each (GoesOn vs) (found_bag sig single f qs zs vs)
    bag_on f nil nil vs = (here vs, tt)
    bag_on f nil (cons z zs) vs = tt
    bag_on f (cons q qs) zs vs =
        both_so (GoesOn vs) (is_some (value_of q vs)) _ _
        (both_so (GoesOn vs) (is_within (elements (identity_of sig f) f (unwrap_or (value_of q vs) q)) zs) _ _ (bag_on f qs (left_behind (elements (identity_of sig f) f (unwrap_or (value_of q vs) q)) zs) vs) tt)
        (both_so (GoesOn vs) (is_rigid sig (is_single single) f q) _ _
        (each_any (GoesOn vs) _ (news zs 0 (number_of_terms zs))
        (λ n. after_each vs (found sig single q (term_at n zs) vs) (λ us. found_bag sig single f qs (without n zs) us) (found_on q (term_at n zs) vs) (λ us. bag_on f qs (without n zs) us)))
        (both_so (GoesOn vs) (are_none qs) _ _
        (both_so (GoesOn vs) (is_backed (identity_of sig f) zs) _ _ (found_on q (rebuilt (identity_of sig f) f zs) vs) tt)
        (each_any (GoesOn vs) _ (parts (is_some (identity_of sig f)) (times q (cons q qs)) zs)
        (λ c. after_each vs (found sig single q (rebuilt (identity_of sig f) f (part_of zs c)) vs) (λ us. found_bag sig single f qs (rest_of zs c) us) (found_on q (rebuilt (identity_of sig f) f (part_of zs c)) vs) (λ us. bag_on f qs (rest_of zs c) us)))))

  goal_on : (g : Goal) (vs : Values) → Each (GoesOn vs) (goal_found sig single g vs)
  goal_on (Meet p t) vs = found_on p t vs
  goal_on (Args p t i) vs = all_on (skip i (args_of p)) (skip i (args_of t)) vs
  goal_on (Row p i r j) vs = row_on (top_of p) (skip i (args_of p)) (skip j (args_of r)) vs
  goal_on (Bag p i r) vs = bag_on (top_of p) (skip i (args_of p)) (args_of r) vs
  goal_on (Left p i r n) vs = bag_on (top_of p) (skip i (args_of p)) (without n (args_of r)) vs

  module _ (P : Values → Type 0) where
    -- the matches of a goal go on from the values that were there
    goal_all : (g : Goal) (vs : Values) (k : Values → Trace) → ((us : Values) → GoesOn vs us → Each P (somes (k us))) → Each P (somes (goal_trace sig single g vs k))
    goal_all g vs k h = subst (Each P) (sym (finds_goal sig single g vs k)) (each_mapped (GoesOn vs) P (λ us. somes (k us)) (goal_found sig single g vs) (goal_on g vs) h)

    -- what holds of all that goes on from values holds of each match of the goals in hand
    pub hand_all : (gs : List Goal) (vs : Values) (k : Values → Trace) → ((us : Values) → GoesOn vs us → Each P (somes (k us))) → Each P (somes (hand_trace sig single gs vs k))
    hand_all [] vs k h = h vs (here vs)
    hand_all (g ∷ gs) vs k h = hand_all gs vs (λ us. goal_trace sig single g us k) (λ us a. goal_all g us k (λ ws b. h ws (further vs us ws a b)))
