-- The matches that leave elements behind: of the arguments from a number on, each once.
use Rattle.std.specs.Prelude.{◌≡◌, ◌≤◌, ◌<◌, ◌+◌, ◌-◌, ℕ, suc, List, [], ◌∷◌, ◌++◌, length, take, Bool, true, false, ◌&&◌, cond, nat_lt, Option, Some, None, option_map, option_and_then, option_to_list, slice_get, refl}
use Rattle.std.proofs.Common.{ap, sym, subst, ◌∙◌, arith, length-append}
use Rattle.std.proofs.lemmas.Bool.{and_parts, ltb-true, lt-ltb}
use Rattle.std.proofs.lemmas.Option.{none-some, same_Some}
use Rattle.mw_logic.specs.Term.{RawTerm, apply, RawTerms, nil, cons, join}
use Rattle.mw_logic.specs.Terms.{skip}
use Rattle.mw_logic.specs.Signature.{Signature, Identity}
use Rattle.mw_logic.specs.Accepted.{IsAccepted}
use Rattle.mw_logic.specs.CanonicalPart.{AreSeveral}
use Rattle.mw_logic.specs.Parts.{is_assoc, number_of_terms}
use Rattle.mw_logic.specs.TermOrder.{sorted_terms}
use Rattle.mw_logic.specs.NormalForm.{is_comm, identity_of, is_identity, elements, rebuilt, arranged}
use Rattle.mw_logic.proofs.Canonical.{IsCanonical}
use Rattle.mw_logic.proofs.SortLaws.{sorted_terms-comm}
use Rattle.mw_logic.proofs.SortedLists.{climbs}
use Rattle.mw_logic.proofs.Soundness.{rebuilt-several}
use Rattle.mw_split.specs.Lists.{AllOnce}
use Rattle.mw_position.specs.Positions.{counted, IsNumbered}
use Rattle.mw_position.proofs.Begins.{begins_same, begins_last}
use Rattle.mw_position.proofs.Counting.{within_counted}
use Rattle.mw_arguments.specs.Pieces.{is_backed}
use Rattle.mw_arguments.specs.Places.{numbers_of}
use Rattle.mw_arguments.proofs.Arguments.{in_order}
use Rattle.mw_arguments.proofs.ListPieces.{number_join, number_skip}
use Rattle.mw_arguments.proofs.Once.{once_flat_mapped, once_same, once_one, once_none}
use Rattle.mw_matching.specs.Matches.{Theory, evaluated, Fits, IsMatch, HasArities}
use Rattle.mw_matching.specs.Multisets.{left_behind}
use Rattle.mw_matching.specs.Patterns.{theory}
use Rattle.mw_matching.specs.Found.{Values, fits, is_single, found, numbers_from}
use Rattle.mw_matching.proofs.Matches.{evaluated_canonical, fits_longer}
use Rattle.mw_matching.proofs.FoundShares.{AreElementsOf, value_again, elements_again, value_canonical}
use Rattle.mw_matching.proofs.Multisets.{left_joined}
use Rattle.mw_solving.specs.Inside.{Entry, with_rest, left_numbers, left_entry, left_entries}
use Rattle.mw_solving.proofs.Rest.{IsRest, rest_of, of_rest, rests_once}
use Rattle.mw_solving.proofs.Parts.{several_from, several_number, number_arranged, same_left, elements_several, arguments_are, behind_are, left_are, several_canonical}

-- what an option has
option_once : {A : Type 0} (o : Option A) → AllOnce (λ x. o ≡ Some x) (option_to_list o)
option_once None = once_none (λ x. None ≡ Some x) (λ x e. none-some x e)
option_once (Some y) = once_one (λ x. Some y ≡ Some x) y refl (λ x e. sym (same_Some y x e))

take_push : (us : Values) (r : RawTerm) → take (length us) (us ++ r ∷ []) ≡ us
take_push [] r = refl
take_push (u ∷ us) r = ap (λ ws. u ∷ ws) (take_push us r)

some_backed : (e : Option Identity) (ts : RawTerms) → 1 ≤ number_of_terms ts → is_backed e ts ≡ true
some_backed e nil l = absurd (omega (arith, l))
some_backed None (cons t ts) l = refl
some_backed (Some i) (cons t ts) l = refl

-- an entry that numbers give has these values
abbrev entry_of : Values → Option (List ℕ) → Option Entry
entry_of us o = option_map (λ ks. (Some ks, us)) o

entry_parts : (us : Values) (o : Option (List ℕ)) (x : Entry) → entry_of us o ≡ Some x → (ks : List ℕ) × (o ≡ Some ks) × (us ≡ x.1)
entry_parts us None x e = absurd (none-some x e)
entry_parts us (Some ks) x e = let w = same_Some {A = Entry} (Some ks, us) x e in (ks, refl, ap (λ (x : Entry). x.1) w)

module _ (sig : Signature) (ok : IsAccepted sig) (single : List (List ℕ)) (f : ℕ) (h : is_assoc sig f ≡ true) (p : RawTerm) (named : is_identity (identity_of sig f) p ≡ false) (vs : Values) (m : ℕ) (met : counted (length vs) p ≡ m) where
  abbrev e : Option Identity
  e = identity_of sig f

  abbrev c : Bool
  c = is_comm sig f

  abbrev T : Theory
  T = theory sig (fits sig single) (is_single single)

  module _ (args : RawTerms) where
    -- several of the arguments from number i on are an instance of the pattern, with some left behind; and what numbers they have
    pub record IsLeft (i : ℕ) (x : Entry) : Type 0 where
      pub own : RawTerms
      pub left : RawTerms
      pub match : IsMatch sig T p (apply f own) vs x.1
      pub several : AreSeveral own
      pub some : 1 ≤ number_of_terms left
      pub own_order : arranged c own ≡ own
      pub left_order : arranged c left ≡ left
      pub whole : arranged c (join own left) ≡ skip i args
      pub taken : x.0 ≡ Some (cond c (numbers_of 1 own args) (numbers_from (suc i) (number_of_terms own)))

    left_some : (i : ℕ) (left : RawTerms) (ks : List ℕ) → left_numbers c args i left ≡ Some ks → (1 ≤ number_of_terms left) × (number_of_terms left + i + 1 < number_of_terms args)
    left_some i left ks w = by_test (nat_lt 0 (number_of_terms left) && nat_lt (number_of_terms left + i + 1) (number_of_terms args)) refl w
      where
        by_test : (b : Bool) → (nat_lt 0 (number_of_terms left) && nat_lt (number_of_terms left + i + 1) (number_of_terms args)) ≡ b
            → cond b (Some (cond c (numbers_of 1 (left_behind left args) args) (numbers_from (suc i) (number_of_terms args - i - number_of_terms left)))) None ≡ Some ks
            → (1 ≤ number_of_terms left) × (number_of_terms left + i + 1 < number_of_terms args)
        by_test true q w = let (a, b) = and_parts _ _ q in let l = ltb-true 0 (number_of_terms left) a in let k = ltb-true (number_of_terms left + i + 1) (number_of_terms args) b in (omega (arith, l), k)
        by_test false q w = absurd (none-some ks w)

    module _ (i : ℕ) (first : c ≡ true → i ≡ 0) (room : i + 2 ≤ number_of_terms args) where
      pub sizes : (own left : RawTerms) → arranged c (join own left) ≡ skip i args → number_of_terms own + number_of_terms left + i ≡ number_of_terms args
      sizes own left w =
          let a : number_of_terms (join own left) ≡ number_of_terms (skip i args) = sym (number_arranged c (join own left)) ∙ ap number_of_terms w in
          let b = number_join own left in
          let d = number_skip i args in
          omega (arith, a, b, d, room)

      -- their numbers
      left_numbers_are : (own left : RawTerms) → 2 ≤ number_of_terms own → 1 ≤ number_of_terms left → arranged c own ≡ own → arranged c left ≡ left → arranged c (join own left) ≡ skip i args
          → left_numbers c args i left ≡ Some (cond c (numbers_of 1 own args) (numbers_from (suc i) (number_of_terms own)))
      left_numbers_are own left two one o q w =
          let n = sizes own left w in
          let a : nat_lt 0 (number_of_terms left) ≡ true = lt-ltb 0 (number_of_terms left) (omega (arith, one)) in
          let b : nat_lt (number_of_terms left + i + 1) (number_of_terms args) ≡ true = lt-ltb (number_of_terms left + i + 1) (number_of_terms args) (omega (arith, n, two)) in
          rw (a, b) (ap Some (by_comm c refl))
        where
          by_comm : (b : Bool) → c ≡ b → cond b (numbers_of 1 (left_behind left args) args) (numbers_from (suc i) (number_of_terms args - i - number_of_terms left)) ≡ cond b (numbers_of 1 own args) (numbers_from (suc i) (number_of_terms own))
          by_comm true k =
              let ql : sorted_terms left ≡ left = subst (λ b. arranged b left ≡ left) k q in
              let qo : sorted_terms own ≡ own = subst (λ b. arranged b own ≡ own) k o in
              let s : sorted_terms (join own left) ≡ args = subst (λ b. arranged b (join own left) ≡ skip i args) k w ∙ ap (λ n. skip n args) (first k) in
              ap (λ ts. numbers_of 1 ts args) (left_joined left own args (climbs left ql) qo (sorted_terms-comm left own ∙ s))
          by_comm false k = let n = sizes own left w in ap (numbers_from (suc i)) (omega (arith, n))

      -- what a match with elements left behind gives
      abbrev found_left : Values → Option Entry
      found_left ws =
          option_and_then (λ r. option_map (λ ks. (Some ks, take (length ws - 1) ws)) (left_numbers c args i (elements e f r))) (slice_get ws (length ws - 1))

      found_push : (us : Values) (r : RawTerm) → found_left (us ++ r ∷ []) ≡ entry_of us (left_numbers c args i (elements e f r))
      found_push us r =
          let ws : Values = us ++ r ∷ [] in
          let n = length-append us (r ∷ []) in
          let l : length ws - 1 ≡ length us = omega (arith, n) in
          let k : slice_get ws (length us) ≡ Some r = begins_last us ws r (begins_same ws) in
          ap (λ n. option_and_then (λ r. option_map (λ ks. (Some ks, take n ws)) (left_numbers c args i (elements e f r))) (slice_get ws n)) l
          ∙ ap (λ o. option_and_then (λ r. option_map (λ ks. (Some ks, take (length us) ws)) (left_numbers c args i (elements e f r))) o) k
          ∙ ap (λ ts. entry_of ts (left_numbers c args i (elements e f r))) (take_push us r)

      module _ (g : Fits sig T 0 vs) (numbered : IsNumbered (length vs) p) (a : HasArities sig p) (kt : IsCanonical sig (apply f args)) where
        abbrev t : RawTerm
        t = apply f (skip i args)

        several_behind : AreSeveral (skip i args)
        several_behind = let d = number_skip i args in several_from (skip i args) (omega (arith, d, room))

        behind : AreElementsOf sig ok f h (skip i args)
        behind = behind_are sig ok f h i args first (arguments_are sig ok f h args (several_from args (omega (arith, room))) kt)

        canonical_behind : IsCanonical sig t
        canonical_behind = several_canonical sig ok f h (skip i args) behind several_behind

        abbrev Rest : Values → RawTerm → Type 0
        Rest us r = IsRest sig ok single f h p named vs m met (elements e f t) us r

        instance_canonical : (us : Values) (r : RawTerm) → Rest us r → IsCanonical sig (evaluated sig us p)
        instance_canonical us r d =
            let l = d.size in
            evaluated_canonical sig ok T us p (fits_longer sig ok T vs us g d.begins d.fits) (within_counted (length vs) (length us) p (omega (arith, l, met)))

        rest_whole : (us : Values) (r : RawTerm) → Rest us r → arranged c (join (elements e f (evaluated sig us p)) (elements e f r)) ≡ skip i args
        rest_whole us r d = d.whole ∙ elements_several e f (skip i args) several_behind

        there : (x : Entry) (ws : Values) → IsMatch sig T (with_rest sig f p m) t vs ws → found_left ws ≡ Some x → IsLeft i x
        there x ws mt o =
            let (us, r, w, d) = rest_of sig ok single f h p named vs m met g numbered a t canonical_behind ws mt in
            let o2 : entry_of us (left_numbers c args i (elements e f r)) ≡ Some x = sym (found_push us r) ∙ ap found_left (sym w) ∙ o in
            let (ks, k, is_us) = entry_parts us (left_numbers c args i (elements e f r)) x o2 in
            let (one, less) = left_some i (elements e f r) ks k in
            let own : RawTerms = elements e f (evaluated sig us p) in
            let canonical = instance_canonical us r d in
            let whole = rest_whole us r d in
            let n = sizes own (elements e f r) whole in
            let two : 2 ≤ number_of_terms own = omega (arith, n, less) in
            let several = several_from own two in
            let oo = in_order sig ok f h (evaluated sig us p) canonical in
            let lo = in_order sig ok f h r d.canonical in
            let numbers = left_numbers_are own (elements e f r) two one oo lo whole in
            record {
              own = own;
              left = elements e f r;
              match = subst (IsMatch sig T p (apply f own) vs) is_us (record {
                begins = d.begins;
                size = d.size ∙ sym met;
                gives = sym (value_again sig ok f h (evaluated sig us p) canonical) ∙ rebuilt-several e f own several;
                fits = d.fits;
              });
              several = several;
              some = one;
              own_order = oo;
              left_order = lo;
              whole = whole;
              taken = ap (λ (x : Entry). x.0) (same_Some {A = Entry} x _ (sym o2 ∙ ap (entry_of us) numbers));
            }

        one : (x : Entry) (ws ys : Values) → IsMatch sig T (with_rest sig f p m) t vs ws → IsMatch sig T (with_rest sig f p m) t vs ys → found_left ws ≡ Some x → found_left ys ≡ Some x → ws ≡ ys
        one x ws ys mt nt o q =
            let (us, r, w, d) = rest_of sig ok single f h p named vs m met g numbered a t canonical_behind ws mt in
            let (zs, s, v, b) = rest_of sig ok single f h p named vs m met g numbered a t canonical_behind ys nt in
            let (ks, k, is_us) = entry_parts us (left_numbers c args i (elements e f r)) x (sym (found_push us r) ∙ ap found_left (sym w) ∙ o) in
            let (ls, l, is_zs) = entry_parts zs (left_numbers c args i (elements e f s)) x (sym (found_push zs s) ∙ ap found_left (sym v) ∙ q) in
            let same : zs ≡ us = is_zs ∙ sym is_us in
            let b2 : arranged c (join (elements e f (evaluated sig us p)) (elements e f s)) ≡ skip i args = subst (λ us. arranged c (join (elements e f (evaluated sig us p)) (elements e f s)) ≡ skip i args) same (rest_whole zs s b) in
            let el : elements e f r ≡ elements e f s = same_left c (elements e f (evaluated sig us p)) (elements e f r) (elements e f s) (skip i args)
            (in_order sig ok f h (evaluated sig us p) (instance_canonical us r d)) (in_order sig ok f h r d.canonical) (in_order sig ok f h s b.canonical) (rest_whole us r d) b2 in
            let is_r : r ≡ s = sym (value_again sig ok f h r d.canonical) ∙ ap (rebuilt e f) el ∙ value_again sig ok f h s b.canonical in
            w ∙ ap (λ r. us ++ r ∷ []) is_r ∙ ap (λ us. us ++ s ∷ []) (sym same) ∙ sym v

        module _ (free : length single ≤ m) where
          back : (x : Entry) → IsLeft i x → (ws : Values) × IsMatch sig T (with_rest sig f p m) t vs ws × (found_left ws ≡ Some x)
          back x y =
              let us : Values = x.1 in
              let r : RawTerm = rebuilt e f y.left in
              let z = left_are sig ok f h (skip i args) y.own y.left behind y.left_order y.whole in
              let el : elements e f r ≡ y.left = elements_again sig ok f h y.left z.each_element (some_backed e y.left y.some) in
              let own : elements e f (evaluated sig us p) ≡ y.own = ap (elements e f) y.match.gives ∙ elements_several e f y.own y.several in
              let d : Rest us r = record {
                begins = y.match.begins;
                size = y.match.size ∙ met;
                fits = y.match.fits;
                canonical = value_canonical sig ok f h y.left z;
                whole = ap (λ ts. arranged c (join ts (elements e f r))) own ∙ ap (λ ts. arranged c (join y.own ts)) el ∙ y.whole ∙ sym (elements_several e f (skip i args) several_behind);
              } in
              let numbers = left_numbers_are y.own y.left (several_number y.own y.several) y.some y.own_order y.left_order y.whole in (
                us ++ r ∷ [],
                of_rest sig ok single f h p named vs m met g numbered a t canonical_behind free us r d,
                found_push us r ∙ ap (λ ts. entry_of us (left_numbers c args i ts)) el ∙ ap (entry_of us) numbers ∙ ap {B = Option Entry} (λ o. Some (o, us)) (sym y.taken),
              )

          pub lefts_once : AllOnce (IsLeft i) (left_entries sig single p m vs f args i)
          lefts_once =
              once_same (λ x. (ws : Values) × IsMatch sig T (with_rest sig f p m) t vs ws × (found_left ws ≡ Some x)) (IsLeft i) (left_entries sig single p m vs f args i)
              (λ x k. (let (ws, mt, o) = k in there x ws mt o)) back
              (once_flat_mapped (IsMatch sig T (with_rest sig f p m) t vs) (λ ws x. found_left ws ≡ Some x) (left_entry sig f args i) (found sig single (with_rest sig f p m) t vs)
              (rests_once sig ok single f h p named vs m met g numbered a t canonical_behind free) (λ ws mt. option_once (found_left ws)) (λ x ws ys mt nt o q. one x ws ys mt nt o q))
