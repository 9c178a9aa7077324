-- Several arguments of a value under an associative operator are a value, and parts of its arguments have them for elements.
use Rattle.std.specs.Prelude.{◌≡◌, ◌≤◌, ℕ, suc, Bool, true, false, cond, Option, IsTrue, refl}
use Rattle.std.proofs.Common.{ap, sym, subst, ◌∙◌, arith}
use Rattle.std.proofs.lemmas.Bool.{both_ways, and_from, and_parts}
use Rattle.mw_logic.specs.Term.{RawTerm, apply, RawTerms, nil, cons, join, is_ground, are_ground}
use Rattle.mw_logic.specs.Terms.{front, skip}
use Rattle.mw_logic.specs.Signature.{Signature, Identity, IsRawTerm}
use Rattle.mw_logic.specs.Accepted.{IsAccepted}
use Rattle.mw_logic.specs.CanonicalPart.{AreSeveral, IsCut}
use Rattle.mw_logic.specs.Parts.{is_assoc, nest, nested, number_of_terms}
use Rattle.mw_logic.specs.TermOrder.{stands_after, insert_term, sorted_terms}
use Rattle.mw_logic.specs.NormalForm.{is_comm, identity_of, elements, flattened, rebuilt, arranged, height}
use Rattle.mw_logic.proofs.Canonical.{arranged-one, no_arguments, Each, IsElement, IsCanonical, is_identity-arguments, nat_eq-refl}
use Rattle.mw_logic.proofs.Holes.{several_place, Each-parts, Each-unarranged}
use Rattle.mw_logic.proofs.Inside.{associative, raw_inside}
use Rattle.mw_logic.proofs.RawKept.{raw_kept}
use Rattle.mw_logic.proofs.SortedLists.{climbs}
use Rattle.mw_logic.proofs.Soundness.{rebuilt-several}
use Rattle.mw_arguments.proofs.ListPieces.{skip_join, join_parts}
use Rattle.mw_matching.proofs.FoundShares.{AreElementsOf, elements_of, value_canonical, each_part}
use Rattle.mw_matching.proofs.Multisets.{left_joined}
use Rattle.mw_solving.specs.Values.{IsValue}
use Rattle.mw_solving.proofs.Grounds.{nested_ground}

-- two or more
pub several_from : (ts : RawTerms) → 2 ≤ number_of_terms ts → AreSeveral ts
several_from nil l = absurd (omega (arith, l))
several_from (cons t nil) l = absurd (omega (arith, l))
several_from (cons t (cons u us)) l = tt

pub several_number : (ts : RawTerms) → AreSeveral ts → 2 ≤ number_of_terms ts
several_number nil s = absurd s
several_number (cons t nil) s = absurd s
several_number (cons t (cons u us)) s = omega arith

-- in order they are as many
number_insert : (t : RawTerm) (us : RawTerms) → number_of_terms (insert_term t us) ≡ suc (number_of_terms us)
number_insert t nil = refl
number_insert t (cons u us) = by_test (stands_after t u) (number_insert t us)
  where
    by_test : (b : Bool) → number_of_terms (insert_term t us) ≡ suc (number_of_terms us) → number_of_terms (cond b (cons u (insert_term t us)) (cons t (cons u us))) ≡ suc (suc (number_of_terms us))
    by_test true r = ap suc r
    by_test false r = refl

number_sorted : (ts : RawTerms) → number_of_terms (sorted_terms ts) ≡ number_of_terms ts
number_sorted nil = refl
number_sorted (cons t ts) = number_insert t (sorted_terms ts) ∙ ap suc (number_sorted ts)

pub number_arranged : (c : Bool) (ts : RawTerms) → number_of_terms (arranged c ts) ≡ number_of_terms ts
number_arranged true ts = number_sorted ts
number_arranged false ts = refl

-- what is left of a list is known by what is taken
pub same_left : (c : Bool) (own a b zs : RawTerms) → arranged c own ≡ own → arranged c a ≡ a → arranged c b ≡ b → arranged c (join own a) ≡ zs → arranged c (join own b) ≡ zs → a ≡ b
same_left true own a b zs o p q w v = sym (left_joined own a zs (climbs own o) p w) ∙ left_joined own b zs (climbs own o) q v
same_left false own a b zs o p q w v = sym (skip_join own a) ∙ ap (skip (number_of_terms own)) (w ∙ sym v) ∙ skip_join own b

-- the elements of an operator on several arguments
pub elements_several : (e : Option Identity) (f : ℕ) (ts : RawTerms) → AreSeveral ts → elements e f (apply f ts) ≡ ts
elements_several e f nil s = absurd s
elements_several e f (cons t ts) s = rw (is_identity-arguments e f t ts, nat_eq-refl f) refl

ground_each : (ts : RawTerms) → are_ground ts ≡ true → Each (λ t. IsTrue (is_ground t)) ts
ground_each nil g = tt
ground_each (cons t ts) g = let (a, b) = and_parts _ _ g in (a, ground_each ts b)

each_ground : (ts : RawTerms) → Each (λ t. IsTrue (is_ground t)) ts → are_ground ts ≡ true
each_ground nil g = refl
each_ground (cons t ts) g = and_from _ _ g.0 (each_ground ts g.1)

module _ (sig : Signature) (ok : IsAccepted sig) (f : ℕ) (h : is_assoc sig f ≡ true) where
  abbrev e : Option Identity
  e = identity_of sig f

  abbrev c : Bool
  c = is_comm sig f

  pub arguments_are : (args : RawTerms) → AreSeveral args → IsCanonical sig (apply f args) → AreElementsOf sig ok f h args
  arguments_are args s k = subst (AreElementsOf sig ok f h) (elements_several e f args s) (elements_of sig ok f h (apply f args) k)

  -- those from a number on, all of them under a commutative operator
  pub behind_are : (i : ℕ) (args : RawTerms) → (c ≡ true → i ≡ 0) → AreElementsOf sig ok f h args → AreElementsOf sig ok f h (skip i args)
  behind_are i args first z = record {
    each_element = (Each-parts (IsElement e f) (front i args) (skip i args) (subst (Each (IsElement e f)) (sym (join_parts i args)) z.each_element)).1;
    each_canonical = (Each-parts (IsCanonical sig) (front i args) (skip i args) (subst (Each (IsCanonical sig)) (sym (join_parts i args)) z.each_canonical)).1;
    order = in_order c refl;
  }
    where
      in_order : (b : Bool) → c ≡ b → arranged b (skip i args) ≡ skip i args
      in_order true w =
          let o : arranged true args ≡ args = subst (λ b. arranged b args ≡ args) w z.order in
          subst (λ n. arranged true (skip n args) ≡ skip n args) (sym (first w)) o
      in_order false w = refl

  -- a part of such a list, and what is left
  pub own_are : (zs own left : RawTerms) → AreElementsOf sig ok f h zs → arranged c own ≡ own → arranged c (join own left) ≡ zs → AreElementsOf sig ok f h own
  own_are zs own left z o w = record {
    each_element = (each_part sig ok f h (IsElement e f) zs own left w z.each_element).0;
    each_canonical = (each_part sig ok f h (IsCanonical sig) zs own left w z.each_canonical).0;
    order = o;
  }

  pub left_are : (zs own left : RawTerms) → AreElementsOf sig ok f h zs → arranged c left ≡ left → arranged c (join own left) ≡ zs → AreElementsOf sig ok f h left
  left_are zs own left z o w = record {
    each_element = (each_part sig ok f h (IsElement e f) zs own left w z.each_element).1;
    each_canonical = (each_part sig ok f h (IsCanonical sig) zs own left w z.each_canonical).1;
    order = o;
  }

  pub several_canonical : (zs : RawTerms) → AreElementsOf sig ok f h zs → AreSeveral zs → IsCanonical sig (apply f zs)
  several_canonical zs z s = subst (IsCanonical sig) (rebuilt-several e f zs s) (value_canonical sig ok f h zs z)

  -- an associative operator stands on several arguments
  pub arguments_several : (args : RawTerms) → IsValue sig (apply f args) → AreSeveral args
  arguments_several nil v = absurd (both_ways _ (no_arguments sig ok f (subst (λ b. IsRawTerm sig (nest b f nil)) h v.raw)) h)
  arguments_several (cons t nil) v =
      let one : elements e f t ≡ cons t nil = (v.canonical.2 h).0 in
      let again : rebuilt e f (arranged c (flattened e f (cons t nil))) ≡ apply f (cons t nil) = rw h at v.canonical.1 in
      let is_t : t ≡ apply f (cons t nil) = sym (ap (rebuilt e f) (ap (λ ts. arranged c (join ts nil)) one ∙ arranged-one c t)) ∙ again in
      let high : height t ≡ height (apply f (cons t nil)) = ap height is_t in
      absurd (omega (arith, high))
  arguments_several (cons t (cons u us)) v = tt

  -- several arguments of a value
  pub part_value : (args own : RawTerms) → AreSeveral args → IsValue sig (apply f args) → AreSeveral own → IsCut c args own → IsValue sig (apply f own)
  part_value args own several v s cut =
      let z : AreElementsOf sig ok f h args = arguments_are args several v.canonical in
      let (C, clean, equal, rest, open_place) = several_place sig ok f args own (associative sig ok f h) v.canonical s cut in
      let ground : are_ground args ≡ true = sym (nested_ground sig (apply f args)) ∙ v.ground in
      let all = Each-parts (λ t. IsTrue (is_ground t)) cut.before (join own cut.after)
      (Each-unarranged (λ t. IsTrue (is_ground t)) c (join cut.before (join own cut.after)) (subst (Each (λ t. IsTrue (is_ground t))) (sym cut.whole) (ground_each args ground))) in
      let elems = Each-parts (IsElement e f) cut.before (join own cut.after) (Each-unarranged (IsElement e f) c (join cut.before (join own cut.after)) (subst (Each (IsElement e f)) (sym cut.whole) z.each_element)) in
      let canon = Each-parts (IsCanonical sig) cut.before (join own cut.after) (Each-unarranged (IsCanonical sig) c (join cut.before (join own cut.after)) (subst (Each (IsCanonical sig)) (sym cut.whole) z.each_canonical)) in
      record {
        canonical = several_canonical own (record {
          each_element = (Each-parts (IsElement e f) own cut.after elems.1).0;
          each_canonical = (Each-parts (IsCanonical sig) own cut.after canon.1).0;
          order = cut.in_order;
        }) s;
        raw = raw_inside sig ok C (nested sig (apply f own)) ((raw_kept sig ok equal).0 v.raw);
        ground = nested_ground sig (apply f own) ∙ each_ground own (Each-parts (λ t. IsTrue (is_ground t)) own cut.after all.1).0;
      }
