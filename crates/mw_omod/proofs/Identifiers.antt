-- The quoted identifiers of completed sides.
use Rattle.std.proofs.Common.{◌≡◌, ◌∙◌, ℕ, zero, suc, List, [], ◌∷◌, ◌++◌, Bool, true, false, cond, nat_eq, Option, Some, None, slice_get, refl, sym, ap, subst}
use Rattle.std.specs.Prelude.{⊤}
use Rattle.mw_logic.specs.Term.{RawTerm, numeral, quoted, variable, apply, RawTerms, nil, cons, constant}
use Rattle.mw_logic.specs.Signature.{Signature}
use Rattle.mw_logic.specs.Elements.{flat_arguments, all_flat_arguments}
use Rattle.mw_logic.specs.Module.{Statement}
use Rattle.mw_text.specs.Proper.{HasIdentifiers, HaveIdentifiers}
use Rattle.mw_omod.specs.declared.classes.Classes.{Classes}
use Rattle.mw_omod.specs.Objects.{Attribute, Written, fresh, joined_before, IsSetOf, no_attribute, an_attribute, joined_attributes, object_of, IsWritten, rest_variable, set_with, completed_object}
use Rattle.mw_omod.specs.Completion.{has_attribute, lacking, AreCompleted, no_element, element, elements, HasObject, IsCompleted, LeftBecomes, other_left, kept_object, removed_object, RightBecomes, other_right, changed_object, new_object}
use Rattle.mw_omod.specs.Laws.{IdentifiersStay}

abbrev Each : List RawTerm → Type 0
Each [] = ⊤
Each (t ∷ ts) = HasIdentifiers t × Each ts

abbrev Values : List Attribute → Type 0
Values [] = ⊤
Values (a ∷ xs) = HasIdentifiers a.value × Values xs

each_append : (ts us : List RawTerm) → Each ts → Each us → Each (ts ++ us)
each_append [] us h k = k
each_append (t ∷ ts) us (h, hs) k = (h, each_append ts us hs k)

values_append : (xs ys : List Attribute) → Values xs → Values ys → Values (xs ++ ys)
values_append [] ys h k = k
values_append (a ∷ xs) ys (h, hs) k = (h, values_append xs ys hs k)

values_lacking : (xs ys : List Attribute) → Values ys → Values (lacking xs ys)
values_lacking xs [] h = tt
values_lacking xs (y ∷ ys) (h, k) = by_test (has_attribute xs y.operator) (values_lacking xs ys k)
  where
    by_test : (b : Bool) → Values (lacking xs ys) → Values (cond b (lacking xs ys) (y ∷ lacking xs ys))
    by_test true l = l
    by_test false l = (h, l)

values_fresh : (i : ℕ) (xs : List Attribute) → Values (fresh i xs)
values_fresh i [] = tt
values_fresh i (a ∷ xs) = (tt, values_fresh i xs)

mutual
  elements_have : (f : ℕ) (t : RawTerm) → HasIdentifiers t → Each (flat_arguments f t)
  elements_have f (numeral n) h = (h, tt)
  elements_have f (quoted q) h = (h, tt)
  elements_have f (variable x) h = (h, tt)
  elements_have f (apply g ts) h = by_test (nat_eq f g) (all_elements_have f ts h)
    where
      by_test : (b : Bool) → Each (all_flat_arguments f ts) → Each (cond b (all_flat_arguments f ts) (apply g ts ∷ []))
      by_test true k = k
      by_test false k = (h, tt)

  all_elements_have : (f : ℕ) (ts : RawTerms) → HaveIdentifiers ts → Each (all_flat_arguments f ts)
  all_elements_have f nil h = tt
  all_elements_have f (cons t ts) (h, k) = each_append (flat_arguments f t) (all_flat_arguments f ts) (elements_have f t h) (all_elements_have f ts k)

joined_has : (f : ℕ) (before : List RawTerm) (last : RawTerm) → Each (before ++ last ∷ []) → HasIdentifiers (joined_before f before last)
joined_has f [] last (h, k) = h
joined_has f (t ∷ ts) last (h, k) = (h, (joined_has f ts last k, tt))

at_have : (ts : List RawTerm) (j : ℕ) (t : RawTerm) → Each ts → slice_get ts j ≡ Some t → HasIdentifiers t
at_have [] j t h e = let n : None ≡ Some t = e in cc
at_have (u ∷ ts) zero t h e = let one : u ≡ t = cc in subst HasIdentifiers one h.0
at_have (u ∷ ts) (suc j) t h e = at_have ts j t h.1 e

module _ (K : Classes) where
  values_of : {t : RawTerm} {xs : List Attribute} → IsSetOf K t xs → HasIdentifiers t → Values xs
  values_of no_attribute h = tt
  values_of (an_attribute a r) h = (h.0, tt)
  values_of (joined_attributes s t xs ys i j) h = values_append xs ys (values_of i h.0) (values_of j h.1.0)

  set_has : (xs : List Attribute) (rest : RawTerm) → Values xs → HasIdentifiers rest → HasIdentifiers (set_with K xs rest)
  set_has [] rest h k = k
  set_has (a ∷ xs) rest (h, hs) k = ((h, tt), (set_has xs rest hs k, tt))

  written_has : {t : RawTerm} {w : Written} → IsWritten K t w → HasIdentifiers t → HasIdentifiers w.name × Values w.attributes
  written_has {w = w} is h = let all : HasIdentifiers (object_of K w.name (constant w.class) is.set) = subst HasIdentifiers is.is h in (all.0, values_of is.attributes all.1.1.0)

  object_has : (i : ℕ) (n : RawTerm) (S : ℕ) (xs : List Attribute) → HasIdentifiers n → Values xs → HasIdentifiers (completed_object K i n S xs)
  object_has i n S xs h k = (h, (tt, (set_has xs (variable (rest_variable K i)) k tt, tt)))

  object_at : (t : RawTerm) (i : ℕ) (w : Written) → HasObject K t i w → HasIdentifiers t → Values w.attributes
  object_at t zero w is h = let n : None ≡ Some is.element = is.is_there in cc
  object_at t (suc j) w is h = (written_has is.written (at_have (elements K t) j is.element (elements_have K.union t h) is.is_there)).1

  side_has : (B : ℕ → RawTerm → RawTerm → Type 0) → ((i : ℕ) (t u : RawTerm) → B i t u → HasIdentifiers t → HasIdentifiers u) → (t u : RawTerm) → IsCompleted K B t u → HasIdentifiers t → HasIdentifiers u
  side_has B stays t u is h = subst HasIdentifiers (sym is.is) (joined_has K.union is.before is.last (all is.become (elements_have K.union t h)))
    where
      all : {i : ℕ} {ts us : List RawTerm} → AreCompleted B i ts us → Each ts → Each us
      all (no_element i) k = tt
      all (element i t u ts us b rest) (k, l) = (stays i t u b k, all rest l)

  module _ (sig : Signature) where
    left_has : (right : RawTerm) → (i : ℕ) (t u : RawTerm) → LeftBecomes sig K right i t u → HasIdentifiers t → HasIdentifiers u
    left_has right i t u (other_left s other) h = h
    left_has right i t u (kept_object s v w j is there alike) h =
        let (name, values) = written_has is h in
        object_has i v.name v.sort (v.attributes ++ fresh i (lacking v.attributes w.attributes)) name (values_append v.attributes (fresh i (lacking v.attributes w.attributes)) values (values_fresh i (lacking v.attributes w.attributes)))
    left_has right i t u (removed_object s v is alone) h = let (name, values) = written_has is h in object_has i v.name v.sort v.attributes name values

    right_has : (left : RawTerm) → HasIdentifiers left → (i : ℕ) (t u : RawTerm) → RightBecomes sig K left t u → HasIdentifiers t → HasIdentifiers u
    right_has left l i t u (other_right s other) h = h
    right_has left l i t u (new_object s w is alone) h = h
    right_has left l i t u (changed_object s v w j is there alike) h =
        let (name, values) = written_has is h in
        object_has j w.name v.sort (w.attributes ++ lacking w.attributes v.attributes) name (values_append w.attributes (lacking w.attributes v.attributes) values (values_lacking w.attributes v.attributes (object_at left j v there l)))

pub identifiers_stay : IdentifiersStay
identifiers_stay sig K e a is l r = (
  side_has K (LeftBecomes sig K e.right) (left_has K sig e.right) e.left a.left is.sides.left_is l,
  side_has K (λ i. RightBecomes sig K e.left) (right_has K sig e.left l) e.right a.right is.sides.right_is r,
)
