-- A term is a set of attributes in one way, and an object in one way.
use Rattle.std.proofs.Common.{◌≡◌, ◌∙◌, ◌≤◌, ℕ, List, [], ◌∷◌, ◌++◌, cond, nat_eq, Option, Some, None, arith, eq-eqb, refl, sym, ap, subst}
use Rattle.mw_logic.specs.Term.{RawTerm, numeral, quoted, variable, apply, RawTerms, nil, cons, constant}
use Rattle.mw_logic.specs.Parts.{number_of_terms}
use Rattle.mw_omod.specs.declared.classes.Classes.{Classes}
use Rattle.mw_omod.specs.declared.classes.Role.{Role}
use Rattle.mw_omod.specs.declared.classes.Role.TheVariants as role
use Rattle.mw_omod.specs.Objects.{Attribute, Written, role_of, IsSetOf, no_attribute, an_attribute, joined_attributes, object_of, IsWritten}

abbrev by_role : Role → ℕ → RawTerm → Option (List Attribute)
by_role role.Other f t = None
by_role (role.Class S) f t = None
by_role (role.Attribute S) f t = Some (record { operator = f; sort = S; value = t } ∷ [])

abbrev both : Option (List Attribute) → Option (List Attribute) → Option (List Attribute)
both None b = None
both (Some xs) None = None
both (Some xs) (Some ys) = Some (xs ++ ys)

some_injective : {X : Type 0} {x y : X} → Some x ≡ Some y → x ≡ y
some_injective e = cc

module _ (K : Classes) where
  -- the attributes of a set
  abbrev pub told : RawTerm → Option (List Attribute)
  told (numeral n) = None
  told (quoted q) = None
  told (variable x) = None
  told (apply f nil) = cond (nat_eq f K.none) (Some []) None
  told (apply f (cons t nil)) = by_role (role_of K f) f t
  told (apply f (cons s (cons t nil))) = cond (nat_eq f K.comma) (both (told s) (told t)) None
  told (apply f (cons s (cons t (cons u ts)))) = None

  pub told_is : {t : RawTerm} {xs : List Attribute} → IsSetOf K t xs → told t ≡ Some xs
  told_is no_attribute = ap (λ b. cond b (Some []) None) (eq-eqb K.none K.none refl)
  told_is (an_attribute a r) = ap (λ o. by_role o a.operator a.value) r
  told_is (joined_attributes s t xs ys h k) = ap (λ b. cond b (both (told s) (told t)) None) (eq-eqb K.comma K.comma refl) ∙ ap (λ o. both o (told t)) (told_is h) ∙ ap (both (Some xs)) (told_is k)

  pub set_once : {t : RawTerm} {xs ys : List Attribute} → IsSetOf K t xs → IsSetOf K t ys → xs ≡ ys
  set_once h k = some_injective (sym (told_is h) ∙ told_is k)

  -- where nothing is told, there is no set
  pub no_set : (t : RawTerm) → told t ≡ None → (xs : List Attribute) → IsSetOf K t xs → ⊥
  no_set t e xs h = let k : None ≡ Some xs = sym e ∙ told_is h in cc

  class_injective : (S T : ℕ) → role.Class S ≡ role.Class T → S ≡ T
  class_injective S T e = cc

  attribute_injective : (S T : ℕ) → role.Attribute S ≡ role.Attribute T → S ≡ T
  attribute_injective S T e = cc

  pub written_once : {t : RawTerm} (v w : Written) → IsWritten K t v → IsWritten K t w → v ≡ w
  written_once v w h k =
      let e : object_of K v.name (constant v.class) h.set ≡ object_of K w.name (constant w.class) k.set = sym h.is ∙ k.is in
      let name : v.name ≡ w.name = cc in
      let class : v.class ≡ w.class = cc in
      let set : h.set ≡ k.set = cc in
      let sort : v.sort ≡ w.sort = class_injective v.sort w.sort (sym h.class ∙ ap (role_of K) class ∙ k.class) in
      let attributes : v.attributes ≡ w.attributes = set_once h.attributes (subst (λ s. IsSetOf K s w.attributes) (sym set) k.attributes) in
      ap (λ n. record { name = n; class = v.class; sort = v.sort; attributes = v.attributes }) name
      ∙ ap (λ c. record { name = w.name; class = c; sort = v.sort; attributes = v.attributes }) class
      ∙ ap (λ S. record { name = w.name; class = w.class; sort = S; attributes = v.attributes }) sort
      ∙ ap (λ xs. record { name = w.name; class = w.class; sort = w.sort; attributes = xs }) attributes

  -- what a set of two terms is of
  pub record IsJoinedOf (s t : RawTerm) : Type 0 where
    pub first : List Attribute
    pub second : List Attribute
    pub first_is : IsSetOf K s first
    pub second_is : IsSetOf K t second

  pub set_parts : {u : RawTerm} {xs : List Attribute} → IsSetOf K u xs → (f : ℕ) (s t : RawTerm) → u ≡ apply f (cons s (cons t nil)) → IsJoinedOf s t
  set_parts no_attribute f s t e = cc
  set_parts (an_attribute a r) f s t e = cc
  set_parts (joined_attributes x y xs ys h k) f s t e =
      let a : x ≡ s = cc in
      let b : y ≡ t = cc in
      record { first = xs; second = ys; first_is = subst (λ z. IsSetOf K z xs) a h; second_is = subst (λ z. IsSetOf K z ys) b k }

  -- a set has at most two arguments
  pub few_arguments : {u : RawTerm} {xs : List Attribute} → IsSetOf K u xs → (f : ℕ) (ts : RawTerms) → u ≡ apply f ts → number_of_terms ts ≤ 2
  few_arguments no_attribute f ts e = let a : nil ≡ ts = cc in subst (λ us. number_of_terms us ≤ 2) a (omega arith)
  few_arguments (an_attribute x r) f ts e = let a : cons x.value nil ≡ ts = cc in subst (λ us. number_of_terms us ≤ 2) a (omega arith)
  few_arguments (joined_attributes s t xs ys h k) f ts e = let a : cons s (cons t nil) ≡ ts = cc in subst (λ us. number_of_terms us ≤ 2) a (omega arith)

  -- sets of no term, of one and of two
  pub empty_set : (u : RawTerm) (f : ℕ) (ts : RawTerms) → u ≡ apply f ts → ts ≡ nil → f ≡ K.none → IsSetOf K u []
  empty_set u f ts e h k = subst (λ z. IsSetOf K z []) (ap constant (sym k) ∙ ap (apply f) (sym h) ∙ sym e) no_attribute

  pub one_set : (u : RawTerm) (f : ℕ) (ts : RawTerms) (a : Attribute) (v : RawTerm) → u ≡ apply f ts → ts ≡ cons v nil → a.operator ≡ f → a.value ≡ v → role_of K f ≡ role.Attribute a.sort → IsSetOf K u (a ∷ [])
  one_set u f ts a v e h o i r =
      subst (λ z. IsSetOf K z (a ∷ [])) (ap (λ n. apply n (cons a.value nil)) o ∙ ap (λ n. apply f (cons n nil)) i ∙ ap (apply f) (sym h) ∙ sym e) (an_attribute a (ap (role_of K) o ∙ r))

  pub two_set : (u : RawTerm) (f : ℕ) (ts : RawTerms) (s t : RawTerm) (xs ys : List Attribute) → u ≡ apply f ts → ts ≡ cons s (cons t nil) → f ≡ K.comma → IsSetOf K s xs → IsSetOf K t ys → IsSetOf K u (xs ++ ys)
  two_set u f ts s t xs ys e h k i j =
      subst (λ z. IsSetOf K z (xs ++ ys)) (ap (λ n. apply n (cons s (cons t nil))) (sym k) ∙ ap (apply f) (sym h) ∙ sym e) (joined_attributes s t xs ys i j)
