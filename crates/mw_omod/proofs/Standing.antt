-- The variables of completed sides.
use Rattle.std.proofs.Common.{◌≡◌, ◌+◌, ℕ, zero, suc, List, [], ◌∷◌, ◌++◌, Bool, true, false, ◌||◌, cond, nat_eq, Some, None, slice_get, arith, refl, sym, ap, subst}
use Rattle.std.specs.Prelude.{⊤, IsTrue}
use Rattle.mw_logic.specs.Term.{Variable, RawTerm, numeral, quoted, variable, apply, RawTerms, nil, cons, constant}
use Rattle.mw_logic.specs.Signature.{Signature}
use Rattle.mw_logic.specs.Elements.{flat_arguments, all_flat_arguments}
use Rattle.mw_logic.specs.Substitution.{occurs, occurs_in}
use Rattle.mw_logic.proofs.SameConditions.{same_variable-refl, same_variable-is}
use Rattle.mw_omod.specs.declared.classes.Classes.{Classes}
use Rattle.mw_omod.specs.declared.classes.Role.TheVariants as role
use Rattle.mw_omod.specs.Objects.{Attribute, Written, attribute_term, class_variable, value_variable, fresh_value, fresh, joined_before, role_of, IsSetOf, no_attribute, an_attribute, joined_attributes, object_of, IsWritten, rest_variable, set_with, completed_object}
use Rattle.mw_omod.specs.Completion.{has_attribute, lacking, AreCompleted, no_element, element, elements, HasObject, IsCompleted, LeftBecomes, other_left, kept_object, removed_object, RightBecomes, other_right, changed_object, new_object}
use Rattle.mw_omod.proofs.Sets.{written_once}

pub or_left : (a b : Bool) → IsTrue a → IsTrue (a || b)
or_left true b h = refl
or_left false b h = cc

pub or_right : (a b : Bool) → IsTrue b → IsTrue (a || b)
or_right true b h = refl
or_right false b h = h

pub or_elim : (a b : Bool) {P : Type 0} → (IsTrue a → P) → (IsTrue b → P) → IsTrue (a || b) → P
or_elim true b f g h = f refl
or_elim false b f g h = g h

never : IsTrue false → ⊥
never e = cc

module _ (P : Variable → Type 0) where
  abbrev pub Has : RawTerm → Type 0
  Has t = (x : Variable) → IsTrue (occurs x t) → P x

  abbrev pub HaveThem : RawTerms → Type 0
  HaveThem ts = (x : Variable) → IsTrue (occurs_in x ts) → P x

  abbrev pub HaveAll : List RawTerm → Type 0
  HaveAll [] = ⊤
  HaveAll (t ∷ ts) = Has t × HaveAll ts

  abbrev pub HaveValues : List Attribute → Type 0
  HaveValues [] = ⊤
  HaveValues (a ∷ xs) = Has a.value × HaveValues xs

  none_have : HaveThem nil
  none_have x o = absurd (never o)

  more_have : (t : RawTerm) (ts : RawTerms) → Has t → HaveThem ts → HaveThem (cons t ts)
  more_have t ts h k x o = or_elim (occurs x t) (occurs_in x ts) {P = P x} (h x) (k x) o

  first_has : (t : RawTerm) (ts : RawTerms) → HaveThem (cons t ts) → Has t
  first_has t ts h x o = h x (or_left (occurs x t) (occurs_in x ts) o)

  rest_have : (t : RawTerm) (ts : RawTerms) → HaveThem (cons t ts) → HaveThem ts
  rest_have t ts h x o = h x (or_right (occurs x t) (occurs_in x ts) o)

  variable_has : (y : Variable) → P y → Has (variable y)
  variable_has y p x o = subst P (same_variable-is y x o) p

  has_variable : (y : Variable) → Has (variable y) → P y
  has_variable y h = h y (same_variable-refl y)

  -- lists
  all_front : (ts us : List RawTerm) → HaveAll (ts ++ us) → HaveAll ts
  all_front [] us h = tt
  all_front (t ∷ ts) us (h, k) = (h, all_front ts us k)

  all_behind : (ts us : List RawTerm) → HaveAll (ts ++ us) → HaveAll us
  all_behind [] us h = h
  all_behind (t ∷ ts) us (h, k) = all_behind ts us k

  all_append : (ts us : List RawTerm) → HaveAll ts → HaveAll us → HaveAll (ts ++ us)
  all_append [] us h k = k
  all_append (t ∷ ts) us (h, hs) k = (h, all_append ts us hs k)

  values_append : (xs ys : List Attribute) → HaveValues xs → HaveValues ys → HaveValues (xs ++ ys)
  values_append [] ys h k = k
  values_append (a ∷ xs) ys (h, hs) k = (h, values_append xs ys hs k)

  values_front : (xs ys : List Attribute) → HaveValues (xs ++ ys) → HaveValues xs
  values_front [] ys h = tt
  values_front (a ∷ xs) ys (h, k) = (h, values_front xs ys k)

  values_behind : (xs ys : List Attribute) → HaveValues (xs ++ ys) → HaveValues ys
  values_behind [] ys h = h
  values_behind (a ∷ xs) ys (h, k) = values_behind xs ys k

  values_lacking : (xs ys : List Attribute) → HaveValues ys → HaveValues (lacking xs ys)
  values_lacking xs [] h = tt
  values_lacking xs (y ∷ ys) (h, k) = by_test (has_attribute xs y.operator) (values_lacking xs ys k)
    where
      by_test : (b : Bool) → HaveValues (lacking xs ys) → HaveValues (cond b (lacking xs ys) (y ∷ lacking xs ys))
      by_test true l = l
      by_test false l = (h, l)

  -- the elements of a term have its variables
  mutual
    pub elements_have : (f : ℕ) (t : RawTerm) → Has t → HaveAll (flat_arguments f t)
    elements_have f (numeral n) h = (h, tt)
    elements_have f (quoted q) h = (h, tt)
    elements_have f (variable x) h = (h, tt)
    elements_have f (apply g ts) h = by_test (nat_eq f g) (all_elements_have f ts h)
      where
        by_test : (b : Bool) → HaveAll (all_flat_arguments f ts) → HaveAll (cond b (all_flat_arguments f ts) (apply g ts ∷ []))
        by_test true k = k
        by_test false k = (h, tt)

    all_elements_have : (f : ℕ) (ts : RawTerms) → HaveThem ts → HaveAll (all_flat_arguments f ts)
    all_elements_have f nil h = tt
    all_elements_have f (cons t ts) h = all_append (flat_arguments f t) (all_flat_arguments f ts) (elements_have f t (first_has t ts h)) (all_elements_have f ts (rest_have t ts h))

  mutual
    pub have_elements : (f : ℕ) (t : RawTerm) → HaveAll (flat_arguments f t) → Has t
    have_elements f (numeral n) h = h.0
    have_elements f (quoted q) h = h.0
    have_elements f (variable x) h = h.0
    have_elements f (apply g ts) h = by_test (nat_eq f g) (have_all_elements f ts) h
      where
        by_test : (b : Bool) → (HaveAll (all_flat_arguments f ts) → HaveThem ts) → HaveAll (cond b (all_flat_arguments f ts) (apply g ts ∷ [])) → HaveThem ts
        by_test true k l = k l
        by_test false k l = l.0

    have_all_elements : (f : ℕ) (ts : RawTerms) → HaveAll (all_flat_arguments f ts) → HaveThem ts
    have_all_elements f nil h = none_have
    have_all_elements f (cons t ts) h =
        more_have t ts (have_elements f t (all_front (flat_arguments f t) (all_flat_arguments f ts) h)) (have_all_elements f ts (all_behind (flat_arguments f t) (all_flat_arguments f ts) h))

  -- and so have terms that are joined
  pub joined_has : (f : ℕ) (before : List RawTerm) (last : RawTerm) → HaveAll (before ++ last ∷ []) → Has (joined_before f before last)
  joined_has f [] last (h, k) = h
  joined_has f (t ∷ ts) last (h, k) = more_have t (cons (joined_before f ts last) nil) h (more_have (joined_before f ts last) nil (joined_has f ts last k) none_have)

  pub has_joined : (f : ℕ) (before : List RawTerm) (last : RawTerm) → Has (joined_before f before last) → HaveAll (before ++ last ∷ [])
  has_joined f [] last h = (h, tt)
  has_joined f (t ∷ ts) last h = (first_has t (cons (joined_before f ts last) nil) h, has_joined f ts last (first_has (joined_before f ts last) nil (rest_have t (cons (joined_before f ts last) nil) h)))

  module _ (K : Classes) where
    -- a set has the variables of its values
    values_of : {t : RawTerm} {xs : List Attribute} → IsSetOf K t xs → Has t → HaveValues xs
    values_of no_attribute h = tt
    values_of (an_attribute a r) h = (first_has a.value nil h, tt)
    values_of (joined_attributes s t xs ys i j) h = values_append xs ys (values_of i (first_has s (cons t nil) h)) (values_of j (first_has t nil (rest_have s (cons t nil) h)))

    of_values : {t : RawTerm} {xs : List Attribute} → IsSetOf K t xs → HaveValues xs → Has t
    of_values no_attribute h = none_have
    of_values (an_attribute a r) h = more_have a.value nil h.0 none_have
    of_values (joined_attributes s t xs ys i j) h = more_have s (cons t nil) (of_values i (values_front xs ys h)) (more_have t nil (of_values j (values_behind xs ys h)) none_have)

    set_has : (xs : List Attribute) (rest : RawTerm) → HaveValues xs → Has rest → Has (set_with K xs rest)
    set_has [] rest h k = k
    set_has (a ∷ xs) rest (h, hs) k = more_have (attribute_term a) (cons (set_with K xs rest) nil) (more_have a.value nil h none_have) (more_have (set_with K xs rest) nil (set_has xs rest hs k) none_have)

    has_set : (xs : List Attribute) (rest : RawTerm) → Has (set_with K xs rest) → HaveValues xs × Has rest
    has_set [] rest h = (tt, h)
    has_set (a ∷ xs) rest h =
        let (k, l) = has_set xs rest (first_has (set_with K xs rest) nil (rest_have (attribute_term a) (cons (set_with K xs rest) nil) h)) in
        ((first_has a.value nil (first_has (attribute_term a) (cons (set_with K xs rest) nil) h), k), l)

    three_have : (n c s : RawTerm) → Has n → Has c → Has s → Has (object_of K n c s)
    three_have n c s h k l = more_have n (cons c (cons s nil)) h (more_have c (cons s nil) k (more_have s nil l none_have))

    have_three : (n c s : RawTerm) → Has (object_of K n c s) → Has n × Has c × Has s
    have_three n c s h = (first_has n (cons c (cons s nil)) h, first_has c (cons s nil) (rest_have n (cons c (cons s nil)) h), first_has s nil (rest_have c (cons s nil) (rest_have n (cons c (cons s nil)) h)))

    pub written_has : {t : RawTerm} {w : Written} → IsWritten K t w → Has t → Has w.name × HaveValues w.attributes
    written_has {w = w} is h = let (n, c, s) = have_three w.name (constant w.class) is.set (subst Has is.is h) in (n, values_of is.attributes s)

    pub has_written : {t : RawTerm} {w : Written} → IsWritten K t w → Has w.name → HaveValues w.attributes → Has t
    has_written {w = w} is h k = subst Has (sym is.is) (three_have w.name (constant w.class) is.set h none_have (of_values is.attributes k))

    pub object_has : (i : ℕ) (n : RawTerm) (S : ℕ) (xs : List Attribute) → Has n → P (class_variable i S) → HaveValues xs → P (rest_variable K i) → Has (completed_object K i n S xs)
    object_has i n S xs h p k q =
        three_have n (variable (class_variable i S)) (set_with K xs (variable (rest_variable K i))) h (variable_has (class_variable i S) p)
        (set_has xs (variable (rest_variable K i)) k (variable_has (rest_variable K i) q))

    pub record HasObjectParts (i : ℕ) (n : RawTerm) (S : ℕ) (xs : List Attribute) : Type 0 where
      pub name : Has n
      pub class : P (class_variable i S)
      pub values : HaveValues xs
      pub rest : P (rest_variable K i)

    pub has_object : (i : ℕ) (n : RawTerm) (S : ℕ) (xs : List Attribute) → Has (completed_object K i n S xs) → HasObjectParts i n S xs
    has_object i n S xs h =
        let (a, b, c) = have_three n (variable (class_variable i S)) (set_with K xs (variable (rest_variable K i))) h in
        let (d, e) = has_set xs (variable (rest_variable K i)) c in
        record { name = a; class = has_variable (class_variable i S) b; values = d; rest = has_variable (rest_variable K i) e }

    -- an element with the element that it becomes
    pub record HasImage (Becomes : ℕ → RawTerm → RawTerm → Type 0) (k : ℕ) (t : RawTerm) : Type 0 where
      pub image : RawTerm
      pub becomes : Becomes k t image
      pub has : Has image

    pub image_at : (B : ℕ → RawTerm → RawTerm → Type 0) {i : ℕ} {ts us : List RawTerm} → AreCompleted B i ts us → HaveAll us → (j : ℕ) (t : RawTerm) → slice_get ts j ≡ Some t → (k : ℕ) × (k ≡ j + i) × HasImage B k t
    image_at B (no_element i) h j t e = let n : None ≡ Some t = e in cc
    image_at B (element i t u ts us b rest) h zero v e = let same : t ≡ v = cc in (i, omega arith, subst (HasImage B i) same (record { image = u; becomes = b; has = h.0 }))
    image_at B (element i t u ts us b rest) h (suc j) v e = let (k, n, is) = image_at B rest h.1 j v e in (k, omega (arith, n), is)

    pub at_have : (ts : List RawTerm) (j : ℕ) (t : RawTerm) → HaveAll ts → slice_get ts j ≡ Some t → Has t
    at_have [] j t h e = let n : None ≡ Some t = e in cc
    at_have (u ∷ ts) zero t h e = let same : u ≡ t = cc in subst Has same h.0
    at_have (u ∷ ts) (suc j) t h e = at_have ts j t h.1 e

    -- an object of a side whose variables have it
    pub object_at : (t : RawTerm) (i : ℕ) (w : Written) → HasObject K t i w → Has t → Has w.name × HaveValues w.attributes
    object_at t zero w is h = let n : None ≡ Some is.element = is.is_there in cc
    object_at t (suc j) w is h = written_has is.written (at_have (elements K t) j is.element (elements_have K.union t h) is.is_there)

    module _ (sig : Signature) where
      -- what stands in an element of the left side stands in what it becomes
      left_stays : (right : RawTerm) (i : ℕ) (t u : RawTerm) → LeftBecomes sig K right i t u → Has u → Has t
      left_stays right i t u (other_left s other) h = h
      left_stays right i t u (kept_object s v w j is there same) h =
          let p = has_object i v.name v.sort (v.attributes ++ fresh i (lacking v.attributes w.attributes)) h in
          has_written is p.name (values_front v.attributes (fresh i (lacking v.attributes w.attributes)) p.values)
      left_stays right i t u (removed_object s v is alone) h = let p = has_object i v.name v.sort v.attributes h in has_written is p.name p.values

      all_stay : (right : RawTerm) {i : ℕ} {ts us : List RawTerm} → AreCompleted (LeftBecomes sig K right) i ts us → HaveAll us → HaveAll ts
      all_stay right (no_element i) h = tt
      all_stay right (element i t u ts us b rest) h = (left_stays right i t u b h.0, all_stay right rest h.1)

      -- so the completed left side has the variables of the left side
      pub left_kept : (left right left' : RawTerm) → IsCompleted K (LeftBecomes sig K right) left left' → Has left' → Has left
      left_kept left right left' is h = have_elements K.union left (all_stay right is.become (has_joined K.union is.before is.last (subst Has is.is h)))

      -- and those for the class and the rest of each object
      pub object_variables : (left right left' : RawTerm) → IsCompleted K (LeftBecomes sig K right) left left' → Has left' → (i : ℕ) (v : Written) → HasObject K left i v → P (class_variable i v.sort) × P (rest_variable K i)
      object_variables left right left' is h zero v there = let n : None ≡ Some there.element = there.is_there in cc
      object_variables left right left' is h (suc j) v there =
          let (k, n, image) = image_at (LeftBecomes sig K right) is.become (has_joined K.union is.before is.last (subst Has is.is h)) j there.element there.is_there in
          let e : k ≡ suc j = omega (arith, n) in
          subst (λ i. P (class_variable i v.sort) × P (rest_variable K i)) e (of k there.element image.image image.becomes there.written image.has)
        where
          of : (i : ℕ) (t u : RawTerm) → LeftBecomes sig K right i t u → IsWritten K t v → Has u → P (class_variable i v.sort) × P (rest_variable K i)
          of i t u (other_left s other) w h = absurd (other v w)
          of i t u (kept_object s x y m is there same) w h =
              let p = has_object i x.name x.sort (x.attributes ++ fresh i (lacking x.attributes y.attributes)) h in
              (subst (λ (z : Written). P (class_variable i z.sort)) (written_once K x v is w) p.class, p.rest)
          of i t u (removed_object s x is alone) w h =
              let p = has_object i x.name x.sort x.attributes h in
              (subst (λ (z : Written). P (class_variable i z.sort)) (written_once K x v is w) p.class, p.rest)

      -- what an element of the right side becomes
      right_has : (left right left' : RawTerm) → IsCompleted K (LeftBecomes sig K right) left left' → Has left' → (t u : RawTerm) → RightBecomes sig K left t u → Has t → Has u
      right_has left right left' is h t u (other_right s other) k = k
      right_has left right left' is h t u (new_object s w written alone) k = k
      right_has left right left' is h t u (changed_object s v w i written there same) k =
          let (name, values) = written_has written k in
          let (own, others) = object_at left i v there (left_kept left right left' is h) in
          let (class, rest) = object_variables left right left' is h i v there in
          object_has i w.name v.sort (w.attributes ++ lacking w.attributes v.attributes) name class (values_append w.attributes (lacking w.attributes v.attributes) values (values_lacking w.attributes v.attributes others)) rest

      all_right : (left right left' : RawTerm) → IsCompleted K (LeftBecomes sig K right) left left' → Has left' → {i : ℕ} {ts us : List RawTerm} → AreCompleted (λ i. RightBecomes sig K left) i ts us → HaveAll ts → HaveAll us
      all_right left right left' is h (no_element i) k = tt
      all_right left right left' is h (element i t u ts us b rest) k = (right_has left right left' is h t u b k.0, all_right left right left' is h rest k.1)

      -- the completed right side has the variables of the right side and of the completed left side
      pub right_kept : (left right left' right' : RawTerm) → IsCompleted K (LeftBecomes sig K right) left left' → IsCompleted K (λ i. RightBecomes sig K left) right right' → Has left' → Has right → Has right'
      right_kept left right left' right' is also h k =
          subst Has (sym also.is) (joined_has K.union also.before also.last (all_right left right left' is h also.become (elements_have K.union right k)))

      module _ (class : (t : RawTerm) (v : Written) (i : ℕ) → IsWritten K t v → P (class_variable i v.sort)) (rest : (i : ℕ) → P (rest_variable K i))
          (value : (f S i : ℕ) → role_of K f ≡ role.Attribute S → P (value_variable i (record { operator = f; sort = S; value = numeral 0 }))) where
        -- fresh values of attributes
        fresh_have : (i : ℕ) {t : RawTerm} {xs : List Attribute} → IsSetOf K t xs → HaveValues (fresh i xs)
        fresh_have i no_attribute = tt
        fresh_have i (an_attribute a r) = (variable_has (value_variable i a) (value a.operator a.sort i r), tt)
        fresh_have i (joined_attributes s t xs ys h k) = subst HaveValues (sym (fresh_append xs ys)) (values_append (fresh i xs) (fresh i ys) (fresh_have i h) (fresh_have i k))
          where
            fresh_append : (xs ys : List Attribute) → fresh i (xs ++ ys) ≡ fresh i xs ++ fresh i ys
            fresh_append [] ys = refl
            fresh_append (x ∷ xs) ys = ap (λ zs. fresh_value i x ∷ zs) (fresh_append xs ys)

        fresh_lacking : (i : ℕ) (xs ys : List Attribute) → HaveValues (fresh i ys) → HaveValues (fresh i (lacking xs ys))
        fresh_lacking i xs [] h = tt
        fresh_lacking i xs (y ∷ ys) (h, k) = by_test (has_attribute xs y.operator) (fresh_lacking i xs ys k)
          where
            by_test : (b : Bool) → HaveValues (fresh i (lacking xs ys)) → HaveValues (fresh i (cond b (lacking xs ys) (y ∷ lacking xs ys)))
            by_test true l = l
            by_test false l = (h, l)

        left_has : (right : RawTerm) (i : ℕ) (t u : RawTerm) → LeftBecomes sig K right i t u → Has t → Has u
        left_has right i t u (other_left s other) h = h
        left_has right i t u (kept_object s v w j is there same) h =
            let (name, values) = written_has is h in
            object_has i v.name v.sort (v.attributes ++ fresh i (lacking v.attributes w.attributes)) name (class t v i is)
            (values_append v.attributes (fresh i (lacking v.attributes w.attributes)) values (fresh_lacking i v.attributes w.attributes (fresh_have i there.written.attributes))) (rest i)
        left_has right i t u (removed_object s v is alone) h =
            let (name, values) = written_has is h in object_has i v.name v.sort v.attributes name (class t v i is) values (rest i)

        all_left : (right : RawTerm) {i : ℕ} {ts us : List RawTerm} → AreCompleted (LeftBecomes sig K right) i ts us → HaveAll ts → HaveAll us
        all_left right (no_element i) h = tt
        all_left right (element i t u ts us b rest) h = (left_has right i t u b h.0, all_left right rest h.1)

        -- the completed left side has the variables of the left side, and fresh ones
        pub left_completed : (left right left' : RawTerm) → IsCompleted K (LeftBecomes sig K right) left left' → Has left → Has left'
        left_completed left right left' is h = subst Has (sym is.is) (joined_has K.union is.before is.last (all_left right is.become (elements_have K.union left h)))
