-- Completed sides are raw terms, of the kinds of the sides.
use Rattle.std.proofs.Common.{◌≡◌, ◌∙◌, ℕ, zero, suc, List, [], ◌∷◌, ◌++◌, Bool, true, false, cond, nat_eq, Some, None, slice_get, refl, sym, ap, subst}
use Rattle.std.specs.Prelude.{⊤}
use Rattle.std.proofs.lemmas.Bool.{eqb-true}
use Rattle.mw_logic.specs.Term.{RawTerm, numeral, quoted, variable, apply, RawTerms, nil, cons, binary, constant}
use Rattle.mw_logic.specs.Signature.{Signature, Operator, IsOperator, SameKind, same, HasKind, of_variable, of_operator, IsRawTerm, a_variable, an_operator, AreRawTerms, end, next}
use Rattle.mw_logic.specs.Accepted.{IsAccepted}
use Rattle.mw_logic.specs.Elements.{flat_arguments, all_flat_arguments}
use Rattle.mw_logic.proofs.Canonical.{same_operator}
use Rattle.mw_logic.proofs.KindLaws.{SameKind-trans, SameKind-sym}
use Rattle.mw_logic.proofs.RawKept.{raw_pair, pair_raw}
use Rattle.mw_logic.proofs.Soundness.{HasKind-same}
use Rattle.mw_omod.specs.declared.classes.Classes.{Classes}
use Rattle.mw_omod.specs.declared.classes.Role.TheVariants as role
use Rattle.mw_omod.specs.Objects.{Attribute, Written, attribute_term, value_variable, fresh, joined_before, role_of, IsSetOf, no_attribute, an_attribute, joined_attributes, object_of, IsWritten, rest_variable, set_with, completed_object}
use Rattle.mw_omod.specs.Completion.{has_attribute, lacking, AreCompleted, no_element, element, elements, HasObject, IsCompleted, LeftBecomes, other_left, kept_object, removed_object, RightBecomes, other_right, changed_object, new_object}
use Rattle.mw_omod.specs.Seen.{AreRaw}
use Rattle.mw_omod.specs.Workable.{AreClasses}
use Rattle.mw_omod.proofs.Listing.{elements_raw}

module _ (sig : Signature) (ok : IsAccepted sig) (K : Classes) (classes : AreClasses sig K) where
  -- Attributes with values of their operators' kinds: each is a raw term of the kind of sets, and has the sort that its class declares.
  abbrev pub AreAttributes : List Attribute → Type 0
  AreAttributes [] = ⊤
  AreAttributes (a ∷ xs) = IsRawTerm sig (attribute_term a) × (role_of K a.operator ≡ role.Attribute a.sort) × AreAttributes xs

  attributes_append : (xs ys : List Attribute) → AreAttributes xs → AreAttributes ys → AreAttributes (xs ++ ys)
  attributes_append [] ys h k = k
  attributes_append (a ∷ xs) ys (r, s, h) k = (r, s, attributes_append xs ys h k)

  attributes_lacking : (xs ys : List Attribute) → AreAttributes ys → AreAttributes (lacking xs ys)
  attributes_lacking xs [] h = tt
  attributes_lacking xs (y ∷ ys) (r, s, h) = by_test (has_attribute xs y.operator) (attributes_lacking xs ys h)
    where
      by_test : (b : Bool) → AreAttributes (lacking xs ys) → AreAttributes (cond b (lacking xs ys) (y ∷ lacking xs ys))
      by_test true k = k
      by_test false k = (r, s, k)

  attributes_fresh : (i : ℕ) (xs : List Attribute) → AreAttributes xs → AreAttributes (fresh i xs)
  attributes_fresh i [] h = tt
  attributes_fresh i (a ∷ xs) (r, s, h) =
      let (o, is, A, takes, kind, gives, there) = classes.values a.operator a.sort s in
      (an_operator o is (subst (AreRawTerms sig (cons (variable (value_variable i a)) nil)) (sym takes) (next a_variable (of_variable kind) end)), s, attributes_fresh i xs h)

  -- the kind of what joins attributes, and of its arguments
  abbrev Comma : Operator
  Comma = classes.comma.operator

  comma_pair : (s t : RawTerm) → IsRawTerm sig (binary K.comma s t) → IsRawTerm sig s × IsRawTerm sig t
  comma_pair s t r =
      let (A, B, e, first, second) = ok.assoc K.comma Comma classes.comma.is_there classes.comma.assoc in
      let (a, h, b, k) = raw_pair sig ok K.comma Comma A B s t classes.comma.is_there e r in
      (a, b)

  comma_raw : (s t : RawTerm) → IsRawTerm sig s → HasKind sig s K.set → IsRawTerm sig t → HasKind sig t K.set → IsRawTerm sig (binary K.comma s t) × HasKind sig (binary K.comma s t) K.set
  comma_raw s t r h q k =
      let (A, B, e, first, second) = ok.assoc K.comma Comma classes.comma.is_there classes.comma.assoc in
      let up : SameKind sig K.set Comma.result = SameKind-sym classes.comma_kind in (
        pair_raw sig ok K.comma Comma A B s t classes.comma.is_there e r (HasKind-same h (SameKind-trans up (SameKind-sym first))) q (HasKind-same k (SameKind-trans up (SameKind-sym second))),
        of_operator Comma classes.comma.is_there classes.comma_kind,
      )

  -- a set that is a raw term has such attributes
  set_attributes : {t : RawTerm} {xs : List Attribute} → IsSetOf K t xs → IsRawTerm sig t → AreAttributes xs
  set_attributes no_attribute r = tt
  set_attributes (an_attribute a s) r = (r, s, tt)
  set_attributes (joined_attributes s t xs ys h k) r = let (a, b) = comma_pair s t r in attributes_append xs ys (set_attributes h a) (set_attributes k b)

  set_raw : (xs : List Attribute) (rest : RawTerm) → AreAttributes xs → IsRawTerm sig rest → HasKind sig rest K.set → IsRawTerm sig (set_with K xs rest) × HasKind sig (set_with K xs rest) K.set
  set_raw [] rest h r k = (r, k)
  set_raw (a ∷ xs) rest (q, s, h) r k =
      let (o, is, A, takes, kind, gives, there) = classes.values a.operator a.sort s in
      let (b, l) = set_raw xs rest h r k in
      comma_raw (attribute_term a) (set_with K xs rest) q (of_operator o is gives) b l

  -- what is known of a written object that is a raw term
  pub record IsSound (w : Written) : Type 0 where
    pub name : IsRawTerm sig w.name
    pub name_kind : HasKind sig w.name classes.name
    pub class_kind : SameKind sig w.sort classes.class
    pub attributes : AreAttributes w.attributes

  three : (n c s : RawTerm) {A B C : ℕ} → AreRawTerms sig (cons n (cons c (cons s nil))) (A ∷ B ∷ C ∷ []) → IsRawTerm sig n × HasKind sig n A × IsRawTerm sig c × HasKind sig c B × IsRawTerm sig s × HasKind sig s C
  three n c s (next r h (next q k (next p l end))) = (r, h, q, k, p, l)

  object_args : (n c s : RawTerm) → IsRawTerm sig (object_of K n c s) → AreRawTerms sig (cons n (cons c (cons s nil))) (classes.name ∷ classes.class ∷ classes.attributes ∷ [])
  object_args n c s (an_operator o is args) =
      subst (AreRawTerms sig (cons n (cons c (cons s nil)))) (ap (λ (x : Operator). x.args) (same_operator sig K.object o classes.object is classes.object_is) ∙ classes.object_args) args

  constant_kind : (c S B : ℕ) → role_of K c ≡ role.Class S → HasKind sig (constant c) B → SameKind sig S B
  constant_kind c S B r (of_operator o is k) =
      let (p, there, kind, sort) = classes.constants c S r in
      SameKind-trans kind (subst (λ (x : Operator). SameKind sig x.result B) (same_operator sig c o p is there) k)

  pub sound : {t : RawTerm} {w : Written} → IsWritten K t w → IsRawTerm sig t → IsSound w
  sound {w = w} is r =
      let (n, h, c, k, s, l) = three w.name (constant w.class) is.set (object_args w.name (constant w.class) is.set (subst (IsRawTerm sig) is.is r)) in
      record { name = n; name_kind = h; class_kind = constant_kind w.class w.sort classes.class is.class k; attributes = set_attributes is.attributes s }

  -- a completed object is a raw term
  object_raw : (i : ℕ) (n : RawTerm) (S : ℕ) (xs : List Attribute) → IsRawTerm sig n → HasKind sig n classes.name → SameKind sig S classes.class → AreAttributes xs → IsRawTerm sig (completed_object K i n S xs)
  object_raw i n S xs r h k a =
      let (s, l) = set_raw xs (variable (rest_variable K i)) a a_variable (of_variable same) in
      an_operator classes.object classes.object_is (subst (AreRawTerms sig _) (sym classes.object_args) (next r h (next a_variable (of_variable k) (next s (HasKind-same l classes.attributes_kind) end))))

  -- what becomes of a raw term is a raw term, of the same kinds
  abbrev pub StaysRaw : RawTerm → RawTerm → Type 0
  StaysRaw t u = IsRawTerm sig u × ((B : ℕ) → HasKind sig t B → HasKind sig u B)

  top_kind : (f : ℕ) (ts us : RawTerms) (B : ℕ) → HasKind sig (apply f ts) B → HasKind sig (apply f us) B
  top_kind f ts us B (of_operator o is k) = of_operator o is k

  object_stays : {t : RawTerm} (w : Written) (i : ℕ) (n : RawTerm) (S : ℕ) (xs : List Attribute) → IsWritten K t w → IsRawTerm sig (completed_object K i n S xs) → StaysRaw t (completed_object K i n S xs)
  object_stays w i n S xs is r = (r, λ B h. top_kind K.object _ _ B (subst (λ u. HasKind sig u B) is.is h))

  raw_at : (ts : List RawTerm) (j : ℕ) (t : RawTerm) → AreRaw sig ts → slice_get ts j ≡ Some t → IsRawTerm sig t
  raw_at [] j t h e = let n : None ≡ Some t = e in cc
  raw_at (u ∷ ts) zero t h e = let one : u ≡ t = cc in subst (IsRawTerm sig) one h.0
  raw_at (u ∷ ts) (suc j) t h e = raw_at ts j t h.1 e

  sound_at : (t : RawTerm) (i : ℕ) (w : Written) → IsRawTerm sig t → HasObject K t i w → IsSound w
  sound_at t zero w r is = let n : None ≡ Some is.element = is.is_there in cc
  sound_at t (suc j) w r is = sound is.written (raw_at (elements K t) j is.element (elements_raw sig K.union t r) is.is_there)

  left_raw : (right : RawTerm) → IsRawTerm sig right → (i : ℕ) (t u : RawTerm) → LeftBecomes sig K right i t u → IsRawTerm sig t → StaysRaw t u
  left_raw right q i t u (other_left s other) r = (r, λ B h. h)
  left_raw right q i t u (kept_object s v w j is there alike) r =
      let a = sound is r in
      let b = sound_at right j w q there in
      object_stays v i v.name v.sort (v.attributes ++ fresh i (lacking v.attributes w.attributes)) is
      (object_raw i v.name v.sort (v.attributes ++ fresh i (lacking v.attributes w.attributes)) a.name a.name_kind a.class_kind
      (attributes_append v.attributes (fresh i (lacking v.attributes w.attributes)) a.attributes (attributes_fresh i (lacking v.attributes w.attributes) (attributes_lacking v.attributes w.attributes b.attributes))))
  left_raw right q i t u (removed_object s v is alone) r =
      let a = sound is r in object_stays v i v.name v.sort v.attributes is (object_raw i v.name v.sort v.attributes a.name a.name_kind a.class_kind a.attributes)

  right_raw : (left : RawTerm) → IsRawTerm sig left → (i : ℕ) (t u : RawTerm) → RightBecomes sig K left t u → IsRawTerm sig t → StaysRaw t u
  right_raw left q i t u (other_right s other) r = (r, λ B h. h)
  right_raw left q i t u (new_object s w is alone) r = (r, λ B h. h)
  right_raw left q i t u (changed_object s v w j is there alike) r =
      let a = sound is r in
      let b = sound_at left j v q there in
      object_stays w j w.name v.sort (w.attributes ++ lacking w.attributes v.attributes) is
      (object_raw j w.name v.sort (w.attributes ++ lacking w.attributes v.attributes) a.name a.name_kind b.class_kind
      (attributes_append w.attributes (lacking w.attributes v.attributes) a.attributes (attributes_lacking w.attributes v.attributes b.attributes)))

  -- raw terms of one kind
  abbrev pub AreRawOf : ℕ → List RawTerm → Type 0
  AreRawOf B [] = ⊤
  AreRawOf B (t ∷ ts) = IsRawTerm sig t × HasKind sig t B × AreRawOf B ts

  all_raw : (Becomes : ℕ → RawTerm → RawTerm → Type 0) → ((i : ℕ) (t u : RawTerm) → Becomes i t u → IsRawTerm sig t → StaysRaw t u) → (B : ℕ) {i : ℕ} {ts us : List RawTerm} → AreCompleted Becomes i ts us → AreRawOf B ts → AreRawOf B us
  all_raw Becomes stays B (no_element i) h = tt
  all_raw Becomes stays B (element i t u ts us b rest) (r, k, h) = let (q, kinds) = stays i t u b r in (q, kinds B k, all_raw Becomes stays B rest h)

  raw_append : (B : ℕ) (ts us : List RawTerm) → AreRawOf B ts → AreRawOf B us → AreRawOf B (ts ++ us)
  raw_append B [] us h k = k
  raw_append B (t ∷ ts) us (r, l, h) k = (r, l, raw_append B ts us h k)

  -- The elements of a raw term are of its kind; where it has several, they have the kind of what joins them.
  abbrev Union : Operator
  Union = classes.union.operator

  abbrev AreOfUnion : List ℕ → Type 0
  AreOfUnion [] = ⊤
  AreOfUnion (A ∷ Ks) = SameKind sig A Union.result × AreOfUnion Ks

  mutual
    elements_of_union : (t : RawTerm) → IsRawTerm sig t → HasKind sig t Union.result → AreRawOf Union.result (flat_arguments K.union t)
    elements_of_union (numeral n) r h = (r, h, tt)
    elements_of_union (quoted q) r h = (r, h, tt)
    elements_of_union (variable x) r h = (r, h, tt)
    elements_of_union (apply g ts) (an_operator o is args) h = by_test (λ Ks r s. all_elements_of_union ts Ks r s) (nat_eq K.union g) refl
      where
        by_test : ((Ks : List ℕ) → AreRawTerms sig ts Ks → AreOfUnion Ks → AreRawOf Union.result (all_flat_arguments K.union ts)) → (b : Bool) → nat_eq K.union g ≡ b
            → AreRawOf Union.result (cond b (all_flat_arguments K.union ts) (apply g ts ∷ []))
        by_test all false q = (an_operator o is args, h, tt)
        by_test all true q =
            let (A, B, e, first, second) = ok.assoc K.union Union classes.union.is_there classes.union.assoc in
            let there : IsOperator sig K.union o = subst (λ f. IsOperator sig f o) (sym (eqb-true K.union g q)) is in
            all (A ∷ B ∷ []) (subst (AreRawTerms sig ts) (ap (λ (x : Operator). x.args) (same_operator sig K.union o Union there classes.union.is_there) ∙ e) args) (first, (second, tt))

    all_elements_of_union : (ts : RawTerms) (Ks : List ℕ) → AreRawTerms sig ts Ks → AreOfUnion Ks → AreRawOf Union.result (all_flat_arguments K.union ts)
    all_elements_of_union nil [] end s = tt
    all_elements_of_union nil (A ∷ Ks) h s = elim h [ ]
    all_elements_of_union (cons t ts) [] h s = elim h [ ]
    all_elements_of_union (cons t ts) (A ∷ Ks) (next r h rest) (alike, more) =
        raw_append Union.result (flat_arguments K.union t) (all_flat_arguments K.union ts) (elements_of_union t r (HasKind-same h alike)) (all_elements_of_union ts Ks rest more)

  joined_raw : (before : List RawTerm) (last : RawTerm) → AreRawOf Union.result (before ++ last ∷ []) → IsRawTerm sig (joined_before K.union before last) × HasKind sig (joined_before K.union before last) Union.result
  joined_raw [] last (r, h, k) = (r, h)
  joined_raw (t ∷ ts) last (r, h, k) =
      let (q, l) = joined_raw ts last k in
      let (A, B, e, first, second) = ok.assoc K.union Union classes.union.is_there classes.union.assoc in (
        pair_raw sig ok K.union Union A B t (joined_before K.union ts last) classes.union.is_there e r (HasKind-same h (SameKind-sym first)) q (HasKind-same l (SameKind-sym second)),
        of_operator Union classes.union.is_there same,
      )

  -- one element alone
  one_completed : (Becomes : ℕ → RawTerm → RawTerm → Type 0) → ((i : ℕ) (t u : RawTerm) → Becomes i t u → IsRawTerm sig t → StaysRaw t u) → (t : RawTerm) (before : List RawTerm) (last : RawTerm) → AreCompleted Becomes 1 (t ∷ []) (before ++ last ∷ []) → IsRawTerm sig t
      → StaysRaw t (joined_before K.union before last)
  one_completed Becomes stays t [] last (element i x u xs us b rest) r = stays 1 t last b r
  one_completed Becomes stays t (v ∷ vs) last (element i x u xs us b rest) r = absurd (nothing vs rest)
    where
      nothing : (vs : List RawTerm) → AreCompleted Becomes 2 [] (vs ++ last ∷ []) → ⊥
      nothing [] h = elim h [ ]
      nothing (v ∷ vs) h = elim h [ ]

  pub side_stays : (Becomes : ℕ → RawTerm → RawTerm → Type 0) → ((i : ℕ) (t u : RawTerm) → Becomes i t u → IsRawTerm sig t → StaysRaw t u) → (t u : RawTerm) → IsCompleted K Becomes t u → IsRawTerm sig t → StaysRaw t u
  side_stays Becomes stays t u is r = subst (StaysRaw t) (sym is.is) (by_top t is.become r)
    where
      by_top : (t : RawTerm) → AreCompleted Becomes 1 (elements K t) (is.before ++ is.last ∷ []) → IsRawTerm sig t → StaysRaw t (joined_before K.union is.before is.last)
      by_top (numeral n) h r = one_completed Becomes stays (numeral n) is.before is.last h r
      by_top (quoted q) h r = one_completed Becomes stays (quoted q) is.before is.last h r
      by_top (variable x) h r = one_completed Becomes stays (variable x) is.before is.last h r
      by_top (apply g ts) h r = by_test (nat_eq K.union g) refl h
        where
          by_test : (b : Bool) → nat_eq K.union g ≡ b → AreCompleted Becomes 1 (cond b (all_flat_arguments K.union ts) (apply g ts ∷ [])) (is.before ++ is.last ∷ []) → StaysRaw (apply g ts) (joined_before K.union is.before is.last)
          by_test false q k = one_completed Becomes stays (apply g ts) is.before is.last k r
          by_test true q k =
              let own : (o : Operator) × IsOperator sig K.union o × AreRawTerms sig ts o.args = of_union r in
              let (A, B, e, first, second) = ok.assoc K.union Union classes.union.is_there classes.union.assoc in
              let raws = all_elements_of_union ts (A ∷ B ∷ []) (subst (AreRawTerms sig ts) (ap (λ (x : Operator). x.args) (same_operator sig K.union own.0 Union own.1 classes.union.is_there) ∙ e) own.2) (first, (second, tt)) in
              let (q', l) = joined_raw is.before is.last (all_raw Becomes stays Union.result k raws) in
              (q', λ C h. HasKind-same l (kind_of C h))
            where
              of_union : IsRawTerm sig (apply g ts) → (o : Operator) × IsOperator sig K.union o × AreRawTerms sig ts o.args
              of_union (an_operator o is' args) = (o, subst (λ f. IsOperator sig f o) (sym (eqb-true K.union g q)) is', args)

              kind_of : (C : ℕ) → HasKind sig (apply g ts) C → SameKind sig Union.result C
              kind_of C (of_operator o is' s) =
                  subst (λ (x : Operator). SameKind sig x.result C) (same_operator sig K.union o Union (subst (λ f. IsOperator sig f o) (sym (eqb-true K.union g q)) is') classes.union.is_there) s

  pub left_stays_raw : (left right left' : RawTerm) → IsCompleted K (LeftBecomes sig K right) left left' → IsRawTerm sig left → IsRawTerm sig right → StaysRaw left left'
  left_stays_raw left right left' is r q = side_stays (LeftBecomes sig K right) (left_raw right q) left left' is r

  pub right_stays_raw : (left right right' : RawTerm) → IsCompleted K (λ i. RightBecomes sig K left) right right' → IsRawTerm sig left → IsRawTerm sig right → StaysRaw right right'
  right_stays_raw left right right' is r q = side_stays (λ i. RightBecomes sig K left) (right_raw left r) right right' is q
