-- What elements become, by the elements that are kept.
use Rattle.std.proofs.Common.{◌≡◌, ◌∙◌, ◌<◌, ◌≤◌, ◌+◌, ℕ, suc, List, [], ◌∷◌, ◌++◌, map, length, get_or, drop, Bool, true, false, cond, nat_eq, Some, None, arith, length-append, append-nil, refl, sym, ap, subst}
use Rattle.std.proofs.lemmas.List.{drop_all}
use Rattle.std.proofs.lemmas.Bool.{eqb-true}
use Rattle.mw_logic.specs.Term.{RawTerm, numeral, quoted, variable, apply, RawTerms, nil, cons}
use Rattle.mw_logic.specs.Signature.{Signature, Operator, IsOperator, IsRawTerm, an_operator, AreRawTerms, next}
use Rattle.mw_logic.specs.Elements.{flat_arguments, all_flat_arguments}
use Rattle.mw_logic.proofs.Canonical.{same_operator}
use Rattle.mw_logic.specs.Accepted.{IsAccepted}
use Rattle.mw_term.specs.declared.raw.Raw.{Raw}
use Rattle.mw_term.specs.Raws.{raw_term}
use Rattle.mw_omod.specs.declared.classes.Classes.{Classes}
use Rattle.mw_omod.specs.declared.objects.Object.{Object}
use Rattle.mw_omod.specs.declared.objects.Element.{Element}
use Rattle.mw_omod.specs.Objects.{Written, IsOther, completed_object}
use Rattle.mw_omod.specs.Completion.{HasObject, AreOfOneName, AreCompleted, no_element, element, LeftBecomes, kept_object, removed_object, RightBecomes, changed_object, new_object}
use Rattle.mw_omod.specs.Seen.{seen_object, IsKeptObject, IsObjectOf, IsKept, terms_seen, AreOfSide, HasAt, OneHas, kept_attributes, changed_attributes}
use Rattle.mw_omod.specs.Workable.{AreClasses}
use Rattle.mw_omod.proofs.Moving.{moved, drop_at}
use Rattle.mw_omod.proofs.Listing.{holds, held, one_has, one_name, one_form}

module _ (sig : Signature) (ok : IsAccepted sig) (K : Classes) where
  pub other_is : (e : Element) → IsKept sig K e → e.object ≡ None → IsOther K (raw_term e.term.now)
  other_is e k h = subst (IsObjectOf sig K (raw_term e.term.now)) h k

  pub object_is : (e : Element) (o : Object) → IsKept sig K e → e.object ≡ Some o → IsKeptObject sig K (raw_term e.term.now) o
  object_is e o k h = subst (IsObjectOf sig K (raw_term e.term.now)) h k

  -- no object of the side has this one's name
  nowhere : (side : RawTerm) (es : List Element) → AreOfSide sig K side es → (t : RawTerm) (o : Object) → IsKeptObject sig K t o → (OneHas (λ w. w.form ≡ o.form) es → ⊥)
      → (i : ℕ) (w : Written) → HasObject K side i w → AreOfOneName sig K (seen_object o) w → ⊥
  nowhere side es of t o k none i w has same =
      let h = held sig ok K of i w has in
      none (one_has (λ w. w.form ≡ o.form) es h.index h.object h.at (sym (one_form sig ok K k h.kept (subst (AreOfOneName sig K (seen_object o)) (sym h.is) same))))

  pub kept_becomes : (right : RawTerm) (rights : List Element) → AreOfSide sig K right rights → (i : ℕ) (t u : RawTerm) (o p : Object) (j : ℕ) → IsKeptObject sig K t o → HasAt rights j p → p.form ≡ o.form
      → u ≡ completed_object K i (raw_term o.name.now) o.sort (kept_attributes i (seen_object o) (seen_object p)) → LeftBecomes sig K right i t u
  kept_becomes right rights of i t u o p j k at e is =
      let h = holds sig ok K of j p at in
      subst (LeftBecomes sig K right i t) (sym is) (kept_object t (seen_object o) (seen_object p) (suc j) k.written h.has (one_name sig ok K k h.kept (sym e)))

  pub removed_becomes : (right : RawTerm) (rights : List Element) → AreOfSide sig K right rights → (i : ℕ) (t u : RawTerm) (o : Object) → IsKeptObject sig K t o → (OneHas (λ w. w.form ≡ o.form) rights → ⊥)
      → u ≡ completed_object K i (raw_term o.name.now) o.sort (seen_object o).attributes → LeftBecomes sig K right i t u
  removed_becomes right rights of i t u o k none is = subst (LeftBecomes sig K right i t) (sym is) (removed_object t (seen_object o) k.written (nowhere right rights of t o k none))

  pub changed_becomes : (left : RawTerm) (lefts : List Element) → AreOfSide sig K left lefts → (t u : RawTerm) (o p : Object) (j : ℕ) → IsKeptObject sig K t o → HasAt lefts j p → p.form ≡ o.form
      → u ≡ completed_object K (j + 1) (raw_term o.name.now) p.sort (changed_attributes (seen_object o) (seen_object p)) → RightBecomes sig K left t u
  changed_becomes left lefts of t u o p j k at e is =
      let h = holds sig ok K of j p at in
      let n : suc j ≡ j + 1 = omega arith in
      subst (RightBecomes sig K left t) (sym is) (changed_object t (seen_object p) (seen_object o) (j + 1) k.written (subst (λ i. HasObject K left i (seen_object p)) n h.has) (one_name sig ok K h.kept k e))

  pub new_becomes : (left : RawTerm) (lefts : List Element) → AreOfSide sig K left lefts → (t : RawTerm) (o : Object) → IsKeptObject sig K t o → (OneHas (λ w. w.form ≡ o.form) lefts → ⊥) → RightBecomes sig K left t t
  new_becomes left lefts of t o k none = new_object t (seen_object o) k.written (λ i v has same.
      let h = held sig ok K of i v has in
      none (one_has (λ w. w.form ≡ o.form) lefts h.index h.object h.at (one_form sig ok K h.kept k (subst (λ x. AreOfOneName sig K x (seen_object o)) (sym h.is) same))))

module _ (B : ℕ → RawTerm → RawTerm → Type 0) (es : List Element) where
  -- what is done so far
  abbrev pub IsDone : ℕ → List Raw → Type 0
  IsDone i made = (us : List RawTerm) → AreCompleted B (suc (length made)) (terms_seen (drop i es)) us → AreCompleted B 1 (terms_seen es) (map raw_term made ++ us)

  pub one_more : (i : ℕ) (e : Element) (n : ℕ) (made made' : List Raw) (term : Raw) → i < length es → e ≡ get_or es i e → made' ≡ made ++ term ∷ [] → n ≡ suc (length made) → B n (raw_term e.term.now) (raw_term term)
      → IsDone i made → IsDone (i + 1) made'
  one_more i e n made made' term h is p m b done us rest =
      let long : length made' ≡ suc (length made) = ap length p ∙ length-append made (term ∷ []) ∙ omega arith in
      let first : AreCompleted B (suc (length made)) (terms_seen (drop i es)) (raw_term term ∷ us) =
      subst (λ zs. AreCompleted B (suc (length made)) (terms_seen zs) (raw_term term ∷ us)) (sym (drop_at es i e h is))
      (element (suc (length made)) (raw_term e.term.now) (raw_term term) (terms_seen (drop (i + 1) es)) us (subst (λ k. B k (raw_term e.term.now) (raw_term term)) m b)
      (subst (λ k. AreCompleted B (suc k) (terms_seen (drop (i + 1) es)) us) long rest)) in
      subst (AreCompleted B 1 (terms_seen es)) (sym (ap (λ xs. map raw_term xs ++ us) p ∙ moved raw_term made term (raw_term term) us (map raw_term made ++ raw_term term ∷ us) refl refl)) (done (raw_term term ∷ us) first)

  pub all_done : (i : ℕ) (made : List Raw) → length es ≤ i → IsDone i made → AreCompleted B 1 (terms_seen es) (map raw_term made)
  all_done i made h done =
      subst (AreCompleted B 1 (terms_seen es)) (append-nil (map raw_term made)) (done [] (subst (λ zs. AreCompleted B (suc (length made)) (terms_seen zs) []) (sym (drop_all i es h)) (no_element (suc (length made)))))

-- as many elements are completed
made_some : (B : ℕ → RawTerm → RawTerm → Type 0) {i : ℕ} {ts us : List RawTerm} → AreCompleted B i ts us → 0 < length ts → 0 < length us
made_some B (no_element i) l = l
made_some B (element i t u ts us b rest) l = omega arith

map_length : (us : List Raw) → length (map raw_term us) ≡ length us
map_length [] = refl
map_length (u ∷ us) = let h = map_length us in omega (arith, h)

pub completed_some : (B : ℕ → RawTerm → RawTerm → Type 0) (i : ℕ) (ts : List RawTerm) (us : List Raw) → AreCompleted B i ts (map raw_term us) → 0 < length ts → 0 < length us
completed_some B i ts us h l = let a = made_some B h l in let b = map_length us in omega (arith, a, b)

module _ (sig : Signature) (ok : IsAccepted sig) (K : Classes) (classes : AreClasses sig K) where
  -- a side has elements
  mutual
    pub elements_some : (t : RawTerm) → IsRawTerm sig t → 0 < length (flat_arguments K.union t)
    elements_some (numeral n) r = omega arith
    elements_some (quoted q) r = omega arith
    elements_some (variable x) r = omega arith
    elements_some (apply g ts) (an_operator o is args) = by_test (λ A Ks h. first_some ts A Ks h) (nat_eq K.union g) refl
      where
        by_test : ((A : ℕ) (Ks : List ℕ) → AreRawTerms sig ts (A ∷ Ks) → 0 < length (all_flat_arguments K.union ts)) → (b : Bool) → nat_eq K.union g ≡ b → 0 < length (cond b (all_flat_arguments K.union ts) (apply g ts ∷ []))
        by_test some false q = omega arith
        by_test some true q =
            let (A, B, e, first, second) = ok.assoc K.union classes.union.operator classes.union.is_there classes.union.assoc in
            let there : IsOperator sig K.union o = subst (λ f. IsOperator sig f o) (sym (eqb-true K.union g q)) is in
            some A (B ∷ []) (subst (AreRawTerms sig ts) (ap (λ (x : Operator). x.args) (same_operator sig K.union o classes.union.operator there classes.union.is_there) ∙ e) args)

    first_some : (ts : RawTerms) (A : ℕ) (Ks : List ℕ) → AreRawTerms sig ts (A ∷ Ks) → 0 < length (all_flat_arguments K.union ts)
    first_some nil A Ks h = elim h [ ]
    first_some (cons t ts) A Ks (next r h rest) =
        let a = elements_some t r in
        let b = length-append (flat_arguments K.union t) (all_flat_arguments K.union ts) in
        omega (arith, a, b)
