-- Rows at the clean forms of a term: which operator they begin with, and what they make.
use Rattle.std.specs.Prelude.{◌≡◌, ◌⊎◌, ℕ, List, [], ◌∷◌, Bool, true, false, ◌&&◌, ◌||◌, cond, ◌≤◌, Option, None, IsTrue, refl, ⊤}
use Rattle.std.proofs.Common.{ap, sym, subst, ◌∙◌, ⊎_elim, inl, inr, arith}
use Rattle.mw_logic.specs.Term.{RawTerm, RawTerms, numeral, apply, nil, cons, binary, constant, is_ground}
use Rattle.mw_logic.specs.Terms.{terms_of}
use Rattle.mw_logic.specs.Signature.{Signature, Identity, IsRawTerm, Member}
use Rattle.mw_logic.specs.Accepted.{IsAccepted}
use Rattle.mw_logic.specs.Built.{HasTruths}
use Rattle.mw_logic.specs.Axioms.{EqualModulo}
use Rattle.mw_logic.specs.Kinds.{is_successor}
use Rattle.mw_logic.specs.Parts.{is_assoc, nested, IsAdmitted}
use Rattle.mw_logic.specs.NormalForm.{normal_form, own_arguments, is_identity, identity_of, height, has_largest}
use Rattle.mw_logic.specs.Module.{Result, number, truth, nothing, too_big, result_of, Denotes, IsTruth, IsPolymorphic, Row, arithmetic, equal_terms, unequal_terms, not_different, different, if_true, if_false, MeetsRow, by_row, an_equality, an_inequality}
use Rattle.mw_logic.proofs.Admitted.{admitted-iff}
use Rattle.mw_logic.proofs.Canonical.{Each, IsCanonical, IsElement, each_canonical}
use Rattle.mw_logic.proofs.CanonicalTerms.{fixed, equal_or_not}
use Rattle.mw_logic.proofs.Holes.{frame}
use Rattle.mw_logic.proofs.Ranks.{row_within}
use Rattle.mw_canon.specs.Canonical.{IsAdmittedTerm}
use Rattle.mw_solving.proofs.Admitted.{admitted_value}
use Rattle.mw_prooftext.proofs.AdmittedValues.{ground_term}
use Rattle.mw_prooftext.proofs.Inside.{inside_admitted}
use Rattle.mw_builtin.specs.Steps as steps
use Rattle.mw_builtin.specs.Steps.{IsGroundTerm, IsGiven, IsSide}
use Rattle.mw_builtin.proofs.Giving.{kept_truth}
use Rattle.mw_verdict.specs.Checks.{IsFormOf}
use Rattle.mw_verdict.specs.Leads.{IsOneArgument}
use Rattle.mw_verdict.proofs.RowKinds.{Kind, test_name, Shape, shape_of}
use Rattle.mw_verdict.proofs.OneRow.{top_kept}
use Rattle.mw_check.specs.Answers.{Gives}
use Rattle.mw_check.proofs.PlacingParts.{form_admitted}

-- what a row leads from meets one
pub meets_row : {sig : Signature} {N : RawTerm → Type 0} {t r : RawTerm} → Row sig N t r → MeetsRow sig t
meets_row (arithmetic b p d) = by_row (arithmetic b p d)
meets_row (equal_terms p e d) = an_equality p
meets_row (unequal_terms p n m e d) = an_equality p
meets_row (not_different p e d) = an_inequality p
meets_row (different p n m e d) = an_inequality p
meets_row (if_true p d) = by_row (if_true p d)
meets_row (if_false p d) = by_row (if_false p d)

-- a test of any two terms meets one
pub row_of_test : (sig : Signature) → IsAccepted sig → HasTruths sig → (e : Bool) (f : ℕ) → IsPolymorphic sig f (test_name e) → (u v : RawTerm) → IsRawTerm sig u → IsRawTerm sig v
    → (r : RawTerm) × Row sig (λ x. ⊤) (binary f u v) r
row_of_test sig ok truths e f p u v ru rv = by_cases e p (equal_or_not sig ok ru rv)
  where
    by_cases : (e : Bool) → IsPolymorphic sig f (test_name e) → EqualModulo sig u v ⊎ ¬ EqualModulo sig u v → (r : RawTerm) × Row sig (λ x. ⊤) (binary f u v) r
    by_cases true p (inl q) = let (r, t) = truths true in (r, equal_terms p q t)
    by_cases true p (inr d) = let (r, t) = truths false in (r, unequal_terms p tt tt d t)
    by_cases false p (inl q) = let (r, t) = truths false in (r, not_different p q t)
    by_cases false p (inr d) = let (r, t) = truths true in (r, different p tt tt d t)

-- A row from a form of what f stands on top of begins with f.
pub record BeginsWith (sig : Signature) (N : RawTerm → Type 0) (w : RawTerm) (f : ℕ) (form result : RawTerm) : Type 0 where
  pub args : RawTerms
  pub kind : Kind
  pub is : form ≡ apply f args
  pub is_form : IsFormOf sig w (apply f args)
  pub shape : Shape sig N f args kind result

same_operator : {f g : ℕ} {ts us : RawTerms} → apply f ts ≡ apply g us → f ≡ g
same_operator e = cc

-- an element is its own argument
pub own_element : (e : Option Identity) (f : ℕ) (t : RawTerm) → IsElement e f t → own_arguments f t ≡ cons t nil
own_element e f t h = by_test (is_identity e t) h
  where
    by_test : (b : Bool) → cond b nil (own_arguments f t) ≡ cons t nil → own_arguments f t ≡ cons t nil
    by_test true h = cc
    by_test false h = h

-- a form of the whole
pub of_whole : {sig : Signature} {t form : RawTerm} → steps.IsFormOf sig None t form → IsFormOf sig t form
of_whole h = record { raw = h.raw; clean = h.clean; is = h.is ∙ h.taken }

module _ (sig : Signature) (ok : IsAccepted sig) where
  pub top_of : (f g : ℕ) (ts us : RawTerms) → IsFormOf sig (apply f ts) (apply g us) → g ≡ f
  top_of f g ts us h = let (vs, k) = top_kept sig ok g us h.raw h.clean in same_operator (sym k ∙ h.is)

  pub begins_with : {N : RawTerm → Type 0} (f : ℕ) (ts : RawTerms) {form result : RawTerm} → IsFormOf sig (apply f ts) form → Row sig N form result → BeginsWith sig N (apply f ts) f form result
  begins_with {N} f ts {form} {result} h row =
      let S = shape_of row in
      let e : IsFormOf sig (apply f ts) (apply S.operator S.args) = subst (IsFormOf sig (apply f ts)) S.is h in
      let j : S.operator ≡ f = top_of f S.operator ts S.args e in
      record {
        args = S.args;
        kind = S.kind;
        is = S.is ∙ ap (λ g. apply g S.args) j;
        is_form = subst (λ g. IsFormOf sig (apply f ts) (apply g S.args)) j e;
        shape = subst (λ g. Shape sig N g S.args S.kind result) j S.shape;
      }

  -- What a row makes of an admitted term is admitted: a number, a truth value, or a part.
  leaf_admitted : (t : RawTerm) → IsRawTerm sig t → IsTrue (is_ground t) → normal_form sig t ≡ t → height t ≤ 1000 → has_largest sig t ≡ false → IsAdmitted sig t
  leaf_admitted t r g n l s = (admitted-iff sig ok r).1 (g, subst (λ u. height u ≤ 1000) (sym n) l, ap (has_largest sig) n ∙ s)

  none_larger : (b : Bool) → ((b && false) || false) ≡ false
  none_larger true = refl
  none_larger false = refl

  pub truth_admitted : (b : Bool) {r : RawTerm} → IsTruth sig b r → IsRawTerm sig r → IsAdmitted sig r
  truth_admitted b (c, e, named) raw =
      subst (IsAdmitted sig) (sym e) (leaf_admitted (constant c) (subst (IsRawTerm sig) e raw) refl (kept_truth sig ok b c named) (omega arith) (none_larger (is_successor sig c)))

  denoted_admitted : (d : Result) {r : RawTerm} → Denotes sig d r → IsRawTerm sig r → IsAdmitted sig r
  denoted_admitted (number n) e raw = subst (IsAdmitted sig) (sym e) (leaf_admitted (numeral n) (subst (IsRawTerm sig) e raw) refl refl (omega arith) refl)
  denoted_admitted (truth b) h raw = truth_admitted b h raw
  denoted_admitted nothing h raw = absurd h
  denoted_admitted too_big h raw = absurd h

  result_admitted : {N : RawTerm → Type 0} {t r : RawTerm} → Row sig N t r → IsRawTerm sig t → IsAdmitted sig t → IsRawTerm sig r → IsAdmitted sig r
  result_admitted (arithmetic {m = m} {n = n} b p d) rt a rr = denoted_admitted (result_of b m n) d rr
  result_admitted (equal_terms p e d) rt a rr = truth_admitted true d rr
  result_admitted (unequal_terms p n m e d) rt a rr = truth_admitted false d rr
  result_admitted (not_different p e d) rt a rr = truth_admitted false d rr
  result_admitted (different p n m e d) rt a rr = truth_admitted true d rr
  result_admitted (if_true {f} {c} {u} {v} p d) rt a rr = inside_admitted sig ok (frame f (cons c nil) (cons v nil) ∷ []) u rt a
  result_admitted (if_false {f} {c} {u} {v} p d) rt a rr = inside_admitted sig ok (frame f (cons c (cons u nil)) nil ∷ []) v rt a

  pub canonical_term : (w : RawTerm) → IsAdmittedTerm sig w → IsCanonical sig w
  canonical_term w a = (admitted_value sig ok w a).canonical

  pub ground_of : (w : RawTerm) → IsAdmittedTerm sig w → IsGroundTerm sig w
  ground_of w a = record { raw = a.raw; canonical = a.canonical; ground = ground_term sig w a }

  -- What a row gives of the whole, where the sides that a test tells apart are as they must be.
  module _ (f : ℕ) (xs : List RawTerm) (a : IsAdmittedTerm sig (apply f (terms_of xs))) where
    abbrev w : RawTerm
    w = apply f (terms_of xs)

    stands : IsCanonical sig w
    stands = canonical_term w a

    one_side : (x : RawTerm) (ys : List RawTerm) → Each (IsCanonical sig) (terms_of ys) → (is_assoc sig f ≡ true → Each (IsElement (identity_of sig f) f) (terms_of ys)) → Member x ys
        → is_assoc sig f ≡ true → own_arguments f (normal_form sig (nested sig x)) ≡ cons (normal_form sig (nested sig x)) nil
    one_side x [] k e m assoc = absurd m
    one_side x (y ∷ ys) k e (inl q) assoc =
        let n : normal_form sig (nested sig x) ≡ x = subst (λ z. normal_form sig (nested sig z) ≡ z) q (fixed sig ok y k.0) in
        let o : own_arguments f x ≡ cons x nil = subst (λ z. own_arguments f z ≡ cons z nil) q (own_element (identity_of sig f) f y (e assoc).0) in
        subst (λ z. own_arguments f z ≡ cons z nil) (sym n) o
    one_side x (y ∷ ys) k e (inr m) assoc = one_side x ys k.1 (λ h. (e h).1) m assoc

    -- a side is one argument
    side_alone : (form v : RawTerm) → IsFormOf sig w form → IsSide sig f xs v → IsOneArgument sig form v
    side_alone form v h side g us is assoc =
        let j : g ≡ f = top_of f g (terms_of xs) us (subst (IsFormOf sig w) is h) in
        let q : is_assoc sig f ≡ true = subst (λ g. is_assoc sig g ≡ true) j assoc in
        let alone : (x : RawTerm) → Member x xs → own_arguments f (normal_form sig (nested sig x)) ≡ cons (normal_form sig (nested sig x)) nil = λ x m. one_side x xs (each_canonical sig (terms_of xs) stands.0) stands.2 m q in
        let first : Member side.first xs = subst (Member side.first) (sym side.there) (inl refl) in
        let second : Member side.second xs = subst (Member side.second) (sym side.there) (inr (inl refl)) in
        subst (λ g. own_arguments g (normal_form sig v) ≡ cons (normal_form sig v) nil) (sym j)
        (⊎_elim
        (λ e. subst (λ v. own_arguments f (normal_form sig v) ≡ cons (normal_form sig v) nil) (sym e) (alone side.first first))
        (λ e. subst (λ v. own_arguments f (normal_form sig v) ≡ cons (normal_form sig v) nil) (sym e) (alone side.second second))
        side.is)

    pub gives_by_sides : (N : RawTerm → Type 0) → ((v : RawTerm) → IsSide sig f xs v → N v) → (to : RawTerm) → IsGiven sig (IsSide sig f xs) w None to → Gives sig N w to
    gives_by_sides N of to g =
        let h : IsFormOf sig w g.form = of_whole g.is_form in
        record {
          form = g.form;
          result = nested sig to;
          is_form = h;
          row = row_within of g.meets;
          one = row_within (λ v side. side_alone g.form v h side) g.meets;
          is = g.term.canonical;
          admitted = record { raw = g.term.raw; canonical = g.term.canonical; admitted = result_admitted g.meets h.raw (form_admitted sig ok w g.form a h.raw h.is) g.term.raw };
        }
