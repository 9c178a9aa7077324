-- Tests of three or more arguments, which stand for two terms that share these out.
use Rattle.std.specs.Prelude.{◌≡◌, ◌≤◌, ℕ, List, [], ◌∷◌, length, Bool, true, false, ◌&&◌, Option, IsTrue, refl, ⊤}
use Rattle.std.proofs.Common.{ap, sym, subst, ◌∙◌, inl, inr, arith}
use Rattle.std.proofs.lemmas.Bool.{and_parts, and_from}
use Rattle.mw_logic.specs.Term.{RawTerm, RawTerms, apply, nil, cons, join, binary, is_ground, are_ground}
use Rattle.mw_logic.specs.Terms.{terms_of}
use Rattle.mw_logic.specs.Signature.{Signature, Operator, SameKind, HasKind, of_operator, Identity, constant_of, numeral_of, identity_term, IsIdentity, IsRawTerm}
use Rattle.mw_logic.specs.Accepted.{IsAccepted, IsWellSorted, agree}
use Rattle.mw_logic.specs.Built.{HasBuiltIns}
use Rattle.mw_logic.specs.Axioms.{done}
use Rattle.mw_logic.specs.Parts.{is_assoc, nested, all_nested, chain, number_of_terms, Among, IsClean, IsCleanForm}
use Rattle.mw_logic.specs.NormalForm.{is_comm, identity_of, own_arguments, arranged, normal_form}
use Rattle.mw_logic.specs.CanonicalPart.{AreSeveral, IsCut}
use Rattle.mw_logic.specs.Module.{Module, IsTruth, IsPolymorphic, Row, MeetsRow, equal_terms, not_different, an_equality, an_inequality}
use Rattle.mw_logic.specs.Judgements.{IsNormal}
use Rattle.mw_logic.specs.Confluence.{IsReducible}
use Rattle.mw_logic.proofs.Canonical.{Each, IsElement, IsCanonical, canonical, each_canonical, nat_eq-refl, same_operator}
use Rattle.mw_logic.proofs.CanonicalTerms.{fixed, clean}
use Rattle.mw_logic.proofs.Inside.{associative}
use Rattle.mw_logic.proofs.Invariance.{normal_form-kept}
use Rattle.mw_logic.proofs.KindLaws.{SameKind-sym}
use Rattle.mw_logic.proofs.OrderLaws.{not_after_itself}
use Rattle.mw_logic.proofs.RawKept.{raw_pair, pair_raw}
use Rattle.mw_arguments.proofs.Arguments.{rebuilt_again, args_in_order}
use Rattle.mw_arguments.proofs.ListPieces.{number_join}
use Rattle.mw_canon.specs.Canonical.{IsAdmittedTerm}
use Rattle.mw_deduction.specs.Tops.{IsTop, whole}
use Rattle.mw_solving.specs.Values.{IsValue}
use Rattle.mw_solving.proofs.Admitted.{admitted_value}
use Rattle.mw_solving.proofs.Parts.{number_arranged, several_from, part_value}
use Rattle.mw_least.specs.Workable.{IsWorkable}
use Rattle.mw_builtin.specs.Steps.{IsGroundTerm, HasNoRow, IsGiven, IsStepOf, IsTooBigAt, IsSide}
use Rattle.mw_builtin.specs.declared.step.Met.{Met}
use Rattle.mw_builtin.specs.declared.step.Met.TheVariants as met
use Rattle.mw_builtin.specs.Schemata.{AreSchemataOf}
use Rattle.mw_builtin.specs.declared.table.Schemata.{Schemata}
use Rattle.mw_builtin.proofs.BuiltLaws.{IsTest, test_args}
use Rattle.mw_builtin.proofs.Forms.{plain_number, pair_in_order, nested_two}
use Rattle.mw_builtin.proofs.Giving.{kept_truth, ground_truth, nested_constant}
use Rattle.mw_verdict.specs.Checks.{IsFormOf}
use Rattle.mw_verdict.proofs.RowKinds.{Kind, test, test_name, Decides, Shape, of_numbers, of_test, of_choice, test_kind}
use Rattle.mw_verdict.proofs.OneRow.{elements_in, sides_raw, pair_normal, alone, same_operands}
use Rattle.mw_check.specs.Answers.{Gives, IsComputation}
use Rattle.mw_check.specs.RowSides.{IsTwice}
use Rattle.mw_check.specs.declared.rows.Computed.TheVariants as computed
use Rattle.mw_check.proofs.RowForms.{row_of_test, begins_with, canonical_term, ground_of, truth_admitted}
use Rattle.mw_check.proofs.RowNone.{taken_form, pair_no_test}
use Rattle.mw_check.proofs.RowPairs.{test_of}
use Rattle.mw_check.proofs.RowTwice.{twice_in_order}

pub spelled_test : {x : List ℕ} (e : Bool) → x ≡ test_name e → IsTest x
spelled_test true q = inl q
spelled_test false q = inr q

-- a test of equal terms gives the truth value that it is named for
equal_row : {sig : Signature} {N : RawTerm → Type 0} (e : Bool) {f : ℕ} {u r : RawTerm} → IsPolymorphic sig f (test_name e) → IsTruth sig e r → Row sig N (binary f u u) r
equal_row true p t = equal_terms p done t
equal_row false p t = not_different p done t

test_meets : {sig : Signature} (e : Bool) {f : ℕ} {u v : RawTerm} → IsPolymorphic sig f (test_name e) → MeetsRow sig (binary f u v)
test_meets true p = an_equality p
test_meets false p = an_inequality p

agrees : (e : Bool) → agree e true ≡ e
agrees true = refl
agrees false = refl

-- three or more arguments are nested as two
chained : (sig : Signature) (f : ℕ) (ts : RawTerms) → is_assoc sig f ≡ true → AreSeveral ts → (x : RawTerm) × (y : RawTerm) × (nested sig (apply f ts) ≡ binary f x y)
chained sig f nil h s = absurd s
chained sig f (cons t nil) h s = absurd s
chained sig f (cons t (cons u us)) h s = (nested sig t, chain f (nested sig u) (all_nested sig us), rw h refl)

-- which is no identity
no_identity : {sig : Signature} {f : ℕ} {x y e : RawTerm} → IsIdentity sig f e → binary f x y ≡ e → ⊥
no_identity {f = f} {x} {y} is q = by_identity is.identity (q ∙ is.is)
  where
    by_identity : (i : Identity) → binary f x y ≡ identity_term i → ⊥
    by_identity (constant_of c) q = cc
    by_identity (numeral_of n) q = cc

own_several : (f : ℕ) (zs : RawTerms) → AreSeveral zs → own_arguments f (apply f zs) ≡ zs
own_several f nil s = absurd s
own_several f (cons z zs) s = rw (nat_eq-refl f) refl

-- what a test gives of a term and the same term
abbrev pub IsEqualMet : Signature → Bool → Met → Type 0
IsEqualMet sig e met.Nothing = ⊥
IsEqualMet sig e (met.TooBig take) = ⊥
IsEqualMet sig e (met.Gives take to) = IsTruth sig e to

module _ (M : Module) (work : IsWorkable M) (f : ℕ) (e : Bool) (p : IsPolymorphic M.signature f (test_name e)) where
  abbrev sig : Signature
  sig = M.signature

  abbrev ok : IsAccepted sig
  ok = work.signature.accepted

  kinds : (K : ℕ) × (p.0.args ≡ K ∷ K ∷ [])
  kinds = test_args sig p.0 (work.built.shapes f p.0 p.1 p.3) (spelled_test e p.2)

  -- where a test of a term and the same term is asked for, it gives that truth value
  module _ (x : RawTerm) (g : IsGroundTerm sig (apply f (cons x (cons x nil)))) where
    abbrev pair : RawTerm
    pair = apply f (cons x (cons x nil))

    stands_pair : IsCanonical sig pair
    stands_pair = subst (IsCanonical sig) g.canonical (canonical sig ok (nested sig pair))

    pub never_nothing : HasNoRow sig pair → ⊥
    never_nothing n =
        n.no_row (nested sig pair) g.raw (clean sig ok pair stands_pair) (subst (IsTop sig pair) (sym g.canonical) whole)
        (subst (MeetsRow sig) (sym (nested_two sig f x x)) (test_meets e p))

    pub never_big : (take : Option (List ℕ)) → IsTooBigAt sig pair take → ⊥
    never_big take h = let (us, k) = taken_form take h.is_form in pair_no_test sig ok f us h.form h.too_big k (test_of sig f e p)

    pub gives_truth : (take : Option (List ℕ)) (to : RawTerm) → IsGiven sig (IsSide sig f (x ∷ x ∷ [])) pair take to → IsTruth sig e to
    gives_truth take to h =
        let (us, k) = taken_form take h.is_form in
        let S = begins_with sig ok f us k h.meets in
        by_nested (of_shape (test_kind e p S.shape) S.shape)
      where
        sides_same : {a b : RawTerm} {ys : List RawTerm} → x ∷ x ∷ [] ≡ a ∷ b ∷ ys → a ≡ b
        sides_same q = cc

        of_shape : {us : RawTerms} {k : Kind} {r : RawTerm} → k ≡ test e → Shape sig (IsSide sig f (x ∷ x ∷ [])) f us k r → IsTruth sig e r
        of_shape q (of_numbers b d) = cc
        of_shape q (of_choice l b d) = cc
        of_shape q (of_test {e = i} {r = r} true b d t) =
            let j : i ≡ e = cc in subst (λ c. IsTruth sig c r) (ap (λ i. agree i true) j ∙ agrees e) t
        of_shape q (of_test false b d t) = absurd (d.0.differ (sides_same d.0.there))

        by_nested : IsTruth sig e (nested sig to) → IsTruth sig e to
        by_nested (c, q, named) = (c, sym h.term.canonical ∙ ap (normal_form sig) q ∙ kept_truth sig ok e c named, named)

  pub equal_met : (x : RawTerm) → IsGroundTerm sig (apply f (terms_of (x ∷ x ∷ []))) → (xs : List RawTerm) → xs ≡ x ∷ x ∷ [] → (s : Schemata) → AreSchemataOf sig s → (facts : Signature) → facts ≡ sig → (m : Met)
      → ((sig : Signature) → AreSchemataOf sig s → facts ≡ sig → IsAccepted sig → IsWellSorted sig → HasBuiltIns sig → IsGroundTerm sig (apply f (terms_of xs)) → IsStepOf sig (IsSide sig f xs) (apply f (terms_of xs)) m) → IsEqualMet sig e m
  equal_met x g xs q s are facts is m step =
      by_met m
      (subst (λ ys. IsStepOf sig (IsSide sig f ys) (apply f (terms_of ys)) m) q
      (step sig are is ok work.signature.well_sorted work.built (subst (λ ys. IsGroundTerm sig (apply f (terms_of ys))) (sym q) g)))
    where
      by_met : (m : Met) → IsStepOf sig (IsSide sig f (x ∷ x ∷ [])) (apply f (terms_of (x ∷ x ∷ []))) m → IsEqualMet sig e m
      by_met met.Nothing h = never_nothing x g h
      by_met (met.TooBig take) h = never_big x g take h
      by_met (met.Gives take to) h = gives_truth x g take to h

  module _ (ts : RawTerms) (a : IsAdmittedTerm sig (apply f ts)) (many : 3 ≤ number_of_terms ts) where
    abbrev w : RawTerm
    w = apply f ts

    abbrev c : Bool
    c = is_comm sig f

    stands : IsCanonical sig w
    stands = canonical_term sig ok w a

    several : AreSeveral ts
    several = several_from ts (omega (arith, many))

    -- then it is associative
    pub associates : is_assoc sig f ≡ true
    associates = by_assoc (is_assoc sig f) refl
      where
        by_assoc : (b : Bool) → is_assoc sig f ≡ b → is_assoc sig f ≡ true
        by_assoc true h = h
        by_assoc false h =
            let l : number_of_terms ts ≡ 2 = plain_number sig ok f ts stands a.raw p.0 p.1 h ∙ ap length kinds.1 in
            absurd (omega (arith, l, many))

    pub in_order : arranged c ts ≡ ts
    in_order = args_in_order sig ok f associates ts stands

    elements : Each (IsElement (identity_of sig f) f) ts
    elements = stands.2 associates

    chain_is : (x : RawTerm) × (y : RawTerm) × (nested sig w ≡ binary f x y)
    chain_is = chained sig f ts associates several

    -- a row is met
    some_row : (form : RawTerm) × (result : RawTerm) × IsFormOf sig w form × Row sig (λ v. ⊤) form result
    some_row =
        let (x, y, q) = chain_is in
        let raw : IsRawTerm sig (binary f x y) = subst (IsRawTerm sig) q a.raw in
        let (rx, ry) = sides_raw sig ok raw in
        let (r, row) = row_of_test sig ok (work.built.truths f p.0 p.1 p.3) e f p x y rx ry in
        (binary f x y, r, record { raw = raw; clean = subst (IsClean sig) q (clean sig ok w stands); is = ap (normal_form sig) (sym q) ∙ a.canonical }, row)

    -- the two sides of a form share the arguments out
    shared : (u v : RawTerm) → IsFormOf sig w (binary f u v) → arranged c (join (elements_in (is_assoc sig f) f (normal_form sig u)) (elements_in (is_assoc sig f) f (normal_form sig v))) ≡ ts
    shared u v h = same_operands (sym (pair_normal sig ok f u v h.raw h.clean) ∙ h.is)

    -- Where they aren't some terms twice over, the sides differ in each form; and one of them is itself a test, and so reducible.
    module _ (n : ℕ) (once : IsTwice c ts → ⊥) where
      abbrev Firm : RawTerm → Type 0
      Firm v = ¬ IsReducible M n v

      no_row_of_firm : (u v : RawTerm) → Firm u → IsCleanForm sig u v → ¬ MeetsRow sig v
      no_row_of_firm u v h q m = h (IsReducible.by_row [] v q m)

      of_answer : (answer i : Bool) (u v : RawTerm) → IsPolymorphic sig f (test_name i) → IsFormOf sig w (binary f u v) → Decides sig Firm answer u v → ⊥
      of_answer true i u v q h d =
          let zs : RawTerms = elements_in (is_assoc sig f) f (normal_form sig u) in
          once (zs, ap (λ z. arranged c (join zs (elements_in (is_assoc sig f) f z))) (normal_form-kept sig ok d) ∙ shared u v h)
      of_answer false i u v q h d =
          let (ru, rv) = sides_raw sig ok h.raw in
          let k : elements_in (is_assoc sig f) f (normal_form sig u) ≡ cons (normal_form sig u) nil = alone sig ok Firm no_row_of_firm i f u q ru h.clean.0.0 d.0 in
          let l : elements_in (is_assoc sig f) f (normal_form sig v) ≡ cons (normal_form sig v) nil = alone sig ok Firm no_row_of_firm i f v q rv h.clean.0.1.0 d.1 in
          let two : ts ≡ arranged c (cons (normal_form sig u) (cons (normal_form sig v) nil)) =
          sym (shared u v h) ∙ ap (λ ys. arranged c (join ys (elements_in (is_assoc sig f) f (normal_form sig v)))) k ∙ ap (λ ys. arranged c (cons (normal_form sig u) ys)) l in
          let size : number_of_terms ts ≡ 2 = ap number_of_terms two ∙ number_arranged c (cons (normal_form sig u) (cons (normal_form sig v) nil)) in
          absurd (omega (arith, size, many))

      none_firm : (form result : RawTerm) → IsFormOf sig w form → ¬ Row sig Firm form result
      none_firm form result h row = let S = begins_with sig ok f ts h row in of_shape (test_kind e p S.shape) S.is_form S.shape
        where
          of_shape : {us : RawTerms} {k : Kind} {r : RawTerm} → k ≡ test e → IsFormOf sig w (apply f us) → Shape sig Firm f us k r → ⊥
          of_shape q g (of_numbers b d) = cc
          of_shape q g (of_choice l b d) = cc
          of_shape q g (of_test {e = i} {u = u} {v = v} answer b d t) = of_answer answer i u v b g d

      pub computed_once : (most : ℕ) → IsComputation M most n w computed.NotNormal
      computed_once most = (some_row, none_firm)

    -- Where they are, a test of equal terms is a form of them.
    module _ (zs : RawTerms) (ordered : arranged c zs ≡ zs) (twice : arranged c (join zs zs) ≡ ts) where
      size : number_of_terms ts ≡ number_of_terms (join zs zs)
      size = ap number_of_terms (sym twice) ∙ number_arranged c (join zs zs)

      several_half : AreSeveral zs
      several_half = several_from zs (let l = size in let m = number_join zs zs in omega (arith, l, m, many))

      cut : IsCut c ts zs
      cut = record { before = nil; after = zs; whole = twice; in_order = ordered }

      half : IsValue sig (apply f zs)
      half = part_value sig ok f associates ts zs several (admitted_value sig ok w a) several_half cut

      abbrev side : RawTerm
      side = nested sig (apply f zs)

      side_is : (x : RawTerm) × (y : RawTerm) × (side ≡ binary f x y)
      side_is = chained sig f zs associates several_half

      side_kind : HasKind sig side kinds.0
      side_kind =
          let (x, y, q) = side_is in
          let (K, L, two, k, l) = ok.assoc f p.0 p.1 (assoc_operator associates) in
          subst (λ t. HasKind sig t kinds.0) (sym q) (of_operator p.0 p.1 (subst (λ K. SameKind sig p.0.result K) (first_kind (sym two ∙ kinds.1)) (SameKind-sym k)))
        where
          first_kind : {A B C D : ℕ} → A ∷ B ∷ [] ≡ C ∷ D ∷ [] → A ≡ C
          first_kind q = cc

          assoc_operator : is_assoc sig f ≡ true → IsTrue p.0.assoc
          assoc_operator h = let o = associative sig ok f h in subst (λ (o : Operator). IsTrue o.assoc) (same_operator sig f o.operator p.0 o.is_there p.1) o.assoc

      twice_raw : IsRawTerm sig (binary f side side)
      twice_raw = pair_raw sig ok f p.0 kinds.0 kinds.0 side side p.1 kinds.1 half.raw side_kind half.raw side_kind

      twice_clean : IsClean sig (binary f side side)
      twice_clean = ((k, (k, tt)), none, λ n is q l. absurd (two_args q))
        where
          k : IsClean sig side
          k = clean sig ok (apply f zs) half.canonical

          two_args : {s t u : RawTerm} → cons s (cons t nil) ≡ cons u nil → ⊥
          two_args q = cc

          none : (i : RawTerm) → IsIdentity sig f i → Among (cons side (cons side nil)) i → ⊥
          none i is (inl q) = let (x, y, s) = side_is in no_identity is (sym s ∙ q)
          none i is (inr (inl q)) = let (x, y, s) = side_is in no_identity is (sym s ∙ q)
          none i is (inr (inr m)) = absurd m

      elements_of_side : elements_in (is_assoc sig f) f (normal_form sig side) ≡ zs
      elements_of_side = ap (λ m. elements_in m f (normal_form sig side)) associates ∙ ap (own_arguments f) (fixed sig ok (apply f zs) half.canonical) ∙ own_several f zs several_half

      twice_form : IsFormOf sig w (binary f side side)
      twice_form = record {
        raw = twice_raw;
        clean = twice_clean;
        is = pair_normal sig ok f side side twice_raw twice_clean ∙ ap (apply f) (ap (λ ys. arranged c (join ys ys)) elements_of_side ∙ twice);
      }

      gives_twice : (N : RawTerm → Type 0) (to : RawTerm) → IsTruth sig e to → Gives sig N w to
      gives_twice N to (k, q, named) = record {
        form = binary f side side;
        result = to;
        is_form = twice_form;
        row = equal_row e p (k, q, named);
        one = equal_row e p (k, q, named);
        is = ap (normal_form sig) q ∙ kept_truth sig ok e k named ∙ sym q;
        admitted = subst (IsAdmittedTerm sig) (sym q) (record { raw = (ground_truth sig ok e k named).raw; canonical = (ground_truth sig ok e k named).canonical; admitted = truth_admitted sig ok e (k, nested_constant sig k, named) (ground_truth sig ok e k named).raw });
      }

    pub computed_twice : IsTwice c ts → (most n : ℕ) (to : RawTerm) → IsTruth sig e to → IsComputation M most n w (computed.Gives to)
    computed_twice t most n to truth = let (zs, ordered, twice) = twice_in_order c ts t in gives_twice zs ordered twice (IsNormal M n) to truth

    -- a test of the first argument and the same may be asked for
    pub pair_ground : (x : RawTerm) (rest : RawTerms) → ts ≡ cons x rest → IsGroundTerm sig (apply f (cons x (cons x nil)))
    pair_ground x rest q =
        let k : IsCanonical sig x = (subst (Each (IsCanonical sig)) q (each_canonical sig ts stands.0)).0 in
        let i : IsElement (identity_of sig f) f x = (subst (Each (IsElement (identity_of sig f) f)) q elements).0 in
        let order : arranged c (cons x (cons x nil)) ≡ cons x (cons x nil) = pair_in_order c x x (λ h. not_after_itself x) in
        let g : IsTrue (are_ground (cons x rest)) = subst (λ us. IsTrue (are_ground us)) q (ground_of sig ok w a).ground in
        let gx : IsTrue (is_ground x) = (and_parts _ _ g).0 in
        let (rx, kx) = first_raw x rest q in
        record {
          raw = subst (IsRawTerm sig) (sym (nested_two sig f x x)) (pair_raw sig ok f p.0 kinds.0 kinds.0 (nested sig x) (nested sig x) p.1 kinds.1 rx kx rx kx);
          canonical = fixed sig ok (apply f (cons x (cons x nil))) (rebuilt_again sig ok f associates (cons x (cons x nil)) order (i, (i, tt)) (k, (k, tt)));
          ground = and_from (is_ground x) (is_ground x && true) gx (and_from (is_ground x) true gx refl);
        }
      where
        first_raw : (x : RawTerm) (rest : RawTerms) → ts ≡ cons x rest → IsRawTerm sig (nested sig x) × HasKind sig (nested sig x) kinds.0
        first_raw x nil q = let l = ap number_of_terms q in absurd (omega (arith, l, many))
        first_raw x (cons y rest) q =
            let e : nested sig w ≡ binary f (nested sig x) (chain f (nested sig y) (all_nested sig rest)) = ap (λ us. nested sig (apply f us)) q ∙ (rw associates refl) in
            let r = raw_pair sig ok f p.0 kinds.0 kinds.0 (nested sig x) (chain f (nested sig y) (all_nested sig rest)) p.1 kinds.1 (subst (IsRawTerm sig) e a.raw) in
            (r.0, r.1)
