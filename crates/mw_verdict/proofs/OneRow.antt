-- Rows make one term of a part.
use Rattle.std.specs.Prelude.{◌≡◌, ◌⊎◌, ℕ, zero, suc, [], ◌∷◌, Bool, true, false, cond, codes, refl}
use Rattle.std.proofs.Common.{ap, sym, subst, ◌∙◌, inl, inr, ⊎_elim, arith}
use Rattle.mw_logic.specs.Term.{RawTerm, RawTerms, numeral, apply, nil, cons, join, binary, constant}
use Rattle.mw_logic.specs.Signature.{Signature, Operator, IsOperator, IsRawTerm, an_operator, AreRawTerms, next}
use Rattle.mw_logic.specs.Accepted.{IsAccepted, agree}
use Rattle.mw_logic.specs.Axioms.{EqualModulo}
use Rattle.mw_logic.specs.Parts.{is_assoc, nested, IsClean, IsCleanForm, number_of_terms}
use Rattle.mw_logic.specs.TermOrder.{stands_after, insert_term}
use Rattle.mw_logic.specs.NormalForm.{is_comm, own_arguments, arranged, normal_form, normal_forms}
use Rattle.mw_logic.specs.CanonicalPart.{AreSeveral}
use Rattle.mw_logic.specs.Module.{Module, Result, number, truth, nothing, too_big, result_of, Denotes, IsTruth, IsPolymorphic, Row, MeetsRow, an_equality, an_inequality}
use Rattle.mw_logic.specs.Judgements.{IsNormal, judgements_with}
use Rattle.mw_logic.proofs.Canonical.{comm_operator, not_assoc, same_operator}
use Rattle.mw_logic.proofs.CanonicalTerms.{clean_form}
use Rattle.mw_logic.proofs.CleanForms.{keeps_top, assoc_form, plain_form}
use Rattle.mw_logic.proofs.EqualByNormalForm.{equal_by_normal_form}
use Rattle.mw_logic.proofs.Inside.{raw_arguments, tops, own_cases, first_raw, second_raw}
use Rattle.mw_logic.proofs.Invariance.{normal_form-kept}
use Rattle.mw_logic.proofs.Soundness.{IsLong, own_arguments-long}
use Rattle.mw_arguments.proofs.ListPieces.{number_join}
use Rattle.mw_solving.proofs.Parts.{number_arranged}
use Rattle.mw_deduction.proofs.Rows.{pair_form}
use Rattle.mw_verdict.specs.Checks.{IsFormOf}
use Rattle.mw_verdict.specs.Rows.{HasOneConstantEach, AreSymmetric, RowsAreOne}
use Rattle.mw_verdict.proofs.RowKinds.{Kind, test_name, Decides, Shape, of_numbers, of_test, of_choice, shape_of, one_kind}

-- two terms in order are the same two
pub same_two : (c : Bool) (a b x y : RawTerm) → arranged c (cons a (cons b nil)) ≡ arranged c (cons x (cons y nil)) → ((a ≡ x) × (b ≡ y)) ⊎ ((c ≡ true) × (a ≡ y) × (b ≡ x))
same_two false a b x y e = inl (cc, cc)
same_two true a b x y e = by_tests (stands_after a b) (stands_after x y) e
  where
    by_tests : (p q : Bool) → cond p (cons b (insert_term a nil)) (cons a (cons b nil)) ≡ cond q (cons y (insert_term x nil)) (cons x (cons y nil)) → ((a ≡ x) × (b ≡ y)) ⊎ ((true ≡ true) × (a ≡ y) × (b ≡ x))
    by_tests true true e = inl (cc, cc)
    by_tests true false e = inr (refl, cc, cc)
    by_tests false true e = inr (refl, cc, cc)
    by_tests false false e = inl (cc, cc)

-- a list twice over is no two terms but one that stands there twice
pub twice : (c : Bool) (zs : RawTerms) (x y : RawTerm) → IsLong zs → arranged c (join zs zs) ≡ arranged c (cons x (cons y nil)) → x ≡ y
twice c nil x y l e = absurd l
twice c (cons z nil) x y l e = ⊎_elim (λ p. sym p.0 ∙ p.1) (λ p. sym p.2 ∙ p.1) (same_two c z z x y e)
twice c (cons z (cons w zs)) x y l e =
    let us : RawTerms = cons z (cons w zs) in
    let a = number_arranged c (join us us) in
    let b = number_arranged c (cons x (cons y nil)) in
    let d = number_join us us in
    let f : number_of_terms (arranged c (join us us)) ≡ number_of_terms (arranged c (cons x (cons y nil))) = ap number_of_terms e in
    absurd (omega (arith, a, b, d, f))

pub same_operands : {f g : ℕ} {ts us : RawTerms} → apply f ts ≡ apply g us → ts ≡ us
same_operands e = cc

one_truth : {sig : Signature} (b d : Bool) {t u : RawTerm} → IsTruth sig b t → IsTruth sig d u → t ≡ u → b ≡ d
one_truth {sig} b d (c, e, n) (k, g, m) q =
    let h : constant c ≡ constant k = sym e ∙ q ∙ g in
    let i : c ≡ k = cc in
    by_names b d (sym n.spelled ∙ ap (λ (o : Operator). o.spelling) (same_operator sig k n.operator m.operator (subst (λ j. IsOperator sig j n.operator) i n.is_there) m.is_there) ∙ m.spelled)
  where
    by_names : (b d : Bool) → cond b (codes "true") (codes "false") ≡ cond d (codes "true") (codes "false") → b ≡ d
    by_names true true e = refl
    by_names true false e = cc
    by_names false true e = cc
    by_names false false e = refl

test_meets : {sig : Signature} (e : Bool) {f : ℕ} {a b : RawTerm} → IsPolymorphic sig f (test_name e) → MeetsRow sig (binary f a b)
test_meets true p = an_equality p
test_meets false p = an_inequality p

-- the elements of an argument, or the argument alone
abbrev pub elements_in : Bool → ℕ → RawTerm → RawTerms
elements_in true f t = own_arguments f t
elements_in false f t = cons t nil

pub elements_long : (m : Bool) (f : ℕ) (t : RawTerm) → IsLong (elements_in m f t)
elements_long true f t = own_arguments-long f t
elements_long false f t = tt

module _ (sig : Signature) (ok : IsAccepted sig) where
  pub sides_raw : {f : ℕ} {a b : RawTerm} → IsRawTerm sig (binary f a b) → IsRawTerm sig a × IsRawTerm sig b
  sides_raw r = let (Ks, args) = raw_arguments sig ok r in (first_raw sig args, second_raw sig args)

  pub pair_normal : (f : ℕ) (a b : RawTerm) → IsRawTerm sig (binary f a b) → IsClean sig (binary f a b)
      → normal_form sig (binary f a b) ≡ apply f (arranged (is_comm sig f) (join (elements_in (is_assoc sig f) f (normal_form sig a)) (elements_in (is_assoc sig f) f (normal_form sig b))))
  pair_normal f a b r c = by_assoc (is_assoc sig f) refl
    where
      by_assoc : (m : Bool) → is_assoc sig f ≡ m → normal_form sig (binary f a b) ≡ apply f (arranged (is_comm sig f) (join (elements_in m f (normal_form sig a)) (elements_in m f (normal_form sig b))))
      by_assoc true h = let k = tops sig ok f (cons a (cons b nil)) r c in assoc_form sig ok f h a b c k.0 k.1.0
      by_assoc false h = plain_form sig ok f h (cons a (cons b nil)) c (tops sig ok f (cons a (cons b nil)) r c)

  several_meets : (e : Bool) (f : ℕ) → IsPolymorphic sig f (test_name e) → is_assoc sig f ≡ true → (zs : RawTerms) → AreSeveral zs → MeetsRow sig (nested sig (apply f zs))
  several_meets e f p h nil s = absurd s
  several_meets e f p h (cons z nil) s = absurd s
  several_meets e f p h (cons z (cons w zs)) s = rw h (test_meets e p)

  -- u is one element under f
  abbrev pub IsAlone : ℕ → RawTerm → Type 0
  IsAlone f u = elements_in (is_assoc sig f) f (normal_form sig u) ≡ cons (normal_form sig u) nil

  -- where no row is met by a term of this sort, an element of a test is such a term
  module _ (N : RawTerm → Type 0) (none : (u w : RawTerm) → N u → IsCleanForm sig u w → ¬ MeetsRow sig w) where
    pub alone : (e : Bool) (f : ℕ) (u : RawTerm) → IsPolymorphic sig f (test_name e) → IsRawTerm sig u → IsClean sig u → N u → IsAlone f u
    alone e f u p r c h = by_assoc (is_assoc sig f) refl
      where
        by_assoc : (m : Bool) → is_assoc sig f ≡ m → elements_in m f (normal_form sig u) ≡ cons (normal_form sig u) nil
        by_assoc false q = refl
        by_assoc true q =
            ⊎_elim (λ o. o)
            (λ k. absurd (none u (nested sig (normal_form sig u)) h (clean_form sig ok r) (subst (λ t. MeetsRow sig (nested sig t)) (sym k.0) (several_meets e f p q (own_arguments f (normal_form sig u)) k.1))))
            (own_cases sig ok f q u r c)

  -- Of two forms of a test the one of equal terms and the other of single arguments are tests of equal terms both.
  pub both_equal : (f : ℕ) (u v a b w : RawTerm) → IsFormOf sig w (binary f u v) → IsFormOf sig w (binary f a b) → EqualModulo sig u v → IsAlone f a → IsAlone f b → EqualModulo sig a b
  both_equal f u v a b w x y q la lb =
      let m : Bool = is_assoc sig f in
      let c : Bool = is_comm sig f in
      let (ra, rb) = sides_raw y.raw in
      let zs : RawTerms = elements_in m f (normal_form sig u) in
      let i : apply f (arranged c (join zs (elements_in m f (normal_form sig v)))) ≡ apply f (arranged c (join (elements_in m f (normal_form sig a)) (elements_in m f (normal_form sig b)))) =
      sym (pair_normal f u v x.raw x.clean) ∙ x.is ∙ sym y.is ∙ pair_normal f a b y.raw y.clean in
      let j : arranged c (join zs zs) ≡ arranged c (cons (normal_form sig a) (cons (normal_form sig b) nil)) =
      ap (λ t. arranged c (join zs (elements_in m f t))) (normal_form-kept sig ok q) ∙ same_operands i ∙ ap (λ ys. arranged c (join ys (elements_in m f (normal_form sig b)))) la
      ∙ ap (λ ys. arranged c (cons (normal_form sig a) ys)) lb in
      (equal_by_normal_form sig ok ra rb).1 (twice c zs (normal_form sig a) (normal_form sig b) (elements_long m f (normal_form sig u)) j)

  -- an operator on three arguments has no axioms
  plain_three : (f : ℕ) (c u v : RawTerm) → IsRawTerm sig (apply f (cons c (cons u (cons v nil)))) → (is_assoc sig f ≡ false) × (is_comm sig f ≡ false)
  plain_three f c u v (an_operator o there args) = (not_assoc sig ok f o there (λ K L e. not_two (subst (AreRawTerms sig (cons c (cons u (cons v nil)))) e args)), by_comm (is_comm sig f) refl)
    where
      not_two : {K L : ℕ} → AreRawTerms sig (cons c (cons u (cons v nil))) (K ∷ L ∷ []) → ⊥
      not_two (next r k (next s l rest)) = elim rest [ ]

      by_comm : (m : Bool) → is_comm sig f ≡ m → m ≡ false
      by_comm false h = refl
      by_comm true h =
          let (p, is, b) = comm_operator sig f h in
          let (K, L, e, k) = ok.comm f p is b in
          absurd (not_two (subst (AreRawTerms sig (cons c (cons u (cons v nil)))) (ap (λ (q : Operator). q.args) (same_operator sig f o p there is) ∙ e) args))

  three_normal : (f : ℕ) (c u v : RawTerm) → IsRawTerm sig (apply f (cons c (cons u (cons v nil)))) → IsClean sig (apply f (cons c (cons u (cons v nil))))
      → normal_form sig (apply f (cons c (cons u (cons v nil)))) ≡ apply f (cons (normal_form sig c) (cons (normal_form sig u) (cons (normal_form sig v) nil)))
  three_normal f c u v r k =
      let (a, m) = plain_three f c u v r in
      plain_form sig ok f a (cons c (cons u (cons v nil))) k (tops sig ok f (cons c (cons u (cons v nil))) r k) ∙ ap (λ b. apply f (arranged b (normal_forms sig (cons c (cons u (cons v nil)))))) m

  -- a truth value is its own normal form
  truth_normal : (b : Bool) {t : RawTerm} → IsTruth sig b t → IsRawTerm sig t → IsClean sig t → normal_form sig t ≡ t
  truth_normal b (c, e, n) r k = subst (λ t. normal_form sig t ≡ t) (sym e) (keeps_top sig ok (subst (IsRawTerm sig) e r) (subst (IsClean sig) e k))

  -- the operator of a clean term stands on top of its normal form
  pub top_kept : (f : ℕ) (ts : RawTerms) → IsRawTerm sig (apply f ts) → IsClean sig (apply f ts) → (us : RawTerms) × (normal_form sig (apply f ts) ≡ apply f us)
  top_kept f nil r c = (nil, keeps_top sig ok r c)
  top_kept f (cons t ts) r c = let (us, l, e) = keeps_top sig ok r c in (us, e)

  pub same_top : {f g : ℕ} {ts us : RawTerms} {w : RawTerm} → IsFormOf sig w (apply f ts) → IsFormOf sig w (apply g us) → f ≡ g
  same_top {f} {g} {ts} {us} x y =
      let (cs, a) = top_kept f ts x.raw x.clean in
      let (bs, b) = top_kept g us y.raw y.clean in
      let e : apply f cs ≡ apply g bs = sym a ∙ x.is ∙ sym y.is ∙ b in cc

  module _ (constants : HasOneConstantEach sig) (symmetric : AreSymmetric sig) where
    one_denoted : (r : Result) {x y : RawTerm} → Denotes sig r x → Denotes sig r y → x ≡ y
    one_denoted (number n) d e = d ∙ sym e
    one_denoted (truth b) d e = constants b _ _ d e
    one_denoted nothing d e = absurd d
    one_denoted too_big d e = absurd d

    module _ (N : RawTerm → Type 0) (none : (u w : RawTerm) → N u → IsCleanForm sig u w → ¬ MeetsRow sig w) where
      one_result : {f : ℕ} {ts us : RawTerms} {k : Kind} {w x y : RawTerm} → IsFormOf sig w (apply f ts) → IsFormOf sig w (apply f us) → Shape sig N f ts k x → Shape sig N f us k y → normal_form sig x ≡ normal_form sig y
      one_result {f} h e (of_numbers {b = b} {m = m} {n = n} {r = x} p d) (of_numbers {m = i} {n = j} {r = y} q g) =
          let same : arranged (is_comm sig f) (cons (numeral m) (cons (numeral n) nil)) ≡ arranged (is_comm sig f) (cons (numeral i) (cons (numeral j) nil)) =
          same_operands (sym (pair_form sig ok f m n h.raw h.clean) ∙ h.is ∙ sym e.is ∙ pair_form sig ok f i j e.raw e.clean) in
          let r : result_of b i j ≡ result_of b m n = ⊎_elim straight turned (same_two (is_comm sig f) (numeral m) (numeral n) (numeral i) (numeral j) same) in
          ap (normal_form sig) (one_denoted (result_of b m n) d (subst (λ r. Denotes sig r y) r g))
        where
          straight : (numeral m ≡ numeral i) × (numeral n ≡ numeral j) → result_of b i j ≡ result_of b m n
          straight (a, c) = let u : i ≡ m = cc in let v : j ≡ n = cc in ap (λ z. result_of b z j) u ∙ ap (result_of b m) v

          turned : (is_comm sig f ≡ true) × (numeral m ≡ numeral j) × (numeral n ≡ numeral i) → result_of b i j ≡ result_of b m n
          turned (c, a, d) = let u : i ≡ n = cc in let v : j ≡ m = cc in symmetric f b p c i j ∙ ap (λ z. result_of b z i) v ∙ ap (result_of b m) u
      one_result {f} {w = w} h e (of_test {e = t} {u = u} {v = v} {r = x} a p d r) (of_test {u = i} {v = j} {r = y} b q g s) = by_answers a b d g r s
        where
          different : {u v a b : RawTerm} → IsFormOf sig w (binary f u v) → IsFormOf sig w (binary f a b) → IsPolymorphic sig f (test_name t) → EqualModulo sig u v → N a → N b → EqualModulo sig a b
          different {u} {v} {a} {b} x y p k l m =
              let (ra, rb) = sides_raw y.raw in
              both_equal f u v a b w x y k (alone N none t f a p ra y.clean.0.0 l) (alone N none t f b p rb y.clean.0.1.0 m)

          by_answers : (a b : Bool) → Decides sig N a u v → Decides sig N b i j → IsTruth sig (agree t a) x → IsTruth sig (agree t b) y → normal_form sig x ≡ normal_form sig y
          by_answers true true d g r s = ap (normal_form sig) (constants (agree t true) x y r s)
          by_answers false false d g r s = ap (normal_form sig) (constants (agree t false) x y r s)
          by_answers true false d g r s = absurd (g.2 (different h e q d g.0 g.1))
          by_answers false true d g r s = absurd (d.2 (different e h p g d.0 d.1))
      one_result {f} h e (of_choice {c = c} {u = u} {v = v} b p d) (of_choice {c = k} {u = i} {v = j} l q g) =
          let all : apply f (cons (normal_form sig c) (cons (normal_form sig u) (cons (normal_form sig v) nil))) ≡ apply f (cons (normal_form sig k) (cons (normal_form sig i) (cons (normal_form sig j) nil))) =
          sym (three_normal f c u v h.raw h.clean) ∙ h.is ∙ sym e.is ∙ three_normal f k i j e.raw e.clean in
          let first : normal_form sig c ≡ normal_form sig k = cc in
          let second : normal_form sig u ≡ normal_form sig i = cc in
          let third : normal_form sig v ≡ normal_form sig j = cc in
          let (Ks, args) = raw_arguments sig ok h.raw in
          let (Ls, brgs) = raw_arguments sig ok e.raw in
          by_truths b l second third (one_truth b l d g (sym (truth_normal b d (first_raw sig args) h.clean.0.0) ∙ first ∙ truth_normal l g (first_raw sig brgs) e.clean.0.0))
        where
          by_truths : (b l : Bool) → normal_form sig u ≡ normal_form sig i → normal_form sig v ≡ normal_form sig j → b ≡ l → normal_form sig (cond b u v) ≡ normal_form sig (cond l i j)
          by_truths true true m n e = m
          by_truths false false m n e = n
          by_truths true false m n e = cc
          by_truths false true m n e = cc

      one_made : (w v u x y : RawTerm) → IsFormOf sig w v → IsFormOf sig w u → Row sig N v x → Row sig N u y → normal_form sig x ≡ normal_form sig y
      one_made w v u x y h e r s =
          let S = shape_of r in
          let T = shape_of s in
          let a : IsFormOf sig w (apply S.operator S.args) = subst (IsFormOf sig w) S.is h in
          let b : IsFormOf sig w (apply T.operator T.args) = subst (IsFormOf sig w) T.is e in
          let f : T.operator ≡ S.operator = same_top b a in
          let c : IsFormOf sig w (apply S.operator T.args) = subst (λ g. IsFormOf sig w (apply g T.args)) f b in
          let t : Shape sig N S.operator T.args T.kind y = subst (λ g. Shape sig N g T.args T.kind y) f T.shape in
          one_result a c S.shape (subst (λ k. Shape sig N S.operator T.args k y) (one_kind t S.shape) t)

pub no_row : (M : Module) (n : ℕ) (u w : RawTerm) → IsNormal M n u → IsCleanForm M.signature u w → ¬ MeetsRow M.signature w
unfolding judgements_with
no_row M zero u w h p = h.no_row [] w p
no_row M (suc n) u w h p = h.no_row [] w p

pub rows_are_one : RowsAreOne
rows_are_one M ok constants symmetric n w v u x y h e r s = one_made M.signature ok constants symmetric (IsNormal M n) (no_row M n) w v u x y h e r s
