-- Where rows make nothing of a part.
use Rattle.std.specs.Prelude.{◌≡◌, ◌≤◌, ◌<◌, ◌+◌, ℕ, zero, suc, List, [], ◌∷◌, length, Bool, true, false, cond, nat_eq, Option, Some, None, refl, ⊤}
use Rattle.std.proofs.Common.{ap, sym, subst, ◌∙◌, ⊎_elim, inl, inr, arith}
use Rattle.std.proofs.Math.Nat.{mul_comm}
use Rattle.mw_logic.specs.Term.{RawTerm, RawTerms, numeral, apply, nil, cons, binary}
use Rattle.mw_logic.specs.Signature.{Signature, IsAssociative}
use Rattle.mw_logic.specs.Accepted.{IsAccepted}
use Rattle.mw_logic.specs.Built.{HasBuiltIns}
use Rattle.mw_logic.specs.Parts.{number_of_terms}
use Rattle.mw_logic.specs.NormalForm.{is_comm, arranged}
use Rattle.mw_logic.specs.CanonicalPart.{AreSeveral}
use Rattle.mw_logic.specs.Module.{BuiltIn, bounded, number, truth, too_big, nothing, result_of, Denotes, IsBuiltIn, IsTooBigPair, Row}
use Rattle.mw_logic.proofs.Canonical.{same_operator}
use Rattle.mw_arguments.specs.Places.{chosen}
use Rattle.mw_deduction.specs.Tops.{IsTop, whole}
use Rattle.mw_deduction.proofs.Rows.{pair_form}
use Rattle.mw_solving.proofs.Parts.{number_arranged}
use Rattle.mw_builtin.specs.Steps as steps
use Rattle.mw_builtin.specs.Steps.{IsTaken, IsTestOf, HasNoRow, IsTooBigAt}
use Rattle.mw_builtin.proofs.BuiltLaws.{choice_args}
use Rattle.mw_verdict.specs.Checks.{IsFormOf}
use Rattle.mw_verdict.proofs.RowKinds.{Kind, numbers, test, Shape, of_numbers, of_test, of_choice, one_kind, test_kind}
use Rattle.mw_verdict.proofs.OneRow.{same_two, same_operands}
use Rattle.mw_check.proofs.RowForms.{meets_row, begins_with, top_of, of_whole}

abbrev pub HasNone : Signature → RawTerm → Type 0
HasNone sig w = (form result : RawTerm) → IsFormOf sig w form → ¬ Row sig (λ v. ⊤) form result

-- nothing at the top
pub none_at_top : (sig : Signature) (w : RawTerm) → HasNoRow sig w → HasNone sig w
none_at_top sig w n form result h row = n.no_row form h.raw h.clean (subst (IsTop sig w) (sym h.is) whole) (meets_row row)

-- results that aren't too big
number_apart : {A : Type 0} {n : ℕ} → number n ≡ too_big → A
number_apart e = cc

truth_apart : {A : Type 0} {b : Bool} → truth b ≡ too_big → A
truth_apart e = cc

nothing_apart : {A : Type 0} → nothing ≡ too_big → A
nothing_apart e = cc

-- Only sums and products are too big, and they are in either order; that of 0 and 0 is a number.
big_sum : (sig : Signature) (b : BuiltIn) (m n : ℕ) → result_of b m n ≡ too_big → Denotes sig (result_of b 0 0) (numeral 0) × (result_of b n m ≡ too_big)
big_sum sig BuiltIn.plus m n e = let z : m + n ≡ n + m = omega arith in (refl, subst (λ k. bounded k ≡ too_big) z e)
big_sum sig BuiltIn.times m n e = (refl, subst (λ k. bounded k ≡ too_big) (mul_comm m n) e)
big_sum sig BuiltIn.difference m n e = number_apart e
big_sum sig BuiltIn.quotient m zero e = nothing_apart e
big_sum sig BuiltIn.quotient m (suc n) e = number_apart e
big_sum sig BuiltIn.remainder m zero e = nothing_apart e
big_sum sig BuiltIn.remainder m (suc n) e = number_apart e
big_sum sig BuiltIn.least m n e = number_apart e
big_sum sig BuiltIn.greatest m n e = number_apart e
big_sum sig BuiltIn.less_than m n e = truth_apart e
big_sum sig BuiltIn.at_most m n e = truth_apart e
big_sum sig BuiltIn.more_than m n e = truth_apart e
big_sum sig BuiltIn.at_least m n e = truth_apart e

-- numbers that take several are two or more
two_taken : (ks : List ℕ) (i : ℕ) (ts : RawTerms) → AreSeveral (chosen i ks ts) → 2 ≤ length ks
two_taken [] i ts l = absurd l
two_taken (k ∷ m ∷ ks) i ts l = omega arith
two_taken (k ∷ []) i nil l = absurd l
two_taken (k ∷ []) i (cons t ts) l = by_test (nat_eq i k) (two_taken (k ∷ []) (suc i) ts) l
  where
    by_test : (b : Bool) → (AreSeveral (chosen (suc i) (k ∷ []) ts) → 2 ≤ length (k ∷ [])) → AreSeveral (cond b (cons t nil) (chosen (suc i) (k ∷ []) ts)) → 2 ≤ length (k ∷ [])
    by_test true r l = absurd l
    by_test false r l = r l

same_kind : {b c : BuiltIn} → numbers c ≡ numbers b → c ≡ b
same_kind e = cc

same_numbers : {m n : ℕ} → numeral m ≡ numeral n → m ≡ n
same_numbers e = cc

same_top : {f g : ℕ} {ts us : RawTerms} → apply f ts ≡ apply g us → f ≡ g
same_top e = cc

-- three or more arguments, if not all are taken
pub several_taken : (sig : Signature) (f : ℕ) (ts : RawTerms) (ks : List ℕ) (part : RawTerm) → IsTaken sig (Some ks) (apply f ts) part → IsAssociative sig f × (3 ≤ number_of_terms ts)
several_taken sig f ts ks part (takes, fewer) =
    let two : 2 ≤ length ks = two_taken ks 1 takes.args takes.several in
    let less : length ks < number_of_terms ts = fewer f ts refl in
    (subst (IsAssociative sig) (sym (same_top takes.term)) takes.assoc, omega (arith, two, less))

-- what is taken has the same operator on top
pub taken_operator : (sig : Signature) (f : ℕ) (ts : RawTerms) (take : Option (List ℕ)) (part : RawTerm) → IsTaken sig take (apply f ts) part → (us : RawTerms) × (part ≡ apply f us)
taken_operator sig f ts None part e = (ts, e)
taken_operator sig f ts (Some ks) part (takes, fewer) = (chosen 1 ks takes.args, takes.part ∙ ap (λ g. apply g (chosen 1 ks takes.args)) (sym (same_top takes.term)))

-- so it has on a form of what is taken
pub taken_form : {sig : Signature} {f : ℕ} {ts : RawTerms} (take : Option (List ℕ)) {form : RawTerm} → steps.IsFormOf sig take (apply f ts) form → (us : RawTerms) × IsFormOf sig (apply f us) form
taken_form {sig} {f} {ts} take h = let (us, e) = taken_operator sig f ts take h.part h.taken in (us, record { raw = h.raw; clean = h.clean; is = h.is ∙ e })

module _ (sig : Signature) (ok : IsAccepted sig) (f : ℕ) where
  -- the other forms of a sum or product that is too big are that too
  module _ (ts : RawTerms) (m n : ℕ) (b : BuiltIn) (p : IsBuiltIn sig f b) (big : result_of b m n ≡ too_big) (h : IsFormOf sig (apply f ts) (binary f (numeral m) (numeral n))) where
    zeros : Shape sig (λ v. ⊤) f (cons (numeral 0) (cons (numeral 0) nil)) (numbers b) (numeral 0)
    zeros = of_numbers p (big_sum sig b m n big).0

    kind_is : {N : RawTerm → Type 0} {us : RawTerms} {k : Kind} {x : RawTerm} → Shape sig N f us k x → k ≡ numbers b
    kind_is s = one_kind s zeros

    denoted_none : (i j : ℕ) (x : RawTerm) → result_of b i j ≡ too_big → Denotes sig (result_of b i j) x → ⊥
    denoted_none i j x e d = subst (λ r. Denotes sig r x) e d

    none_of_shape : {N : RawTerm → Type 0} {us : RawTerms} {k : Kind} {x : RawTerm} → k ≡ numbers b → IsFormOf sig (apply f ts) (apply f us) → Shape sig N f us k x → ⊥
    none_of_shape e g (of_test a q d t) = cc
    none_of_shape e g (of_choice l q t) = cc
    none_of_shape e g (of_numbers {b = c} {m = i} {n = j} {r = x} q d) =
        let same : c ≡ b = same_kind e in
        let d2 : Denotes sig (result_of b i j) x = subst (λ c. Denotes sig (result_of c i j) x) same d in
        let args : arranged (is_comm sig f) (cons (numeral i) (cons (numeral j) nil)) ≡ arranged (is_comm sig f) (cons (numeral m) (cons (numeral n) nil)) =
        same_operands (sym (pair_form sig ok f i j g.raw g.clean) ∙ g.is ∙ sym h.is ∙ pair_form sig ok f m n h.raw h.clean) in
        ⊎_elim
        (λ s. denoted_none i j x (ap (λ y. result_of b y j) (same_numbers s.0) ∙ ap (result_of b m) (same_numbers s.1) ∙ big) d2)
        (λ s. denoted_none i j x (ap (λ y. result_of b y j) (same_numbers s.1) ∙ ap (result_of b n) (same_numbers s.2) ∙ (big_sum sig b m n big).1) d2)
        (same_two (is_comm sig f) (numeral i) (numeral j) (numeral m) (numeral n) args)

    none_at_pair : HasNone sig (apply f ts)
    none_at_pair form result g row =
        let S = begins_with sig ok f ts g row in
        none_of_shape (kind_is S.shape) S.is_form S.shape

    no_test : ¬ IsTestOf sig f
    no_test t =
        ⊎_elim (λ q. apart true (test_kind true q zeros)) (λ q. apart false (test_kind false q zeros)) t
      where
        apart : (e : Bool) → numbers b ≡ test e → ⊥
        apart e q = cc

  -- Of several arguments, where the operator is no test, none is met: numbers are two, and a choice isn't associative.
  module _ (ts : RawTerms) (built : HasBuiltIns sig) (none : ¬ IsTestOf sig f) (assoc : IsAssociative sig f) (many : 3 ≤ number_of_terms ts) where
    no_shape : {N : RawTerm → Type 0} {us : RawTerms} {k : Kind} {x : RawTerm} → IsFormOf sig (apply f ts) (apply f us) → Shape sig N f us k x → ⊥
    no_shape g (of_test {e = true} a q d t) = none (inl q)
    no_shape g (of_test {e = false} a q d t) = none (inr q)
    no_shape g (of_choice l (o, is, spelled, b) t) =
        let (C, three) = choice_args sig o (built.shapes f o is b) spelled in
        let (K, L, two, p, q) = ok.assoc f assoc.operator assoc.is_there assoc.assoc in
        not_both (sym three ∙ ap (λ o. o.args) (same_operator sig f o assoc.operator is assoc.is_there) ∙ two)
      where
        not_both : {B K L J H : ℕ} → B ∷ K ∷ L ∷ [] ≡ J ∷ H ∷ [] → ⊥
        not_both e = cc
    no_shape g (of_numbers {m = i} {n = j} q d) =
        let e : ts ≡ arranged (is_comm sig f) (cons (numeral i) (cons (numeral j) nil)) = same_operands (sym g.is ∙ pair_form sig ok f i j g.raw g.clean) in
        let l : number_of_terms ts ≡ 2 = ap number_of_terms e ∙ number_arranged (is_comm sig f) (cons (numeral i) (cons (numeral j) nil)) in
        absurd (omega (arith, many, l))

    pub none_of_several : HasNone sig (apply f ts)
    none_of_several form result g row = let S = begins_with sig ok f ts g row in no_shape S.is_form S.shape

-- a form that is too big
module _ (sig : Signature) (ok : IsAccepted sig) (f : ℕ) (us : RawTerms) (form : RawTerm) (P : IsTooBigPair sig form) (g : IsFormOf sig (apply f us) form) where
  pair_form_is : IsFormOf sig (apply f us) (binary P.operator (numeral P.m) (numeral P.n))
  pair_form_is = subst (IsFormOf sig (apply f us)) P.is g

  pair_operator : P.operator ≡ f
  pair_operator = top_of sig ok f P.operator us (cons (numeral P.m) (cons (numeral P.n) nil)) pair_form_is

  pair_built : IsBuiltIn sig f P.schema
  pair_built = subst (λ k. IsBuiltIn sig k P.schema) pair_operator P.is_built_in

  pair_there : IsFormOf sig (apply f us) (binary f (numeral P.m) (numeral P.n))
  pair_there = subst (λ k. IsFormOf sig (apply f us) (binary k (numeral P.m) (numeral P.n))) pair_operator pair_form_is

  -- so f is no test
  pub pair_no_test : ¬ IsTestOf sig f
  pair_no_test = no_test sig ok f us P.m P.n P.schema pair_built P.too_big pair_there

  pub pair_none : HasNone sig (apply f us)
  pair_none = none_at_pair sig ok f us P.m P.n P.schema pair_built P.too_big pair_there

-- So none is met where the whole, or several of its arguments, are too big.
pub none_too_big : (sig : Signature) → IsAccepted sig → HasBuiltIns sig → (f : ℕ) (ts : RawTerms) (take : Option (List ℕ)) → IsTooBigAt sig (apply f ts) take → HasNone sig (apply f ts)
none_too_big sig ok built f ts None h = pair_none sig ok f ts h.form h.too_big (of_whole h.is_form)
none_too_big sig ok built f ts (Some ks) h =
    let (us, g) = taken_form (Some ks) h.is_form in
    let (assoc, many) = several_taken sig f ts ks h.is_form.part h.is_form.taken in
    none_of_several sig ok f ts built (pair_no_test sig ok f us h.form h.too_big g) assoc many
