-- Lists with a head, the module HD: E below L, a, b and c of E, nil of L, an operator on L with assoc and id: nil, and head(Y) = X if X Z := Y, for X of E.
-- head is declared at kind level. So head(a b c) becomes a, and head(nil), which no X matches, stays.
use Rattle.std.specs.Prelude.{◌≡◌, ℕ, zero, suc, ◌≤◌, List, [], ◌∷◌, Bool, true, false, ◌||◌, is_some, cond, Option, Some, None, codes, refl, unwrap_or}
use Rattle.std.proofs.Common.{inl, inr, arith, ap, subst, sym, ◌∙◌}
use Rattle.std.proofs.lemmas.Bool.{both_ways, false≢true, or_left, or_right}
use Rattle.mw_logic.specs.Term.{Variable, RawTerm, numeral, quoted, variable, apply, RawTerms, nil, cons, join, constant, unary, binary, is_ground, Context}
use Rattle.mw_logic.specs.Signature.{Signature, Operator, at_number, IsOperator, Sorted, sort, kind, Member, SameKind, IsAssociative, HasKind, IsRawTerm, a_numeral, a_quoted, a_variable, an_operator, constant_of}
use Rattle.mw_logic.specs.Signature.{AreRawTerms as arguments}
use Rattle.mw_logic.specs.Axioms.{EqualModulo, done}
use Rattle.mw_logic.specs.Accepted.{IsAccepted}
use Rattle.mw_logic.specs.Sorts.{AtOrBelow, DeclaredSort, DeclaredSorts, IsBelow}
use Rattle.mw_logic.specs.Substitution.{Substitution, value, instance, IsSolution, is_bound, same_variable}
use Rattle.mw_logic.specs.Parts.{IsPart, ReplacesPart}
use Rattle.mw_logic.specs.Module.{Module, Statement, Fragment, matches, IsStatement}
use Rattle.mw_logic.specs.Proof.{Proof, equality, Proofs}
use Rattle.mw_logic.specs.Judgements.{Fails, IsNormal, IsNormalBy, Proves, Leads, Replaces, judgements_with}
use Rattle.mw_logic.specs.TermOrder.{stands_after}
use Rattle.mw_logic.specs.Kinds.{is_successor}
use Rattle.mw_logic.specs.NormalForm.{normal_form, elements, rebuilt, successor_of}
use Rattle.mw_logic.specs.CanonicalPart.{IsPartOf, whole, argument, several}
use Rattle.mw_logic.proofs.RowsKit as kit
use Rattle.mw_logic.proofs.AxiomLaws.{trans, sym as back}
use Rattle.mw_logic.proofs.EqualTerms.{ground_kept}
use Rattle.mw_logic.proofs.AcceptedTest.{is_accepted-sound}
use Rattle.mw_logic.proofs.Invariance.{normal_form-kept}
use Rattle.mw_logic.proofs.EqualByNormalForm.{equal_by_normal_form}
use Rattle.mw_logic.proofs.RawKept.{raw_kept}
use Rattle.mw_logic.proofs.CanonicalTerms.{clean_form}
use Rattle.mw_logic.proofs.Inside.{raw_inside, raw_arguments, first_raw}
use Rattle.mw_logic.proofs.PartsOfNormalForm.{part_kept}
use Rattle.mw_logic.proofs.Admitted.{admitted-iff}
use Rattle.mw_logic.proofs.Judging.{Proves-equality}
use Rattle.mw_logic.proofs.SolutionLaws.{substitution_value}
use Rattle.mw_logic.proofs.Stuck.{led_to_equal}
use Rattle.mw_logic.proofs.FreeSignature.{IsBareSignature, is_bare-sound, bare_no_row, bare_meets_no_row, bare_no_pair, has_operator, have_operator}

abbrev sig : Signature
sig = record {
  sorts = codes "E" ∷ codes "L" ∷ [];
  pairs = (1, 2) ∷ [];
  operators =
      kit.an_operator (codes "a") [] (sort 1) ∷ kit.an_operator (codes "b") [] (sort 1) ∷ kit.an_operator (codes "c") [] (sort 1) ∷ kit.an_operator (codes "nil") [] (sort 2)
      ∷ kit.with_axioms false (Some (constant_of 4)) (kit.an_operator (codes "__") (sort 2 ∷ sort 2 ∷ []) (sort 2)) ∷ kit.an_operator (codes "head") (kind 1 ∷ []) (kind 1) ∷ [];
  nat = false;
  qid = false;
}

abbrev empty : RawTerm
empty = constant 4

abbrev f : RawTerm → RawTerm → RawTerm
f t u = binary 5 t u

abbrev head : RawTerm → RawTerm
head t = unary 6 t

abbrev X : Variable
X = kit.a_variable (codes "X") 1

abbrev Y : Variable
Y = kit.a_variable (codes "Y") 2

abbrev Z : Variable
Z = kit.a_variable (codes "Z") 2

abbrev XZ : RawTerm
XZ = f (variable X) (variable Z)

abbrev first_of : Statement
first_of = kit.an_equation (head (variable Y)) (variable X) (matches XZ (variable Y) ∷ []) (Y ∷ X ∷ Z ∷ [])

abbrev HD : Module
HD = record { signature = sig; statements = first_of ∷ [] }

accepted : IsAccepted sig
accepted = is_accepted-sound sig refl

bare : IsBareSignature sig
bare = is_bare-sound sig refl

only_statement : (k : ℕ) (st : Statement) → IsStatement HD k st → first_of ≡ st
only_statement zero st is = let h : None ≡ Some st = is.is_there in cc
only_statement (suc zero) st is = let h : Some first_of ≡ Some st = is.is_there in cc
only_statement (suc (suc k)) st is = let h : None ≡ Some st = is.is_there in cc

-- the normal form of head is head of the normal form
head_normal : (v : RawTerm) → normal_form sig (head v) ≡ head (normal_form sig v)
unfolding is_successor
head_normal v = by_shape (normal_form sig v)
  where
    by_shape : (v : RawTerm) → successor_of false 6 v ≡ head v
    by_shape (numeral n) = refl
    by_shape (quoted q) = refl
    by_shape (variable x) = refl
    by_shape (apply g ts) = refl

-- head stands where it is a part
have_operator-middle : (g : ℕ) (before : RawTerms) (t : RawTerm) (after : RawTerms) → has_operator g t ≡ true → have_operator g (join before (cons t after)) ≡ true
have_operator-middle g nil t after h = or_left _ _ h
have_operator-middle g (cons u us) t after h = or_right _ _ (have_operator-middle g us t after h)

head_not_assoc : IsAssociative sig 6 → ⊥
head_not_assoc A = both_ways _ (of_head A.operator A.is_there) A.assoc
  where
    of_head : (o : Operator) → at_number sig.operators 6 ≡ Some o → o.assoc ≡ false
    of_head o e = let k : kit.an_operator (codes "head") (kind 1 ∷ []) (kind 1) ≡ o = cc in ap (λ (o : Operator). o.assoc) (sym k)

head_inside : {v w : RawTerm} (x : RawTerm) → IsPartOf sig false v w → w ≡ head x → has_operator 6 v ≡ true
head_inside x whole e = rw e refl
head_inside x (argument g before t after o p) e = or_right _ _ (have_operator-middle 6 before t after (head_inside x p e))
head_inside x (several {f = g} A o l cut) e = absurd (head_not_assoc (subst (λ g. IsAssociative sig g) (top e) A))
  where
    top : {g : ℕ} {us : RawTerms} → apply g us ≡ head x → g ≡ 6
    top e = cc

-- where the left side has a solution at a part of t, head stands in t's normal form
head_at_part : {t : RawTerm} (C : Context) (w x : RawTerm) → IsRawTerm sig t → IsPart sig t C w → EqualModulo sig (head x) w → has_operator 6 (normal_form sig t) ≡ true
head_at_part C w x r p e =
    head_inside (normal_form sig x) (part_kept sig accepted {by_rule = false} C w (λ h. absurd (false≢true h)) r p) (sym (normal_form-kept sig accepted e) ∙ head_normal x)

empty_raw : IsRawTerm sig empty
empty_raw = an_operator _ refl arguments.end

head_raw : (t : RawTerm) → IsRawTerm sig t → HasKind sig t 1 → IsRawTerm sig (head t)
head_raw t r k = an_operator _ refl (arguments.next r k arguments.end)

-- nil is normal at each rank.
empty_normal_by : (F : List Fragment → Substitution → Type 0) → IsNormalBy HD F empty
unfolding is_successor
empty_normal_by F = record {
  admitted = (admitted-iff sig accepted empty_raw).1 (refl, omega arith, refl);
  no_equation = λ C w p k e is eq s sol. absurd (false≢true (head_at_part C w (instance s (variable Y)) empty_raw p (subst (λ (e : Statement). EqualModulo sig (instance s e.left) w) (sym (only_statement k e is)) sol.matches)));
  no_row = λ C w p. bare_meets_no_row sig bare w;
  no_pair = λ C w p. bare_no_pair sig bare w;
}

empty_normal : (n : ℕ) → IsNormal HD n empty
unfolding judgements_with
empty_normal zero = empty_normal_by _
empty_normal (suc n) = empty_normal_by _

-- A ground raw term with a declared sort at or below E is a, b or c.
not_below : {S T : ℕ} → AtOrBelow sig.pairs S T → S ≡ 2 → T ≡ 2
not_below AtOrBelow.same e = e
not_below (AtOrBelow.above {S} {T} m p) e = absurd (apart m)
  where
    apart : Member (S, T) sig.pairs → ⊥
    apart (inl k) = let i : ◌≡◌ {A = ℕ} 1 S = ap (λ (q : ℕ × ℕ). q.0) k in omega (arith, i, e)
    apart (inr x) = x

abbrev IsLetter : RawTerm → Type 0
IsLetter t = (c : ℕ) × (t ≡ constant c) × (c ≤ 3)

letter : {t : RawTerm} {D : Sorted} → IsRawTerm sig t → is_ground t ≡ true → DeclaredSort sig t D → IsBelow sig D (sort 1) → IsLetter t
letter (a_numeral b l) g d h = absurd (false≢true b)
letter (a_quoted b) g d h = absurd (false≢true b)
letter a_variable g d h = absurd (false≢true g)
letter (an_operator o e args) g (DeclaredSort.of_kind p there ds none) h = absurd h
letter (an_operator {f = g} {ts} o e args) ground (DeclaredSort.of_operator {Ss} {R} p there ds takes least) h = by_number g there args'
  where
    same_operator : o ≡ p
    same_operator = let k : Some o ≡ Some p = sym e ∙ there in cc

    args' : arguments sig ts p.args
    args' = subst (λ (o : Operator). arguments sig ts o.args) same_operator args

    nothing : (Ks : List ℕ) → Ks ≡ [] → (ts : RawTerms) → arguments sig ts Ks → ts ≡ nil
    nothing [] k nil a = refl
    nothing [] k (cons t ts) a = elim a [ ]
    nothing (K ∷ Ks) k ts a = cc

    a_letter : (c : ℕ) → c ≤ 3 → p.args ≡ [] → arguments sig ts p.args → IsLetter (apply c ts)
    a_letter c l k a = (c, ap (apply c) (nothing p.args k ts a), l)

    too_high : (sorts : List Sorted) → p.declarations ≡ record { args = sorts; result = sort 2 } ∷ [] → ⊥
    too_high sorts d = let k : sort 2 ≡ R = kit.one_result p sorts (sort 2) Ss R d takes in let q : ◌≡◌ {A = ℕ} 1 2 = not_below (subst (λ R. IsBelow sig R (sort 1)) (sym k) h) refl in omega (arith, q)

    of_kind_only : (sorts : List Sorted) → p.declarations ≡ record { args = sorts; result = kind 1 } ∷ [] → ⊥
    of_kind_only sorts d = let k : kind 1 ≡ R = kit.one_result p sorts (kind 1) Ss R d takes in subst (λ R. IsBelow sig R (sort 1)) (sym k) h

    by_number : (g : ℕ) → IsOperator sig g p → arguments sig ts p.args → IsLetter (apply g ts)
    by_number zero there a = cc
    by_number (suc zero) there a = let k : kit.an_operator (codes "a") [] (sort 1) ≡ p = cc in a_letter 1 (omega arith) (ap (λ (p : Operator). p.args) (sym k)) a
    by_number (suc (suc zero)) there a = let k : kit.an_operator (codes "b") [] (sort 1) ≡ p = cc in a_letter 2 (omega arith) (ap (λ (p : Operator). p.args) (sym k)) a
    by_number (suc (suc (suc zero))) there a = let k : kit.an_operator (codes "c") [] (sort 1) ≡ p = cc in a_letter 3 (omega arith) (ap (λ (p : Operator). p.args) (sym k)) a
    by_number (suc (suc (suc (suc zero)))) there a = let k : kit.an_operator (codes "nil") [] (sort 2) ≡ p = cc in absurd (too_high [] (ap (λ (p : Operator). p.declarations) (sym k)))
    by_number (suc (suc (suc (suc (suc zero))))) there a =
        let k : kit.with_axioms false (Some (constant_of 4)) (kit.an_operator (codes "__") (sort 2 ∷ sort 2 ∷ []) (sort 2)) ≡ p = cc in absurd (too_high (sort 2 ∷ sort 2 ∷ []) (ap (λ (p : Operator). p.declarations) (sym k)))
    by_number (suc (suc (suc (suc (suc (suc zero)))))) there a = let k : kit.an_operator (codes "head") (kind 1 ∷ []) (kind 1) ≡ p = cc in absurd (of_kind_only (kind 1 ∷ []) (ap (λ (p : Operator). p.declarations) (sym k)))
    by_number (suc (suc (suc (suc (suc (suc (suc n))))))) there a = cc

-- The value of a bound variable, and what it is.
bound_value : (s : Substitution) (x : Variable) → is_bound s x ≡ true → (t : RawTerm) × (value s x ≡ Some t) × (instance s (variable x) ≡ t)
bound_value s x h = by_value (value s x) refl h
  where
    by_value : (v : Option RawTerm) → value s x ≡ v → is_some v ≡ true → (t : RawTerm) × (value s x ≡ Some t) × (unwrap_or (value s x) (variable x) ≡ t)
    by_value None e h = absurd (false≢true h)
    by_value (Some t) e h = (t, e, rw e refl)

-- So X Z is a for nothing equal to nil: X would be one of the letters.
X_is_letter : {t : RawTerm} {s0 s : Substitution} → IsSolution sig XZ t s0 s → IsLetter (normal_form sig (instance s (variable X)))
X_is_letter {s0 = s0} {s} h =
    let (x, e, i) = bound_value s X (h.variables X ∙ or_right (is_bound s0 X) true refl) in
    let (ground, raw, has) = substitution_value sig s h.substitution X x e in
    let (c, k, l) = letter ((raw_kept sig accepted has.equal).0 raw) (sym (ground_kept sig has.equal) ∙ ground) has.is_declared has.below in
    (c, ap (normal_form sig) i ∙ normal_form-kept sig accepted has.equal ∙ ap (normal_form sig) k ∙ letter_normal c l, l)
  where
    letter_normal : (c : ℕ) → c ≤ 3 → normal_form sig (constant c) ≡ constant c
    letter_normal zero l = refl
    letter_normal (suc zero) l = refl
    letter_normal (suc (suc zero)) l = refl
    letter_normal (suc (suc (suc zero))) l = refl
    letter_normal (suc (suc (suc (suc n)))) l = let k : ⊥ = omega (arith, l) in absurd k

letter_first : (v z : RawTerm) → IsLetter v → rebuilt (Some (constant_of 4)) 5 (join (elements (Some (constant_of 4)) 5 v) (join (elements (Some (constant_of 4)) 5 z) nil)) ≡ empty → ⊥
letter_first v z (c, e, l) h = by_rest (join (elements (Some (constant_of 4)) 5 z) nil) (one c l (elements_of c l) (subst (λ v. rebuilt (Some (constant_of 4)) 5 (join (elements (Some (constant_of 4)) 5 v) (join (elements (Some (constant_of 4)) 5 z) nil)) ≡ empty) e h))
  where
    elements_of : (c : ℕ) → c ≤ 3 → elements (Some (constant_of 4)) 5 (constant c) ≡ cons (constant c) nil
    elements_of zero l = refl
    elements_of (suc zero) l = refl
    elements_of (suc (suc zero)) l = refl
    elements_of (suc (suc (suc zero))) l = refl
    elements_of (suc (suc (suc (suc n)))) l = let k : ⊥ = omega (arith, l) in absurd k

    one : (c : ℕ) → c ≤ 3 → elements (Some (constant_of 4)) 5 (constant c) ≡ cons (constant c) nil → rebuilt (Some (constant_of 4)) 5 (join (elements (Some (constant_of 4)) 5 (constant c)) (join (elements (Some (constant_of 4)) 5 z) nil)) ≡ empty →
        rebuilt (Some (constant_of 4)) 5 (cons (constant c) (join (elements (Some (constant_of 4)) 5 z) nil)) ≡ empty
    one c l k h = subst (λ E. rebuilt (Some (constant_of 4)) 5 (join E (join (elements (Some (constant_of 4)) 5 z) nil)) ≡ empty) k h

    inj : {d : ℕ} → constant d ≡ empty → d ≡ 4
    inj e = cc

    by_rest : (E : RawTerms) → rebuilt (Some (constant_of 4)) 5 (cons (constant c) E) ≡ empty → ⊥
    by_rest nil h = let k : c ≡ 4 = inj h in omega (arith, k, l)
    by_rest (cons x E) h = cc

no_X_for_empty : (a : RawTerm) (s0 s : Substitution) → EqualModulo sig a empty → IsSolution sig XZ a s0 s → ⊥
no_X_for_empty a s0 s e h =
    letter_first (normal_form sig (instance s (variable X))) (normal_form sig (instance s (variable Z))) (X_is_letter h) (normal_form-kept sig accepted (trans h.matches e))

-- head(nil) is normal at each rank above 0: the condition fails for the one Y there is.
head_inj : {v w : RawTerm} → head v ≡ head w → v ≡ w
head_inj e = cc

abbrev head_empty : RawTerm
head_empty = head empty

head_empty_raw : IsRawTerm sig head_empty
head_empty_raw = head_raw empty empty_raw (HasKind.of_operator _ refl SameKind.same)

whole_only : {v w : RawTerm} (x : RawTerm) → IsPartOf sig false v w → v ≡ head_empty → w ≡ head x → x ≡ empty
whole_only x whole e k = head_inj (sym k ∙ e)
whole_only x (argument g before t after o p) e k = absurd (false≢true (in_empty before t after e ∙ head_inside x p k))
  where
    in_empty : (before : RawTerms) (t : RawTerm) (after : RawTerms) → apply g (join before (cons t after)) ≡ head_empty → false ≡ has_operator 6 t
    in_empty nil t after e = let i : t ≡ empty = cc in sym (ap (has_operator 6) i)
    in_empty (cons y nil) t after e = cc
    in_empty (cons y (cons z ys)) t after e = cc
whole_only x (several {f = g} A o l cut) e k = absurd (head_not_assoc (subst (λ g. IsAssociative sig g) (top k) A))
  where
    top : {g : ℕ} {us : RawTerms} → apply g us ≡ head x → g ≡ 6
    top e = cc

Y_is_empty : (C : Context) (w : RawTerm) → IsPart sig head_empty C w → (s : Substitution) → EqualModulo sig (head (instance s (variable Y))) w → EqualModulo sig (instance s (variable Y)) empty
unfolding is_successor
Y_is_empty C w p s m =
    let v : RawTerm = instance s (variable Y) in
    let e : normal_form sig v ≡ empty = whole_only (normal_form sig v) (part_kept sig accepted {by_rule = false} C w (λ h. absurd (false≢true h)) head_empty_raw p) (head_normal empty) (sym (normal_form-kept sig accepted m) ∙ head_normal v) in
    let w_raw : IsRawTerm sig w = raw_inside sig accepted C w ((raw_kept sig accepted p.equal).0 head_empty_raw) in
    let v_raw : IsRawTerm sig v = first_raw sig (raw_arguments sig accepted ((raw_kept sig accepted (back m)).0 w_raw)).1 in
    (equal_by_normal_form sig accepted v_raw empty_raw).1 e

head_empty_fails : (n : ℕ) (C : Context) (w : RawTerm) → IsPart sig head_empty C w → (s : Substitution) → IsSolution sig (head (variable Y)) w [] s → Fails HD (suc n) (matches XZ (variable Y) ∷ []) s
unfolding judgements_with
head_empty_fails n C w p s sol =
    (equality, empty, record { proves = Proves-equality HD n (instance s (variable Y)) empty (Y_is_empty C w p s sol.matches); equational = refl; normal = empty_normal n }, λ s' h. absurd (no_X_for_empty empty s s' done h))

head_empty_normal : (n : ℕ) → IsNormal HD (suc n) head_empty
unfolding judgements_with is_successor
head_empty_normal n = record {
  admitted = (admitted-iff sig accepted head_empty_raw).1 (refl, omega arith, refl);
  no_equation = λ C w p k e is eq s sol.
      subst (λ (e : Statement). Fails HD (suc n) e.fragments s) (only_statement k e is) (head_empty_fails n C w p s (subst (λ (e : Statement). IsSolution sig e.left w [] s) (sym (only_statement k e is)) sol));
  no_row = λ C w p. bare_meets_no_row sig bare w;
  no_pair = λ C w p. bare_no_pair sig bare w;
}

-- From a b c nothing leads on, as no head stands in it; so the condition holds with X = a, and head(a b c) is not normal.
abbrev abc : RawTerm
abc = f (constant 1) (f (constant 2) (constant 3))

pair_raw : (t u : RawTerm) → IsRawTerm sig t → HasKind sig t 1 → IsRawTerm sig u → HasKind sig u 1 → IsRawTerm sig (f t u)
pair_raw t u r k s l = an_operator _ refl (arguments.next r k (arguments.next s l arguments.end))

letter_raw : (IsRawTerm sig (constant 1)) × (IsRawTerm sig (constant 2)) × (IsRawTerm sig (constant 3))
letter_raw = (an_operator _ refl arguments.end, an_operator _ refl arguments.end, an_operator _ refl arguments.end)

bc_raw : IsRawTerm sig (f (constant 2) (constant 3))
bc_raw = pair_raw _ _ letter_raw.1 (HasKind.of_operator _ refl SameKind.same) letter_raw.2 (HasKind.of_operator _ refl SameKind.same)

abc_raw : IsRawTerm sig abc
abc_raw = pair_raw _ _ letter_raw.0 (HasKind.of_operator _ refl SameKind.same) bc_raw (HasKind.of_operator _ refl SameKind.same)

letter_sort : (DeclaredSort sig (constant 1) (sort 1)) × (DeclaredSort sig (constant 2) (sort 1)) × (DeclaredSort sig (constant 3) (sort 1))
letter_sort = (kit.declared_sort _ refl refl DeclaredSorts.end tt, kit.declared_sort _ refl refl DeclaredSorts.end tt, kit.declared_sort _ refl refl DeclaredSorts.end tt)

e_below_l : AtOrBelow sig.pairs 1 2
e_below_l = AtOrBelow.above (inl refl) AtOrBelow.same

bc_sort : DeclaredSort sig (f (constant 2) (constant 3)) (sort 2)
bc_sort = kit.declared_sort _ refl refl (DeclaredSorts.next letter_sort.1 (DeclaredSorts.next letter_sort.2 DeclaredSorts.end)) (e_below_l, (e_below_l, tt))

abc_sort : DeclaredSort sig abc (sort 2)
abc_sort = kit.declared_sort _ refl refl (DeclaredSorts.next letter_sort.0 (DeclaredSorts.next bc_sort DeclaredSorts.end)) (e_below_l, (AtOrBelow.same, tt))

no_head : has_operator 6 (normal_form sig abc) ≡ false
unfolding stands_after is_successor
no_head = refl

module _ (H : List Fragment → Substitution → Proofs → Substitution → Type 0) (F : List Fragment → Substitution → Type 0) where
  abbrev IsAbc : RawTerm → Type 0
  IsAbc t = EqualModulo sig abc t

  no_replacement : (k : ℕ) (r : Bool) (s : Substitution) (es : Proofs) (t w v u : RawTerm) → IsAbc t → Replaces HD H F k r s es w v → ReplacesPart sig r t w v u → ⊥
  no_replacement k r s es t w v u e x p =
      let e' : EqualModulo sig (head (instance s (variable Y))) w = subst (λ w. EqualModulo sig (head (instance s (variable Y))) w) (sym x.from) (subst (λ (st : Statement). EqualModulo sig (head (instance s (variable Y))) (instance s st.left)) (only_statement k x.statement x.is_there) done) in
      let t_raw : IsRawTerm sig t = (raw_kept sig accepted e).0 abc_raw in
      both_ways _ no_head (ap (has_operator 6) (normal_form-kept sig accepted e) ∙ head_at_part p.place p.part (instance s (variable Y)) t_raw p.is_part (trans e' p.same))

  from_abc : (p : Proof) (u : RawTerm) → Leads HD (ReplacesPart sig) H F [] p abc u → EqualModulo sig abc u
  from_abc p u l = led_to_equal HD (ReplacesPart sig) H F IsAbc (λ t u e q. trans q e) no_replacement (λ t w v u q r c p. bare_no_row sig bare r) p [] abc u done l

abc_evaluates : (n : ℕ) (p : Proof) (u : RawTerm) → Proves HD n p abc u → EqualModulo sig abc u
unfolding judgements_with
abc_evaluates zero p u l = from_abc _ _ p u l
abc_evaluates (suc n) p u l = from_abc _ _ p u l

abbrev Y_abc : Substitution
Y_abc = (Y, abc) ∷ []

abbrev with_X : Substitution
with_X = (Y, abc) ∷ (X, constant 1) ∷ (Z, f (constant 2) (constant 3)) ∷ []

extended : (x : Variable) (t : RawTerm) → value Y_abc x ≡ Some t → value with_X x ≡ Some t
extended x t e = by_test (same_variable Y x) e
  where
    by_test : (c : Bool) → cond c (Some abc) None ≡ Some t → cond c (Some abc) (value ((X, constant 1) ∷ (Z, f (constant 2) (constant 3)) ∷ []) x) ≡ Some t
    by_test true e = e
    by_test false e = cc

three_bound : (p q r : Bool) → is_some (cond p (Some abc) (cond q (Some (constant 1)) (cond r (Some (f (constant 2) (constant 3))) None))) ≡ (is_some (cond p (Some abc) None) || (q || (r || false)))
three_bound true q r = refl
three_bound false true r = refl
three_bound false false true = refl
three_bound false false false = refl

X_is_a : (u : RawTerm) → EqualModulo sig abc u → IsSolution sig XZ u Y_abc with_X
X_is_a u e = record {
  substitution = (refl, refl, abc_raw, kit.has_declared abc_sort, (refl, refl, letter_raw.0, kit.has_declared letter_sort.0, (refl, refl, bc_raw, kit.has_declared bc_sort, tt)));
  extends = extended;
  variables = λ x. three_bound (same_variable Y x) (same_variable X x) (same_variable Z x);
  matches = e;
}

Y_is_abc : IsSolution sig (head (variable Y)) (head abc) [] Y_abc
Y_is_abc = record { substitution = (refl, refl, abc_raw, kit.has_declared abc_sort, tt); extends = λ x t e. cc; variables = λ x. kit.one_bound Y abc x; matches = done }

head_abc_raw : IsRawTerm sig (head abc)
head_abc_raw = head_raw abc abc_raw (HasKind.of_operator _ refl SameKind.same)

head_abc_whole : IsPart sig (head abc) [] (head abc)
unfolding stands_after is_successor
head_abc_whole = clean_form sig accepted head_abc_raw

head_abc_not_normal : (n : ℕ) → IsNormal HD (suc n) (head abc) → ⊥
unfolding judgements_with
head_abc_not_normal n h =
    let (p, u, ev, none) = h.no_equation [] (head abc) head_abc_whole 1 first_of (record { is_there = refl; executable = refl }) refl Y_abc Y_is_abc in
    none with_X (X_is_a u (abc_evaluates n p u ev.proves))
