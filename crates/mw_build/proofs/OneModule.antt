-- A unit is one module at most, which reaches the same units, and none where it is refused.
use Rattle.std.proofs.Common.{◌≡◌, ◌∙◌, ℕ, zero, suc, Bool, List, [], ◌∷◌, ◌++◌, map, flat_map, length, slice_get, All, codes, Option, Some, None, Ok, Err, Result, refl, sym, ap, subst, arith, ⊎_elim}
use Rattle.std.proofs.lemmas.List.Elements.{All-head, All-tail}
use Rattle.std.proofs.lemmas.Bool.{both_ways}
use Rattle.std.proofs.lemmas.Option.{none-some, slice_get_within}
use Rattle.mw_logic.specs.Term.{Variable, RawTerm}
use Rattle.mw_logic.specs.Signature.{Signature, Sorted, sort, kind, IsSortNamed, SameKind, same}
use Rattle.mw_logic.specs.Accepted.{IsAccepted as IsAcceptedSignature, number_of_sort}
use Rattle.mw_logic.specs.Preregular.{AreOfKinds}
use Rattle.mw_logic.specs.Module.{Fragment, equal, matches, has_sort, is_true, Statement}
use Rattle.mw_sorting.specs.PreregularModulo.{IsOfKind, IsPreregularModulo}
use Rattle.mw_sorts.specs.Entries.{IsEntry, AreEntries}
use Rattle.mw_sorts.specs.Faults.{IsFirstFault}
use Rattle.mw_sorts.specs.Groupings.{IsFirstGroupingFault, three_of}
use Rattle.mw_sorts.specs.Leaving.{IsFirstIdentityFault}
use Rattle.mw_carry.specs.Laws.{OperatorsApart}
use Rattle.mw_carry.proofs.Once.{carried_one, fragments_one}
use Rattle.mw_module.specs.declared.faults.Fault.{Fault}
use Rattle.mw_module.specs.declared.faults.FaultKind.{FaultKind}
use Rattle.mw_module.specs.Conditions.{WrittenFragment}
use Rattle.mw_module.specs.Units.{SeenLined, SeenUnit}
use Rattle.mw_module.specs.Words.{texts}
use Rattle.mw_text.specs.Mixfix.{Reads}
use Rattle.mw_text.specs.Readings.{ReadsPair}
use Rattle.mw_import.specs.Flat.{FlatUnit, ImportOf, imports_of, number_named, brought_by, first_unit, firsts, IsFlat, IsWrong, circular, unknown, ImportFault}
use Rattle.mw_declare.specs.declared.declarations.Declarations.{Declarations}
use Rattle.mw_declare.specs.Faults.{Typing, typing_of}
use Rattle.mw_declare.specs.Declarations.{Declares, DeclarationFault}
use Rattle.mw_declare.proofs.Accepting.{apart_declared}
use Rattle.mw_declare.proofs.OneDeclaration.{one_declaration, none_at_fault}
use Rattle.mw_build.specs.SignatureFaults.{SignatureFault, no_least, groupings, identity}
use Rattle.mw_build.specs.Pairwise.{AreRelated, IsFirstWrong}
use Rattle.mw_build.specs.Sides.{Sides, sides_of}
use Rattle.mw_build.specs.Fragments.{IsTest, TextFault, long_text, unread_text, unclear_text, PairFault, long_pair, unread_pair, unclear_pair, IsFragment, an_equation, a_match, a_test, a_truth, FragmentFault, bad_equation, bad_match, bad_test, bad_truth, no_truths, AreFragments}
use Rattle.mw_build.specs.Statements.{FitsIn, Oversized, deep, large, FirstOversized, here, behind, statement_of, all_terms, IsApplicable, ApplicationFault, lone, open_term, IsStatementOf, TermsFault, big_term, inapplicable, IsReadAs, StatementFault, bad_sides, bad_fragment, bad_terms, HasFault, AreFine, IsObjectRule, ObjectRuleFault, bad_completed, bad_written, bad_object, IsOwn, own_rule, own_equation, own_statement, OwnFault, of_rule, of_equation, of_statement}
use Rattle.mw_build.specs.Imported.{Accepted, Origin, origins_of, IsImported, ImportedFault, HasFaultAt}
use Rattle.mw_omod.specs.declared.classes.Classes.{Classes}
use Rattle.mw_omod.proofs.Once.{completed_once}
use Rattle.mw_build.specs.Classes.{AreObjectsOf}
use Rattle.mw_build.proofs.OneClasses.{one_objects}
use Rattle.mw_build.specs.Modules.{IsFlattened, flattened, reached_of, IsDeclaredModule, StatementsFault, by_signature, by_imported, by_own, IsAccepted, IsRefused, by_variables, by_imports, by_declarations, by_statements}
use Rattle.mw_build.proofs.Asking.{test_one}
use Rattle.mw_build.proofs.Pairwise.{there}

-- lists as long as each other that agree at each place are one
same_lists : {X : Type 0} (xs ys : List X) → length xs ≡ length ys → ((i : ℕ) (x y : X) → slice_get xs i ≡ Some x → slice_get ys i ≡ Some y → x ≡ y) → xs ≡ ys
same_lists [] [] n h = refl
same_lists [] (y ∷ ys) n h = absurd (omega (arith, n))
same_lists (x ∷ xs) [] n h = absurd (omega (arith, n))
same_lists (x ∷ xs) (y ∷ ys) n h =
    let front = h zero x y refl refl in
    let rest = same_lists xs ys (omega (arith, n)) (λ i a b. h (suc i) a b) in
    cc

module _ {A B : Type 0} (R : A → B → Type 0) where
  -- where one thing corresponds to each item, one list does
  one_related : ((a : A) (b c : B) → R a b → R a c → b ≡ c) → (ps : List A) (bs cs : List B) → AreRelated R ps bs → AreRelated R ps cs → bs ≡ cs
  one_related one ps bs cs p q = same_lists bs cs (p.count ∙ sym q.count)
      (λ i b c at_b at_c.
      let w = slice_get_within bs i b at_b in
      let e = there ps i (omega (arith, w, p.count)) in
      one e.0 b c (p.each i e.0 b e.1 at_b) (q.each i e.0 c e.1 at_c))

  -- and none is wrong where one corresponds to each, and to none that is wrong
  none_wrong : (W : A → Type 0) → ((a : A) (b : B) → R a b → W a → ⊥) → (ps : List A) (bs : List B) → AreRelated R ps bs → IsFirstWrong R W ps → ⊥
  none_wrong W not ps bs p f =
      let w = slice_get_within ps f.place f.item f.is_there in
      let b = there bs f.place (omega (arith, w, p.count)) in
      not f.item b.0 (p.each f.place f.item b.0 f.is_there b.1) f.fault

pub not_big : (sig : Signature) (t : RawTerm) (cause : FaultKind) → FitsIn sig t → Oversized sig t cause → ⊥
not_big sig t cause f (deep k) = f.not_deep k
not_big sig t cause f (large s k) = f.not_large k

none_big : (sig : Signature) (cause : FaultKind) (ts : List RawTerm) → All (FitsIn sig) ts → FirstOversized sig cause ts → ⊥
none_big sig cause ts f (here t rest big) = not_big sig t cause (All-head (FitsIn sig) t rest f) big
none_big sig cause ts f (behind t rest fits first) = none_big sig cause rest (All-tail (FitsIn sig) t rest f) first

module _ (sig : Signature) where
  application_holds : (left right : RawTerm) (C : List Fragment) (cause : FaultKind) → IsApplicable sig left right C → ApplicationFault sig left right C cause → ⊥
  application_holds left right C cause a (lone is) = a.not_lone is
  application_holds left right C cause a (open_term x not is) = absurd (none-some x (sym a.bound ∙ is))

  terms_hold : (left right : RawTerm) (C : List Fragment) (rule executable : Bool) (st : Statement) (cause : FaultKind) → IsStatementOf sig left right C rule executable st
      → TermsFault sig left right C executable cause → ⊥
  terms_hold left right C rule executable st cause s (big_term big) = none_big sig cause (all_terms left right C) s.holds.fit big
  terms_hold left right C rule executable st cause s (inapplicable fit is fault) = application_holds left right C cause (s.holds.applicable is) fault

  fine_holds : (left right : RawTerm) (C : List Fragment) (executable : Bool) (cause : FaultKind) → AreFine sig left right C executable → TermsFault sig left right C executable cause → ⊥
  fine_holds left right C executable cause s (big_term big) = none_big sig cause (all_terms left right C) s.fit big
  fine_holds left right C executable cause s (inapplicable fit is fault) = application_holds left right C cause (s.applicable is) fault

  -- an own statement is one
  one_own : (o : Option Classes) (e a b : Statement) → IsOwn sig o e a → IsOwn sig o e b → a ≡ b
  one_own o e a b (own_statement d f) (own_statement c g) = refl
  one_own o e a b (own_equation K d r f) (own_equation L c s g) = refl
  one_own o e a b (own_equation K d r f) (own_rule L c x s g) = absurd (both_ways _ r s)
  one_own o e a b (own_rule K d x r f) (own_equation L c s g) = absurd (both_ways _ s r)
  one_own o e a b (own_rule K d x r f) (own_rule L c y s g) = completed_once sig K d a b f.completed g.completed

  rule_holds : (K : Classes) (e a : Statement) (cause : FaultKind) → IsObjectRule sig K e a → ObjectRuleFault sig K e cause → ⊥
  rule_holds K e a cause h (bad_completed b why is fault) =
      fine_holds a.left a.right a.fragments a.executable cause h.fine
      (subst (λ (s : Statement). TermsFault sig s.left s.right s.fragments s.executable cause) (completed_once sig K e b a is h.completed) fault)
  rule_holds K e a cause h (bad_written why bad fault) = h.completed.sides.fine bad
  rule_holds K e a cause h (bad_object bad fine) = h.completed.sides.fine bad

  own_holds : (o : Option Classes) (e a : Statement) (cause : FaultKind) → IsOwn sig o e a → OwnFault sig o e cause → ⊥
  own_holds o e a cause (own_statement d f) (of_statement c why fault) = fine_holds d.left d.right d.fragments d.executable cause f fault
  own_holds o e a cause (own_equation K d r f) (of_equation L c why s fault) = fine_holds d.left d.right d.fragments d.executable cause f fault
  own_holds o e a cause (own_equation K d r f) (of_rule L c why s fault) = both_ways _ r s
  own_holds o e a cause (own_rule K d x r f) (of_equation L c why s fault) = both_ways _ s r
  own_holds o e a cause (own_rule K d x r f) (of_rule L c why s fault) = rule_holds K d x cause f fault

  module _ (ok : IsAcceptedSignature sig) (variables : List Variable) (objects : Option Classes) where
    -- texts that are read have no fault
    text_holds : (wanted : Option ℕ) (text : List (List ℕ)) (t : RawTerm) (cause : FaultKind) → Reads sig variables wanted text t → TextFault sig variables wanted text cause → ⊥
    text_holds wanted text t cause r (long_text h) = let s = r.short in omega (arith, h, s)
    text_holds wanted text t cause r (unread_text s none) = none t r.spelled
    text_holds wanted text t cause r (unclear_text s (x, y, (of_x, of_y, differ))) = differ (r.only x of_x ∙ sym (r.only y of_y))

    pair_holds : (left right : List (List ℕ)) (p : RawTerm × RawTerm) (cause : FaultKind) → ReadsPair sig variables left right p → PairFault sig variables left right cause → ⊥
    pair_holds left right p cause r (long_pair h) = ⊎_elim (λ k. let s = r.short_left in omega (arith, k, s)) (λ k. let s = r.short_right in omega (arith, k, s)) h
    pair_holds left right p cause r (unread_pair f g none) = none p r.only.0
    pair_holds left right p cause r (unclear_pair f g (x, y, (of_x, of_y, differ))) = differ (r.only.1 x of_x ∙ sym (r.only.1 y of_y))

    one_pair : (left right : List (List ℕ)) (p q : RawTerm × RawTerm) → ReadsPair sig variables left right p → ReadsPair sig variables left right q → p ≡ q
    one_pair left right p q r s = s.only.1 p r.only.0

    -- a sort test has one term, and a Boolean term's kind is one
    one_tested : (text t u : List (List ℕ)) (S T : Sorted) (v w : RawTerm) → IsTest sig text t S → IsTest sig text u T → Reads sig variables (Some (number_of_sort S)) t v
        → Reads sig variables (Some (number_of_sort T)) u w → (v ≡ w) × (S ≡ T)
    one_tested text t u S T v w p q r s =
        let (fronts, sorts) = test_one sig ok text t u S T p q in
        let moved : Reads sig variables (Some (number_of_sort T)) u v = subst (λ x. Reads sig variables (Some (number_of_sort T)) x v) fronts
        (subst (λ X. Reads sig variables (Some (number_of_sort X)) t v) sorts r) in
        (s.only v moved.spelled, sorts)

    moved_truth : (A B : ℕ) (text : List (List ℕ)) (b : RawTerm) → IsSortNamed sig A (codes "Bool") → IsSortNamed sig B (codes "Bool") → Reads sig variables (Some A) text b
        → Reads sig variables (Some B) text b
    moved_truth A B text b this that r = subst (λ (S : ℕ). Reads sig variables (Some S) text b) (ok.sorts_differ A B (codes "Bool") this that) r

    -- a fragment is one
    one_fragment : (w : WrittenFragment) (f g : Fragment) → IsFragment sig variables w f → IsFragment sig variables w g → f ≡ g
    one_fragment w f g (an_equation left right u v r) (an_equation _ _ x y s) = ap (λ (p : RawTerm × RawTerm). equal p.0 p.1) (one_pair (texts left) (texts right) (u, v) (x, y) r s)
    one_fragment w f g (a_match pattern term p t r) (a_match _ _ q u s) = ap (λ (x : RawTerm × RawTerm). matches x.0 x.1) (one_pair (texts pattern) (texts term) (p, t) (q, u) r s)
    one_fragment w f g (a_test ts t S v is r) (a_test _ u T x are s) =
        let (terms, sorts) = one_tested (texts ts) t u S T v x is are r s in
        ap (λ z. has_sort z S) terms ∙ ap (has_sort x) sorts
    one_fragment w f g (a_test ts t S v is r) (a_truth _ B b not named s) = absurd (not t S is)
    one_fragment w f g (a_truth ts B b not named r) (a_test _ u T x are s) = absurd (not u T are)
    one_fragment w f g (a_truth ts A b not this r) (a_truth _ B c none that s) = ap is_true (s.only b (moved_truth A B (texts ts) b this that r).spelled)

    fragment_holds : (w : WrittenFragment) (f : Fragment) (cause : FaultKind) → IsFragment sig variables w f → FragmentFault sig variables w cause → ⊥
    fragment_holds w f cause (an_equation left right u v r) (bad_equation _ _ why h) = pair_holds (texts left) (texts right) (u, v) why r h
    fragment_holds w f cause (a_match pattern term p t r) (bad_match _ _ why h) = pair_holds (texts pattern) (texts term) (p, t) why r h
    fragment_holds w f cause (a_test ts t S v is r) (bad_test _ u T why are h) =
        let (fronts, sorts) = test_one sig ok (texts ts) t u S T is are in
        text_holds (Some (number_of_sort T)) u v why (subst (λ x. Reads sig variables (Some (number_of_sort T)) x v) fronts (subst (λ X. Reads sig variables (Some (number_of_sort X)) t v) sorts r)) h
    fragment_holds w f cause (a_test ts t S v is r) (bad_truth _ B why not named h) = not t S is
    fragment_holds w f cause (a_test ts t S v is r) (no_truths _ not none) = not t S is
    fragment_holds w f cause (a_truth ts A b not this r) (bad_test _ u T why are h) = not u T are
    fragment_holds w f cause (a_truth ts A b not this r) (bad_truth _ B why also that h) = text_holds (Some B) (texts ts) b why (moved_truth A B (texts ts) b this that r) h
    fragment_holds w f cause (a_truth ts A b not this r) (no_truths _ also none) = none A this

    one_condition : (ws : List WrittenFragment) (C D : List Fragment) → AreFragments sig variables ws C → AreFragments sig variables ws D → C ≡ D
    one_condition = one_related (IsFragment sig variables) one_fragment

    -- what is written is one statement
    one_statement : (e : Sides) (st other : Statement) → IsReadAs sig variables objects e st → IsReadAs sig variables objects e other → st ≡ other
    one_statement e st other p q =
        let pair : ◌≡◌ {A = RawTerm × RawTerm} (p.left, p.right) (q.left, q.right) = one_pair (texts e.left) (texts e.right) (p.left, p.right) (q.left, q.right) p.read q.read in
        let same : statement_of p.left p.right p.condition e.rule e.executable ≡ statement_of q.left q.right q.condition e.rule e.executable =
        ap (λ (s : RawTerm × RawTerm). statement_of s.0 s.1 p.condition e.rule e.executable) pair
        ∙ ap (λ C. statement_of q.left q.right C e.rule e.executable) (one_condition e.fragments p.condition q.condition p.fragments q.fragments) in
        one_own objects (statement_of q.left q.right q.condition e.rule e.executable) st other (subst (λ s. IsOwn sig objects s st) same p.holds) q.holds

    statement_holds : (e : Sides) (st : Statement) (cause : FaultKind) → IsReadAs sig variables objects e st → StatementFault sig variables objects e cause → ⊥
    statement_holds e st cause p (bad_sides h) = pair_holds (texts e.left) (texts e.right) (p.left, p.right) cause p.read h
    statement_holds e st cause p (bad_fragment left right read h) =
        none_wrong (IsFragment sig variables) (λ w. FragmentFault sig variables w cause) (λ w f is k. fragment_holds w f cause is k) e.fragments p.condition p.fragments h
    statement_holds e st cause p (bad_terms left right C read are fault) =
        let pair : ◌≡◌ {A = RawTerm × RawTerm} (left, right) (p.left, p.right) = one_pair (texts e.left) (texts e.right) (left, right) (p.left, p.right) read p.read in
        own_holds objects (statement_of p.left p.right p.condition e.rule e.executable) st cause p.holds
        (subst (λ D. OwnFault sig objects (statement_of p.left p.right D e.rule e.executable) cause) (one_condition e.fragments C p.condition are p.fragments)
        (subst (λ (s : RawTerm × RawTerm). OwnFault sig objects (statement_of s.0 s.1 C e.rule e.executable) cause) pair fault))

module _ (sig : Signature) (ok : IsAcceptedSignature sig) (apart : OperatorsApart sig) where
  -- a statement of another signature is one statement here
  one_imported : (e : Origin) (st other : Statement) → IsImported sig e st → IsImported sig e other → st ≡ other
  one_imported e st other p q =
      let left : st.left ≡ other.left = carried_one e.signature sig ok apart p.carried.left q.carried.left in
      let right : st.right ≡ other.right = carried_one e.signature sig ok apart p.carried.right q.carried.right in
      let fragments : st.fragments ≡ other.fragments = fragments_one e.signature sig ok apart p.carried.fragments q.carried.fragments in
      p.holds.statement ∙ ap (λ t. statement_of t st.right st.fragments e.statement.rule e.statement.executable) left
      ∙ ap (λ t. statement_of other.left t st.fragments e.statement.rule e.statement.executable) right
      ∙ ap (λ C. statement_of other.left other.right C e.statement.rule e.statement.executable) fragments ∙ sym q.holds.statement

  imported_holds : (e : Origin) (st : Statement) (cause : FaultKind) → IsImported sig e st → ImportedFault sig e cause → ⊥
  imported_holds e st cause p f =
      let left : f.left ≡ st.left = carried_one e.signature sig ok apart f.carried_left p.carried.left in
      let right : f.right ≡ st.right = carried_one e.signature sig ok apart f.carried_right p.carried.right in
      let fragments : f.fragments ≡ st.fragments = fragments_one e.signature sig ok apart f.carried_fragments p.carried.fragments in
      terms_hold sig st.left st.right st.fragments e.statement.rule e.statement.executable st cause p.holds
      (subst (λ C. TermsFault sig st.left st.right C e.statement.executable cause) fragments
      (subst (λ t. TermsFault sig st.left t f.fragments e.statement.executable cause) right
      (subst (λ t. TermsFault sig t f.right f.fragments e.statement.executable cause) left f.fault)))

entries_of_kinds : (sig : Signature) (Ss : List Sorted) (Ks : List ℕ) → AreEntries sig Ss Ks → AreOfKinds sig Ss Ks
entries_of_kinds sig [] [] a = tt
entries_of_kinds sig [] (K ∷ Ks) a = absurd a
entries_of_kinds sig (S ∷ Ss) [] a = absurd a
entries_of_kinds sig (sort S ∷ Ss) (K ∷ Ks) a = (a.0, entries_of_kinds sig Ss Ks a.1)
entries_of_kinds sig (kind L ∷ Ss) (K ∷ Ks) a = (subst (SameKind sig L) a.0 same, entries_of_kinds sig Ss Ks a.1)

-- a preregular signature has no operator without a least result
no_lack : (sig : Signature) (f : ℕ) (Ss : List Sorted) → IsPreregularModulo sig → IsFirstFault sig f Ss → ⊥
no_lack sig f Ss p first =
    let lack = first.lack in
    let (R, r) = p.results f first.operator first.is_there Ss (entries_of_kinds sig Ss first.operator.args lack.entries) in
    ⊎_elim (λ l. lack.lacks.no_least R l) (λ n. n.0 lack.lacks.taken.0 lack.lacks.taken.1) r

-- nor one whose groupings differ
no_grouping : (sig : Signature) (f : ℕ) (Ss : List Sorted) → IsPreregularModulo sig → IsFirstGroupingFault sig f Ss → ⊥
no_grouping sig f Ss p first =
    let (V, W, g, differ) = first.grouping.differs in
    let kinds = subst (λ Ts. AreOfKinds sig Ts (three_of first.operator)) g.sorts (entries_of_kinds sig Ss (three_of first.operator) first.grouping.entries) in
    differ (p.associative f first.operator first.is_there first.assoc g.first g.middle g.last g.front g.back V W kinds.0 kinds.1.0 kinds.1.1.0 g.front_is g.front_gives g.back_is g.back_gives)

of_entry : (sig : Signature) (S : Sorted) (K : ℕ) → IsEntry sig K S → IsOfKind sig K S
of_entry sig (sort S) K e = e
of_entry sig (kind L) K e = subst (SameKind sig L) e same

-- nor one whose identity raises a sort
no_raising : (sig : Signature) (f : ℕ) (S : Sorted) → IsPreregularModulo sig → IsFirstIdentityFault sig f S → ⊥
no_raising sig f S p first =
    let (E, is, (R, beside, not)) = first.left.raises in
    let low = p.identity f first.operator is.0 first.is_there is.1 E S R is.2 (of_entry sig S first.operator.result first.left.entry) in
    not (⊎_elim low.0 low.1 beside)

signature_holds : (line : ℕ) (sig : Signature) (r : Fault) → IsPreregularModulo sig → SignatureFault line sig r → ⊥
signature_holds line sig r p (no_least f Ss first is) = no_lack sig f Ss p first
signature_holds line sig r p (groupings f Ss first preregular is) = no_grouping sig f Ss p first
signature_holds line sig r p (identity f S first preregular alike is) = no_raising sig f S p first

-- modules are one whose parts are
same_module : (a b : Accepted) → a.name ≡ b.name → a.module.signature ≡ b.module.signature → a.module.statements ≡ b.module.statements → a.variables ≡ b.variables
    → a.own ≡ b.own → a ≡ b
same_module a b n s e v o = λ i. record { name = n i; «module» = record { signature = s i; statements = e i }; variables = v i; own = o i }

-- what declarations and statements are
module _ (name : List ℕ) (d : Declarations) (objects : Option Classes) (apart : OperatorsApart d.signature) (origins : List Origin) (written : List Sides) (a : Accepted)
    (p : IsDeclaredModule name d objects origins written a) where
  one_declared : (b : Accepted) → IsDeclaredModule name d objects origins written b → a ≡ b
  one_declared b q =
      let imported : p.imported ≡ q.imported =
      one_related (IsImported d.signature) (one_imported d.signature p.preregular.accepted apart) origins p.imported q.imported p.imported_are q.imported_are in
      let own : a.own ≡ b.own =
      one_related (IsReadAs d.signature d.variables objects) (one_statement d.signature p.preregular.accepted d.variables objects) written a.own b.own p.own_are q.own_are in
      let statements : a.module.statements ≡ b.module.statements =
      p.statements ∙ ap (λ xs. xs ++ a.own) imported ∙ ap (λ xs. q.imported ++ xs) own ∙ sym q.statements in
      same_module a b (p.named ∙ sym q.named) (p.signature ∙ sym q.signature) statements (p.variables ∙ sym q.variables) own

  statements_hold : (line : ℕ) (r : Fault) → StatementsFault line d objects origins written r → ⊥
  statements_hold line r (by_signature f) = signature_holds line d.signature r p.preregular f
  statements_hold line r (by_imported preregular f) = none_wrong (IsImported d.signature) (HasFaultAt d.signature line r)
      (λ e st is w. imported_holds d.signature p.preregular.accepted apart e st r.kind is w.0) origins p.imported p.imported_are f
  statements_hold line r (by_own imported preregular are f) = none_wrong (IsReadAs d.signature d.variables objects) (HasFault d.signature d.variables objects r)
      (λ e st is w. statement_holds d.signature p.preregular.accepted d.variables objects e st r.kind is w.0) written a.own p.own_are f

-- numbers that are all there are told by the list
same_numbers : (js ks : List ℕ) → map Some js ≡ map Some ks → js ≡ ks
same_numbers [] [] e = refl
same_numbers [] (k ∷ ks) e = cc
same_numbers (j ∷ js) [] e = cc
same_numbers (j ∷ js) (k ∷ ks) e =
    let head : j ≡ k = cc in
    let tail : map Some js ≡ map Some ks = cc in
    let rest = same_numbers js ks tail in
    cc

module _ (us : List FlatUnit) where
  one_reached : (ss : List SeenLined) (r s : List ℕ) → IsFlat us ss r → IsFlat us ss s → r ≡ s
  one_reached ss r s p q =
      p.flat ∙ ap (λ ks. firsts (flat_map (brought_by us) (first_unit us ++ ks))) (same_numbers p.numbers q.numbers (sym p.named ∙ q.named)) ∙ sym q.flat

  number_at : (is : List ImportOf) (ks : List ℕ) → map (λ (i : ImportOf). number_named us i.name) is ≡ map Some ks → (place : ℕ) (i : ImportOf) → slice_get is place ≡ Some i
      → (k : ℕ) × (number_named us i.name ≡ Some k)
  number_at [] ks e place i at = absurd (none-some i at)
  number_at (h ∷ is) [] e place i at = cc
  number_at (h ∷ is) (k ∷ ks) e zero i at =
      let item : h ≡ i = cc in
      let number : number_named us h.name ≡ Some k = cc in
      (k, ap (λ (x : ImportOf). number_named us x.name) (sym item) ∙ number)
  number_at (h ∷ is) (k ∷ ks) e (suc place) i at =
      let rest : map (λ (i : ImportOf). number_named us i.name) is ≡ map Some ks = cc in
      number_at is ks rest place i at

  module _ (own : List ℕ) (new : number_named us own ≡ None) where
    not_wrong : (i : ImportOf) (k : ℕ) → number_named us i.name ≡ Some k → (r : Fault) → IsWrong us own i r → ⊥
    not_wrong i k is r (circular e) = none-some k (sym new ∙ ap (number_named us) (sym e) ∙ is)
    not_wrong i k is r (unknown other none) = none-some k (sym none ∙ is)

    imports_hold : (ss : List SeenLined) (reached : List ℕ) (r : Fault) → IsFlat us ss reached → ImportFault us own ss r → ⊥
    imports_hold ss reached r p f =
        let k = number_at (imports_of ss) p.numbers p.named f.place f.wrong f.is_there in
        not_wrong f.wrong k.0 k.1 r f.is

module _ (us : List FlatUnit) (ms : List Accepted) (u : SeenUnit) (n r : List ℕ) (a : Accepted) (p : IsAccepted us ms u n r a) where
  same_typing : (t : Typing) → typing_of u.statements ≡ Ok t → t ≡ p.typing
  same_typing t e = let both : ◌≡◌ {A = Result Typing Fault} (Ok t) (Ok p.typing) = sym e ∙ p.flat.typed in cc

  same_reached : (t : Typing) (s : List ℕ) → IsFlattened us u t s → s ≡ r
  same_reached t s f = one_reached us u.statements s r f.flat p.flat.flat

  same_declarations : (t : Typing) (s : List ℕ) (d : Declarations) → IsFlattened us u t s → Declares (reached_of us n s) t (flattened us u s) d → d ≡ p.declarations
  same_declarations t s d f e = one_declaration (reached_of us n r) p.typing (flattened us u r) d p.declarations
      (subst (λ k. Declares (reached_of us n k) p.typing (flattened us u k) d) (same_reached t s f) (subst (λ k. Declares (reached_of us n s) k (flattened us u s) d) (same_typing t f.typed) e)) p.declared

  apart : OperatorsApart p.declarations.signature
  apart = apart_declared (reached_of us n r) p.typing (flattened us u r) p.declarations p.declared

  -- the classes of its flattened module
  same_objects : (t : Typing) (s : List ℕ) (d : Declarations) (o : Option Classes) → IsFlattened us u t s → Declares (reached_of us n s) t (flattened us u s) d → AreObjectsOf u.word d.signature (flattened us u s) o
      → o ≡ p.objects
  same_objects t s d o flat e is =
      one_objects p.declarations.signature p.holds.preregular.accepted apart u.word (flattened us u r) o p.objects
      (subst (λ k. AreObjectsOf u.word k.signature (flattened us u r) o) (same_declarations t s d flat e) (subst (λ ks. AreObjectsOf u.word d.signature (flattened us u ks) o) (same_reached t s flat) is)) p.classes

  -- a unit is one module
  one_more : (s : List ℕ) (b : Accepted) → IsAccepted us ms u n s b → (r ≡ s) × (a ≡ b)
  one_more s b q =
      let reached : s ≡ r = same_reached q.typing s q.flat in
      let d : q.declarations ≡ p.declarations = same_declarations q.typing s q.declarations q.flat q.declared in
      let o : q.objects ≡ p.objects = same_objects q.typing s q.declarations q.objects q.flat q.declared q.classes in
      let holds : IsDeclaredModule n p.declarations p.objects (origins_of ms r) (sides_of u.statements) b =
      subst (λ x. IsDeclaredModule n p.declarations x (origins_of ms r) (sides_of u.statements) b) o
      (subst (λ k. IsDeclaredModule n k q.objects (origins_of ms r) (sides_of u.statements) b) d
      (subst (λ ks. IsDeclaredModule n q.declarations q.objects (origins_of ms ks) (sides_of u.statements) b) reached q.holds)) in
      (sym reached, one_declared n p.declarations p.objects apart (origins_of ms r) (sides_of u.statements) a p.holds b holds)

  -- and then it isn't refused
  none_refused : number_named us n ≡ None → (f : Fault) → IsRefused us ms u n f → ⊥
  none_refused new f (by_variables e) = let both : ◌≡◌ {A = Result Typing Fault} (Err f) (Ok p.typing) = sym e ∙ p.flat.typed in cc
  none_refused new f (by_imports t e fault) = imports_hold us n new u.statements r f p.flat.flat fault
  none_refused new f (by_declarations t s flat fault) = none_at_fault (reached_of us n r) u.line (flattened us u r) p.typing p.declarations f p.declared
      (subst (λ ks. DeclarationFault (reached_of us n ks) u.line (flattened us u ks) f) (same_reached t s flat) fault)
  none_refused new f (by_statements t s d o flat e classes fault) =
      statements_hold n p.declarations p.objects apart (origins_of ms r) (sides_of u.statements) a p.holds u.line f
      (subst (λ x. StatementsFault u.line p.declarations x (origins_of ms r) (sides_of u.statements) f) (same_objects t s d o flat e classes)
      (subst (λ k. StatementsFault u.line k o (origins_of ms r) (sides_of u.statements) f) (same_declarations t s d flat e)
      (subst (λ ks. StatementsFault u.line d o (origins_of ms ks) (sides_of u.statements) f) (same_reached t s flat) fault)))

pub one_module : (us : List FlatUnit) (ms : List Accepted) (u : SeenUnit) (n r s : List ℕ) (a b : Accepted) → IsAccepted us ms u n r a → IsAccepted us ms u n s b → (r ≡ s) × (a ≡ b)
one_module us ms u n r s a b p q = one_more us ms u n r a p s b q

pub not_refused : (us : List FlatUnit) (ms : List Accepted) (u : SeenUnit) (n r : List ℕ) (a : Accepted) → IsAccepted us ms u n r a → number_named us n ≡ None → (f : Fault)
    → IsRefused us ms u n f → ⊥
not_refused us ms u n r a p new f refused = none_refused us ms u n r a p new f refused
