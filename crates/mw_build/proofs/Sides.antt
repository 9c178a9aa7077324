-- Sides of statements: canonical forms tell which are lone, and a module of them is one that contexts hold.
use Rattle.std.proofs.Common.{◌≡◌, ◌∙◌, ◌||◌, ℕ, zero, suc, List, [], ◌∷◌, Bool, true, false, slice_get, All, Option, Some, None, IsTrue, Result, Ok, Err, IfOk, MatchOption, refl, sym, ap, subst, ⊎_elim}
use Rattle.std.specs.Prelude.{⊤}
use Rattle.std.proofs.lemmas.Bool.{or_cases}
use Rattle.std.proofs.lemmas.List.Elements.{All-nil, All-cons}
use Rattle.mw_logic.specs.Term.{Variable, RawTerm, numeral, quoted, variable, apply, RawTerms, nil, cons}
use Rattle.mw_logic.specs.Signature.{Signature, Operator, Member, at_number, IsRawTerm, a_variable, an_operator, AreRawTerms, end, next}
use Rattle.mw_logic.specs.Accepted.{IsAccepted}
use Rattle.mw_logic.specs.Substitution.{occurs}
use Rattle.mw_logic.specs.Preregular.{IsSortOf, HasItsSorts}
use Rattle.mw_logic.specs.Parts.{is_assoc, nested, all_nested, nest}
use Rattle.mw_logic.specs.NormalForm.{normal_form}
use Rattle.mw_logic.specs.Module.{Module, Statement, Fragment, IsStatement}
use Rattle.mw_logic.proofs.Canonical.{assoc_operator, same_operator}
use Rattle.mw_logic.proofs.EqualByNormalForm.{equal_by_normal_form}
use Rattle.mw_term.specs.declared.raw.Raw.{Raw}
use denote.Ref.{Bor}
use Rattle.mw_term.specs.declared.term.View.{View}
use Rattle.mw_term.specs.declared.term.View.TheVariants as seen
use Rattle.mw_term.specs.Shapes.{viewed}
use Rattle.mw_term.specs.Raws.{raw_term}
use Rattle.mw_position.specs.Variables.{met}
use Rattle.mw_sorting.specs.PreregularModulo.{IsPreregularModulo}
use Rattle.mw_logic.specs.Built.{HasBuiltIns}
use Rattle.mw_least.specs.Conditions.{met_fragments, occurs_among}
use Rattle.mw_least.specs.Workable.{AreSides, IsOrdinary, IsWorkable}
use Rattle.mw_text.specs.Mixfix.{Reads, Spells}
use Rattle.mw_text.specs.Readings.{ReadsPair}
use Rattle.mw_text.proofs.RawTerms.{spelled_raw}
use Rattle.mw_text.proofs.SpelledVariables.{spelled_variables}
use Rattle.mw_carry.specs.Laws.{HasSortsOf}
use Rattle.std.specs.Prelude.{IfSome}
use Rattle.mw_omod.specs.declared.classes.Classes.{Classes}
use Rattle.mw_omod.specs.Workable.{AreClasses}
use Rattle.mw_build.proofs.Owned.{CanStand, own_stands}
use Rattle.mw_build.specs.Sides.{Sides}
use Rattle.mw_build.specs.Fragments.{IsFragment, an_equation, a_match, a_test, a_truth}
use Rattle.mw_build.specs.Imported.{HaveSortsAmong, IsNotOwise}
use Rattle.mw_build.proofs.Bound.{right_bound, fragments_bound}
use Rattle.mw_build.proofs.Pairwise.{all_read}
use Rattle.mw_build.proofs.FragmentTerms.{fragments_raw, sorts_all, one_sorted, two_sorted}
use Rattle.mw_carry.proofs.Numbers.{within_at}
use Rattle.mw_module.specs.Conditions.{WrittenFragment}
use Rattle.mw_module.specs.declared.faults.FaultKind.{FaultKind}
use Rattle.mw_build.specs.Statements.{all_terms, FitsIn, IsLone, statement_of, IsApplicable, ApplicationFault, AreFine, TermsFault, inapplicable, IsStatementOf, IsReadAs}

pub made : (left right : RawTerm) (rule executable : Bool) (C fragments : List Fragment) (variables : List Variable) → fragments ≡ C → variables ≡ met_fragments (met (met [] left) right) C
    → record { left = left; right = right; fragments = fragments; variables = variables; rule = rule; executable = executable; owise = false } ≡ statement_of left right C rule executable
made left right rule executable C fragments variables e h = rw (e, h) refl

-- an associative operator of a raw term has two arguments, so the term is its own nesting
module _ (sig : Signature) (ok : IsAccepted sig) where
  two_nested : (f K L : ℕ) (ts : RawTerms) → AreRawTerms sig ts (K ∷ L ∷ []) → nest true f ts ≡ apply f ts
  two_nested f K L (cons t (cons u nil)) (next r h (next s i end)) = refl
  two_nested f K L nil raw = elim raw [ ]
  two_nested f K L (cons t nil) (next r h rest) = elim rest [ ]
  two_nested f K L (cons t (cons u (cons v vs))) (next r h (next s i rest)) = elim rest [ ]

  mutual
    pub nested_is : (t : RawTerm) → IsRawTerm sig t → nested sig t ≡ t
    nested_is (numeral n) raw = refl
    nested_is (quoted q) raw = refl
    nested_is (variable x) raw = refl
    nested_is (apply f ts) (an_operator o is args) = ap (nest (is_assoc sig f) f) (all_nested_are ts o.args args) ∙ by_assoc (is_assoc sig f) refl
      where
        by_assoc : (b : Bool) → is_assoc sig f ≡ b → nest b f ts ≡ apply f ts
        by_assoc false e = refl
        by_assoc true e =
            let (p, there, a) = assoc_operator sig f e in
            let (K, L, two, k, l) = ok.assoc f p there a in
            two_nested f K L ts (subst (AreRawTerms sig ts) two (subst (λ (q : Operator). AreRawTerms sig ts q.args) (same_operator sig f o p is there) args))

    all_nested_are : (ts : RawTerms) (Ks : List ℕ) → AreRawTerms sig ts Ks → all_nested sig ts ≡ ts
    all_nested_are nil Ks raw = refl
    all_nested_are (cons t ts) Ks (next {Ks = Ls} r h rest) = ap (λ u. cons u (all_nested sig ts)) (nested_is t r) ∙ ap (cons t) (all_nested_are ts Ls rest)

  -- a term is lone where its normal form is a variable
  pub is_lone : (t : RawTerm) → IsRawTerm sig t → (x : Variable) → normal_form sig t ≡ variable x → IsLone sig t
  is_lone t raw x e = (x, (equal_by_normal_form sig ok raw a_variable).1 e)

  pub not_lone : (t : RawTerm) → IsRawTerm sig t → ((x : Variable) → normal_form sig t ≡ variable x → ⊥) → IsLone sig t → ⊥
  not_lone t raw none (x, e) = none x ((equal_by_normal_form sig ok raw a_variable).0 e)

-- what isn't seen as a variable is none
pub not_variable : (v : View) → ((x : Bor Variable) → v ≡ seen.Var x → ⊥) → (y : Variable) → viewed v ≡ variable y → ⊥
not_variable (seen.Nat n) h y e = cc
not_variable (seen.Qid q) h y e = cc
not_variable (seen.Var x) h y e = h x refl
not_variable (seen.Op f ts) h y e = cc

-- what is known of the terms of a statement
module _ (sig : Signature) (left right : RawTerm) (C : List Fragment) (executable : Bool) where
  pub applied_so : {E : Type 0} → All (FitsIn sig) (all_terms left right C) → IsTrue executable → (r : Result (Option FaultKind) E)
      → IfOk r (λ o. MatchOption o (IsApplicable sig left right C) (λ kind. ApplicationFault sig left right C kind))
      → IfOk r (λ o. MatchOption o (AreFine sig left right C executable) (λ kind. TermsFault sig left right C executable kind))
  applied_so fit x (Ok None) h = record { fit = fit; applicable = λ y. h }
  applied_so fit x (Ok (Some kind)) h = inapplicable fit x h
  applied_so fit x (Err e) h = tt

  pub fine_so : (o : Option FaultKind) → MatchOption o (AreFine sig left right C executable) (λ kind. TermsFault sig left right C executable kind) → ((x : FaultKind) → o ≡ Some x → ⊥)
      → AreFine sig left right C executable
  fine_so None h n = h
  fine_so (Some x) h n = absurd (n x refl)

-- a statement that can be applied is one that contexts hold
pub ordinary_statement : (sig : Signature) (left right : RawTerm) (C : List Fragment) (rule executable : Bool) (st : Statement) → IsStatementOf sig left right C rule executable st → IsTrue st.executable
    → IsOrdinary sig st
ordinary_statement sig left right C rule executable st is h = subst (IsOrdinary sig) (sym is.statement) (record {
  ordinary = refl;
  not_lone = λ x k. applicable.not_lone (x, k);
  variables = refl;
  bound = right_bound left right C applicable.bound;
  bound_in_turn = fragments_bound left right C applicable.bound;
})
  where
    applicable : IsApplicable sig left right C
    applicable = is.holds.applicable (sym (ap (λ (s : Statement). s.executable) is.statement) ∙ h)

-- and in any case none that is `owise`
pub not_owise : (sig : Signature) (left right : RawTerm) (C : List Fragment) (rule executable : Bool) (st : Statement) → IsStatementOf sig left right C rule executable st → IsNotOwise st
not_owise sig left right C rule executable st is = ap (λ (s : Statement). s.owise) is.statement

module _ (sig : Signature) (ok : IsPreregularModulo sig) (variables : List Variable) (sorted : (x : Variable) → Member x variables → IsSortOf sig x.sort) where
  -- the sorts of what tokens spell are there
  sorts_there : {t : RawTerm} {p : ℕ} {text : List (List ℕ)} → Spells sig variables t p text → HasSortsOf sig t
  sorts_there s = spelled_variables sig variables (λ (x : Variable). IsSortOf sig x.sort) (λ w. ⊤) sorted (λ x S n v h. within_at sig.sorts x.sort S n) s (λ w m. tt)

  fragment_sorts : (w : WrittenFragment) (f : Fragment) → IsFragment sig variables w f → HaveSortsAmong sig (f ∷ [])
  fragment_sorts w f (an_equation left right u v r) = two_sorted sig u v (sorts_there r.only.0.first.spells) (sorts_there r.only.0.second.spells)
  fragment_sorts w f (a_match pattern term p t r) = two_sorted sig p t (sorts_there r.only.0.first.spells) (sorts_there r.only.0.second.spells)
  fragment_sorts w f (a_test ts term S t is r) = one_sorted sig t (sorts_there r.spelled.spells)
  fragment_sorts w f (a_truth ts B b not is r) = one_sorted sig b (sorts_there r.spelled.spells)

  -- the sides and fragments of a statement are those that its texts spell
  pub read_stands : (objects : Option Classes) → IfSome objects (AreClasses sig) → (e : Sides) (st : Statement) → IsReadAs sig variables objects e st → CanStand sig st
  read_stands objects classes e st is =
      let first = is.read.only.0.first.spells in
      let second = is.read.only.0.second.spells in
      let C = is.condition in
      let sides : AreSides sig (statement_of is.left is.right C e.rule e.executable) = record {
        left = spelled_raw sig ok.accepted variables first;
        right = spelled_raw sig ok.accepted variables second;
        kinds = (is.read.only.0.kind, is.read.only.0.of_first, is.read.only.0.of_second);
        fragments = fragments_raw sig ok.accepted variables e.fragments C is.fragments;
        sorts = all_sorts is.left is.right C (sorts_there first) (sorts_there second)
            (sorts_all sig C (all_read (IsFragment sig variables) (λ f. HaveSortsAmong sig (f ∷ [])) fragment_sorts e.fragments C is.fragments));
      } in
      own_stands sig ok.accepted objects classes (statement_of is.left is.right C e.rule e.executable) st is.holds sides refl refl
    where
      all_sorts : (left right : RawTerm) (C : List Fragment) → HasSortsOf sig left → HasSortsOf sig right → HaveSortsAmong sig C
          → (x : Variable) → IsTrue ((occurs x left || occurs x right) || occurs_among x C) → IsSortOf sig x.sort
      all_sorts left right C l r c x o =
          ⊎_elim (λ h. ⊎_elim (λ i. l x i) (λ i. r x i) (or_cases (occurs x left) (occurs x right) h)) (λ h. c x h) (or_cases (occurs x left || occurs x right) (occurs_among x C) o)

-- a module of statements that can stand in a context
pub workable_module : (sig : Signature) → IsPreregularModulo sig → HasItsSorts sig → HasBuiltIns sig → (sts : List Statement)
    → ((i : ℕ) (st : Statement) → slice_get sts i ≡ Some st → CanStand sig st) → IsWorkable (record { signature = sig; statements = sts })
workable_module sig ok numbers built sts all = record { signature = ok; numbers = numbers; built = built; sides = all_sides; statements = at_each }
  where
    all_sides : (k : ℕ) (st : Statement) → at_number sts k ≡ Some st → AreSides sig st
    all_sides zero st is = cc
    all_sides (suc i) st is = (all i st is).sides

    at_each : (k : ℕ) (st : Statement) → IsStatement (record { signature = sig; statements = sts }) k st → IsOrdinary sig st
    at_each zero st is = let h = is.is_there in cc
    at_each (suc i) st is = (all i st is.is_there).ordinary is.executable

-- the sides of all statements of a module that contexts hold
pub sides_at_all : (M : Module) → IsWorkable M → All (AreSides M.signature) M.statements
sides_at_all M h = at_places M.statements (λ i st is. h.sides (suc i) st is)
  where
    at_places : (xs : List Statement) → ((i : ℕ) (x : Statement) → slice_get xs i ≡ Some x → AreSides M.signature x) → All (AreSides M.signature) xs
    at_places [] h = All-nil (AreSides M.signature)
    at_places (x ∷ xs) h = All-cons (AreSides M.signature) x xs (h zero x refl) (at_places xs (λ i y e. h (suc i) y e))

-- what a text is read as is a term of the signature
pub raw_read : {E : Type 0} (sig : Signature) (variables : List Variable) (words : List (List ℕ)) → IsAccepted sig → (r : Result Raw E)
    → IfOk r (λ t. Reads sig variables None words (raw_term t)) → IfOk r (λ t. IsRawTerm sig (raw_term t))
raw_read sig variables words ok (Ok t) h = spelled_raw sig ok variables h.spelled.spells
raw_read sig variables words ok (Err e) h = tt

-- and so are those of a pair
pub raw_pair : {E : Type 0} (sig : Signature) (variables : List Variable) (left right : List (List ℕ)) → IsAccepted sig → (r : Result (Raw × Raw) E)
    → IfOk r (λ p. ReadsPair sig variables left right (raw_term p.0, raw_term p.1)) → IfOk r (λ p. IsRawTerm sig (raw_term p.0) × IsRawTerm sig (raw_term p.1))
raw_pair sig variables left right ok (Ok p) h = (spelled_raw sig ok variables h.only.0.first.spells, spelled_raw sig ok variables h.only.0.second.spells)
raw_pair sig variables left right ok (Err e) h = tt
