-- Statements of other modules, as they stand in a module that reaches them.
use Rattle.std.proofs.Common.{◌||◌, ℕ, List, IfOk, MatchResult, Result, Ok, Err, refl, sym, subst, ⊎_elim}
use Rattle.std.proofs.lemmas.Bool.{or_left, or_right, or_cases}
use Rattle.mw_logic.specs.Term.{RawTerm}
use Rattle.mw_logic.specs.Signature.{Signature, HasKind, of_numeral, of_quoted, of_variable, of_operator, same}
use Rattle.mw_logic.specs.Accepted.{IsAccepted}
use Rattle.mw_logic.specs.Substitution.{occurs}
use Rattle.mw_logic.specs.Preregular.{HasItsSorts, IsSortOf}
use Rattle.mw_logic.specs.Module.{Statement, Fragment}
use Rattle.mw_logic.proofs.KindLaws.{SameKind-sym}
use Rattle.mw_logic.proofs.SameConditions.{same_variable-refl}
use Rattle.mw_sorts.proofs.Connected.{there-with}
use Rattle.mw_least.specs.Conditions.{occurs_among}
use Rattle.mw_least.specs.Workable.{AreSides}
use Rattle.mw_carry.specs.Carried.{IsPart, IsSameKind, IsCarried, AreCarriedFragments}
use Rattle.mw_carry.specs.Laws.{HasSortsOf}
use Rattle.mw_carry.proofs.Numbers.{within_at}
use Rattle.mw_carry.proofs.Kept.{sort_carried, HasKind-carried, IsRawTerm-carried, sorts-carried}
use Rattle.mw_module.specs.declared.faults.FaultKind.{FaultKind}
use Rattle.mw_build.specs.Statements.{IsStatementOf, TermsFault, statement_of}
use Rattle.mw_build.specs.Imported.{Origin, HaveSortsAmong, IsNotOwise, IsImported, ImportedFault}
use Rattle.mw_build.proofs.FragmentTerms.{raws_carried, sorts_carried}
use Rattle.mw_build.proofs.Sides.{ordinary_statement}
use Rattle.mw_build.proofs.Owned.{CanStand}

-- the kind of a term whose variables have sorts that are there is there
kind_there : (sig : Signature) → HasItsSorts sig → (t : RawTerm) (K : ℕ) → HasSortsOf sig t → HasKind sig t K → IsSortOf sig K
kind_there sig numbers t K sorts (of_numeral S named nat p) = there-with sig numbers K S (SameKind-sym p) (within_at sig.sorts S _ named)
kind_there sig numbers t K sorts (of_quoted S named qid p) = there-with sig numbers K S (SameKind-sym p) (within_at sig.sorts S _ named)
kind_there sig numbers t K sorts (of_variable {x = x} p) = there-with sig numbers K x.sort (SameKind-sym p) (sorts x (same_variable-refl x))
kind_there sig numbers t K sorts (of_operator {f = f} o is p) = there-with sig numbers K o.result (SameKind-sym p) (numbers.results f o is)

pub left_sorts : (sig : Signature) (e : Statement) → AreSides sig e → HasSortsOf sig e.left
left_sorts sig e sides x h = sides.sorts x (or_left (occurs x e.left || occurs x e.right) (occurs_among x e.fragments) (or_left (occurs x e.left) (occurs x e.right) h))

pub right_sorts : (sig : Signature) (e : Statement) → AreSides sig e → HasSortsOf sig e.right
right_sorts sig e sides x h = sides.sorts x (or_left (occurs x e.left || occurs x e.right) (occurs_among x e.fragments) (or_right (occurs x e.left) (occurs x e.right) h))

pub fragments_sorts : (sig : Signature) (e : Statement) → AreSides sig e → HaveSortsAmong sig e.fragments
fragments_sorts sig e sides x h = sides.sorts x (or_right (occurs x e.left || occurs x e.right) (occurs_among x e.fragments) h)

module _ (from sig : Signature) (part : IsPart from sig) (numbers : HasItsSorts from) (ok : IsAccepted sig) where
  -- carried sides are sides
  pub sides_carried : (e st : Statement) → AreSides from e → IsCarried from sig e.left st.left → IsCarried from sig e.right st.right
      → AreCarriedFragments from sig e.fragments st.fragments → AreSides sig st
  sides_carried e st sides left right fragments = record {
    left = IsRawTerm-carried from sig part numbers ok left sides.left;
    right = IsRawTerm-carried from sig part numbers ok right sides.right;
    kinds =
        let (K, first, second) = sides.kinds in
        let (T, named) = sort_carried from sig part numbers K (kind_there from numbers e.left K (left_sorts from e sides) first) in
        let kind : IsSameKind from sig K T = record { sort = T; same = named; kind = same } in
        (T, HasKind-carried from sig part numbers ok left first kind, HasKind-carried from sig part numbers ok right second kind);
    fragments = raws_carried from sig part numbers ok e.fragments st.fragments fragments sides.fragments;
    sorts = λ x o. ⊎_elim
        (λ h. ⊎_elim (λ i. sorts-carried from sig left x i) (λ i. sorts-carried from sig right x i) (or_cases (occurs x st.left) (occurs x st.right) h))
        (λ h. sorts_carried from sig e.fragments st.fragments fragments x h)
        (or_cases (occurs x st.left || occurs x st.right) (occurs_among x st.fragments) o);
  }

pub imported_stands : (sig : Signature) (e : Origin) (st : Statement) → IsImported sig e st → CanStand sig st
imported_stands sig e st is = record { sides = is.sides; ordinary = ordinary_statement sig st.left st.right st.fragments e.statement.rule e.statement.executable st is.holds }

module _ (from sig : Signature) (part : IsPart from sig) (numbers : HasItsSorts from) (ok : IsAccepted sig) (e : Statement) (sides : AreSides from e) (ordinary : IsNotOwise e)
    (left right : RawTerm) (C : List Fragment) (first : IsCarried from sig e.left left) (second : IsCarried from sig e.right right)
    (third : AreCarriedFragments from sig e.fragments C) where
  abbrev origin : Origin
  origin = record { signature = from; statement = e }

  -- the statement of these terms stands for the one that they were carried from
  stands_for : (st : Statement) → IsStatementOf sig left right C e.rule e.executable st → IsImported sig origin st
  stands_for st is =
      let made = statement_of left right C e.rule e.executable in
      let of : IsImported sig origin made = record {
        carried = record {
          left = first;
          right = second;
          fragments = third;
          rule = refl;
          executable = refl;
          owise = sym ordinary;
        };
        holds = subst (IsStatementOf sig left right C e.rule e.executable) is.statement is;
        sides = sides_carried from sig part numbers ok e made sides first second third;
      } in
      subst (IsImported sig origin) (sym is.statement) of

  pub of_carried : {E : Type 0} (r : Result (Result Statement FaultKind) E)
      → IfOk r (λ s. MatchResult s (IsStatementOf sig left right C e.rule e.executable) (λ kind. TermsFault sig left right C e.executable kind))
      → IfOk r (λ s. MatchResult s (IsImported sig origin) (λ kind. ImportedFault sig origin kind))
  of_carried (Err x) h = h
  of_carried (Ok (Ok st)) h = stands_for st h
  of_carried (Ok (Err kind)) h = record { left = left; right = right; fragments = C; carried_left = first; carried_right = second; carried_fragments = third; fault = h }
