-- Values of a statement's variables, in their order.
use Rattle.std.specs.Prelude.{◌≡◌, ◌↔◌, ◌&&◌, ℕ, zero, suc, List, [], ◌∷◌, length, map, Bool, true, false, ◌||◌, slice_get, IsTrue, IsFalse, refl}
use Rattle.std.specs.List.{zip}
use Rattle.std.proofs.Common.{sym, subst, ap, ◌∙◌, arith}
use Rattle.std.proofs.lemmas.Bool.{and_from, or_left, or_right}
use Rattle.std.proofs.lemmas.List.{length-map}
use Rattle.std.proofs.lemmas.Option.{none-some, same_Some}
use Rattle.mw_logic.specs.Term.{Variable, RawTerm, RawTerms, numeral, quoted, variable, apply, nil, cons}
use Rattle.mw_logic.specs.Signature.{Signature}
use Rattle.mw_logic.specs.Accepted.{IsAccepted}
use Rattle.mw_logic.specs.Substitution.{Substitution, is_bound, binds, binds_all, IsSubstitution, occurs, occurs_in}
use Rattle.mw_logic.specs.Parts.{nested}
use Rattle.mw_logic.specs.Module.{Fragment, equal, matches, has_sort, is_true, Statement, Module, IsStatement, binds_fragments, binds_statement}
use Rattle.mw_logic.specs.Confluence.{HasOnly}
use Rattle.mw_logic.proofs.SameConditions.{same_variable-refl}
use Rattle.mw_canon.specs.Canonical.{HasAdmittedValues}
use Rattle.mw_position.specs.Variables.{is_in, AreDistinct, sorts_of, bound_variables, bound_values}
use Rattle.mw_position.proofs.Placing.{bound_zip}
use Rattle.mw_solving.specs.Values.{IsValue, AreValues, AreOfSorts}
use Rattle.mw_solving.proofs.Candidates.{variables_zipped, values_zipped}
use Rattle.mw_solving.proofs.Admitted.{admitted_value}
use Rattle.mw_solving.proofs.Positions.{meant_zip, zip_substitution, values_sorted}
use Rattle.mw_search.specs.Lacking.{HaveTheirSorts, OneLacksItsSort}
use Rattle.mw_match.proofs.Candidates.{known}
use Rattle.mw_least.specs.Conditions.{mentioned, occurs_among}
use Rattle.mw_least.specs.Workable.{IsWorkable}
use Rattle.mw_least.proofs.Mentioned.{mentioned_distinct, is_mentioned}
use Rattle.mw_check.specs.Answers.{AreAdmittedTerms, values_by_name}

-- admitted terms, by name
pub admitted_by_name : (sig : Signature) (xs : List Variable) (vs : List RawTerm) → AreAdmittedTerms sig vs → HasAdmittedValues sig (zip xs vs)
admitted_by_name sig [] vs h = tt
admitted_by_name sig (x ∷ xs) [] h = tt
admitted_by_name sig (x ∷ xs) (v ∷ vs) h = (h.0, admitted_by_name sig xs vs h.1)

-- they are values of which the sorts can be told
module _ (sig : Signature) (ok : IsAccepted sig) where
  are_values : (vs : List RawTerm) → AreAdmittedTerms sig vs → AreValues sig vs
  are_values [] h i u e = absurd (none-some u e)
  are_values (v ∷ vs) h zero u e = subst (IsValue sig) (same_Some v u e) (admitted_value sig ok v h.0)
  are_values (v ∷ vs) h (suc i) u e = are_values vs h.1 i u e

  module _ (xs : List Variable) (vs : List RawTerm) (size : length vs ≡ length xs) (all : AreAdmittedTerms sig vs) (sorts : List ℕ) (are : sorts ≡ sorts_of xs) where
    sorted_values : AreDistinct xs → HaveTheirSorts sig sorts 0 vs → IsSubstitution sig (values_by_name sig xs vs)
    sorted_values distinct h =
        let of_sorts : AreOfSorts sig vs (sorts_of xs) = λ i u S e k. h i u (omega arith) e S (ap (λ Ss. slice_get Ss i) are ∙ k) (known sig ok u (are_values vs all i u e)) in
        subst (IsSubstitution sig) (meant_zip sig xs vs) (zip_substitution sig xs vs distinct size (are_values vs all) of_sorts)

    unsorted_values : OneLacksItsSort sig sorts 0 vs → IsSubstitution sig (values_by_name sig xs vs) → ⊥
    unsorted_values h is =
        let named : AreOfSorts sig (bound_values (zip xs vs)) (sorts_of (bound_variables (zip xs vs))) = values_sorted sig (zip xs vs) (subst (IsSubstitution sig) (sym (meant_zip sig xs vs)) is) in
        let of_sorts : AreOfSorts sig vs (sorts_of xs) =
        subst (λ ys. AreOfSorts sig vs (sorts_of ys)) (variables_zipped xs vs size) (subst (λ us. AreOfSorts sig us (sorts_of (bound_variables (zip xs vs)))) (values_zipped xs vs size) named) in
        let (S, there, lacks) = h.lacks in
        lacks (known sig ok h.value (are_values vs all h.position h.value h.is)) (of_sorts h.position h.value S h.is (sym (ap (λ Ss. slice_get Ss h.position) are) ∙ there))

    pub sorts_told : (b : Bool) → AreDistinct xs → (IsTrue b → HaveTheirSorts sig sorts 0 vs) → (IsFalse b → OneLacksItsSort sig sorts 0 vs) → (IsTrue b ↔ IsSubstitution sig (values_by_name sig xs vs))
    sorts_told true distinct fits lacks = (λ h. sorted_values distinct (fits h), λ is. refl)
    sorts_told false distinct fits lacks = (λ h. sorted_values distinct (fits h), λ is. absurd (unsorted_values (lacks refl) is))

-- what is bound one by one is bound in all
mutual
  binds_all_of : (s : Substitution) (t : RawTerm) → HasOnly (is_bound s) t → IsTrue (binds s t)
  binds_all_of s (numeral n) h = refl
  binds_all_of s (quoted q) h = refl
  binds_all_of s (variable x) h = h x (same_variable-refl x)
  binds_all_of s (apply f ts) h = binds_each_of s ts h

  binds_each_of : (s : Substitution) (ts : RawTerms) → ((x : Variable) → IsTrue (occurs_in x ts) → IsTrue (is_bound s x)) → IsTrue (binds_all s ts)
  binds_each_of s nil h = refl
  binds_each_of s (cons t ts) h =
      and_from (binds s t) (binds_all s ts) (binds_all_of s t (λ x o. h x (or_left (occurs x t) (occurs_in x ts) o))) (binds_each_of s ts (λ x o. h x (or_right (occurs x t) (occurs_in x ts) o)))

binds_two : (s : Substitution) (u v : RawTerm) → ((x : Variable) → IsTrue (occurs x u || occurs x v) → IsTrue (is_bound s x)) → IsTrue (binds s u && binds s v)
binds_two s u v h = and_from (binds s u) (binds s v) (binds_all_of s u (λ x o. h x (or_left (occurs x u) (occurs x v) o))) (binds_all_of s v (λ x o. h x (or_right (occurs x u) (occurs x v) o)))

-- so it is in a condition
binds_condition : (s : Substitution) (C : List Fragment) → ((x : Variable) → IsTrue (occurs_among x C) → IsTrue (is_bound s x)) → IsTrue (binds_fragments s C)
binds_condition s [] h = refl
binds_condition s (equal u v ∷ C) h =
    and_from (binds s u && binds s v) (binds_fragments s C) (binds_two s u v (λ x o. h x (or_left (occurs x u || occurs x v) (occurs_among x C) o)))
    (binds_condition s C (λ x o. h x (or_right (occurs x u || occurs x v) (occurs_among x C) o)))
binds_condition s (matches p t ∷ C) h =
    and_from (binds s p && binds s t) (binds_fragments s C) (binds_two s p t (λ x o. h x (or_left (occurs x p || occurs x t) (occurs_among x C) o)))
    (binds_condition s C (λ x o. h x (or_right (occurs x p || occurs x t) (occurs_among x C) o)))
binds_condition s (has_sort t S ∷ C) h =
    and_from (binds s t) (binds_fragments s C) (binds_all_of s t (λ x o. h x (or_left (occurs x t) (occurs_among x C) o))) (binds_condition s C (λ x o. h x (or_right (occurs x t) (occurs_among x C) o)))
binds_condition s (is_true t ∷ C) h =
    and_from (binds s t) (binds_fragments s C) (binds_all_of s t (λ x o. h x (or_left (occurs x t) (occurs_among x C) o))) (binds_condition s C (λ x o. h x (or_right (occurs x t) (occurs_among x C) o)))

-- A statement that is executable has each of its variables once, and as many values bind them all.
module _ (M : Module) (work : IsWorkable M) (k : ℕ) (st : Statement) (is : IsStatement M k st) where
  variables_are : st.variables ≡ mentioned st
  variables_are = (work.statements k st is).variables

  pub distinct : AreDistinct st.variables
  distinct = subst AreDistinct (sym variables_are) (mentioned_distinct st)

  pub all_bound : (vs : List RawTerm) → length vs ≡ length st.variables → IsTrue (binds_statement (values_by_name M.signature st.variables vs) st)
  all_bound vs size =
      and_from (binds s st.left && binds s st.right) (binds_fragments s st.fragments)
      (binds_two s st.left st.right (λ x o. bound x (or_left (occurs x st.left || occurs x st.right) (occurs_among x st.fragments) o)))
      (binds_condition s st.fragments (λ x o. bound x (or_right (occurs x st.left || occurs x st.right) (occurs_among x st.fragments) o)))
    where
      s : Substitution
      s = values_by_name M.signature st.variables vs

      bound : (x : Variable) → IsTrue ((occurs x st.left || occurs x st.right) || occurs_among x st.fragments) → IsTrue (is_bound s x)
      bound x o = bound_zip st.variables (map (nested M.signature) vs) x (length-map vs (nested M.signature) ∙ size) ∙ ap (is_in x) variables_are ∙ is_mentioned st x ∙ o
