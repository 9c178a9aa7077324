-- Left sides that are compared: what is found is all that there is.
use Rattle.std.specs.Prelude.{◌≡◌, ◌≤◌, ℕ, List, [], length, Bool, true, false, Option, Some, IsTrue, IsFalse, slice_get, refl}
use Rattle.std.specs.List.{zip}
use Rattle.std.proofs.Common.{sym, ap, subst, ◌∙◌, arith}
use Rattle.std.proofs.lemmas.Bool.{both_ways}
use Rattle.std.proofs.lemmas.List.{length-map}
use Rattle.std.proofs.lemmas.Option.{none-some, slice_get_within}
use Rattle.mw_logic.specs.Term.{Variable, RawTerm, numeral, quoted, variable, apply, RawTerms}
use Rattle.mw_logic.specs.Terms.{args_of}
use Rattle.mw_logic.specs.Signature.{Signature, IsRawTerm}
use Rattle.mw_logic.specs.Accepted.{IsAccepted, IsWellSorted}
use Rattle.mw_logic.specs.Axioms.{done}
use Rattle.mw_logic.specs.Module.{Module, Statement, IsStatement}
use Rattle.mw_logic.specs.NormalForm.{normal_form}
use Rattle.mw_logic.specs.Parts.{nested, is_assoc}
use Rattle.mw_logic.specs.Substitution.{Substitution, IsSolution, SameSolution}
use Rattle.mw_logic.proofs.AxiomLaws.{sym as back}
use Rattle.mw_logic.proofs.Canonical.{IsCanonical, AreCanonical, assoc-true}
use Rattle.mw_logic.proofs.SolutionLaws.{solution_kept}
use Rattle.mw_canon.specs.Canonical.{meant}
use Rattle.mw_deduction.specs.Tops.{IsTop, whole, several}
use Rattle.mw_least.specs.Workable.{IsWorkable}
use Rattle.mw_position.specs.Positions.{IsNumbered, counted, counted_all, Begins}
use Rattle.mw_position.specs.Variables.{met, placed, sorts_of}
use Rattle.mw_match.proofs.Candidates.{known}
use Rattle.mw_matching.specs.Matches.{evaluated, evaluated_all, IsMatch}
use Rattle.mw_solving.specs.Values.{IsValue, AreValues, AreOfSorts}
use Rattle.mw_solving.proofs.Solving.{match_values, match_solves}
use Rattle.mw_solving.proofs.Solved.{solved_same, solved_values, solved_sorts, solved_size}
use Rattle.mw_position.proofs.Begins.{begins_same, begins_whole}
use Rattle.mw_match.specs.Matching.{Decides}
use Rattle.mw_match.specs.Straight.{AreStraight}
use Rattle.mw_search.specs.Lacking.{HaveTheirSorts, OneLacksItsSort}
use Rattle.mw_index.specs.Choices.{AreFitting, IsPlainOne, solution_of}
use Rattle.mw_index.specs.Index.{operator_of}
use Rattle.mw_index.specs.declared.oriented.Oriented.{Oriented}
use Rattle.mw_index.proofs.PlainTerms.{plain_applied, values_each}
use Rattle.mw_index.proofs.InOrder.{all_are_met}
use Rattle.mw_index.proofs.Sides.{left_raw, left_among}
use Rattle.mw_index.proofs.Staying.{free_theory, none_valued, form_equal, form_raw, form_solution, form_values, form_matches}

module _ (sig : Signature) (sorts : List ℕ) (ps ts : RawTerms) (old found : List RawTerm) (none : old ≡ []) (count : counted_all 0 ps ≡ length sorts) where
  begins : (us : List RawTerm) → Begins old us
  begins us = subst (λ vs. Begins vs us) (sym none) tt

  long : (us : List RawTerm) → length us ≡ length sorts → counted_all (length old) ps ≤ length us
  long us l = let e : counted_all (length old) ps ≡ counted_all 0 ps = ap (λ (vs : List RawTerm). counted_all (length vs) ps) none in omega (arith, e, count, l)

  pub fitting : (b : Bool) → Decides true (counted_all (length old) ps) old found (λ us. evaluated_all sig us ps ≡ ts) → length found ≡ counted_all (length old) ps
      → (IsTrue b → HaveTheirSorts sig sorts 0 found) → (IsFalse b → OneLacksItsSort sig sorts 0 found) → AreFitting sig sorts ps ts found b
  fitting b d n fits lacks = by_answer b fits lacks
    where
      size : length found ≡ length sorts
      size = n ∙ ap (λ (vs : List RawTerm). counted_all (length vs) ps) none ∙ count

      only : (us : List RawTerm) → length us ≡ length sorts → evaluated_all sig us ps ≡ ts → found ≡ us
      only us l e = begins_whole found us ((d.1 us (begins us) (long us l)).0 e) (l ∙ sym size)

      by_answer : (b : Bool) → (IsTrue b → HaveTheirSorts sig sorts 0 found) → (IsFalse b → OneLacksItsSort sig sorts 0 found) → AreFitting sig sorts ps ts found b
      by_answer true f g = (size, (d.1 found (begins found) (long found size)).1 (begins_same found), f refl, λ us l e. sym (only us l e))
      by_answer false f g = λ us l e. subst (OneLacksItsSort sig sorts 0) (only us l e) (g refl)

-- values that have sorts, as far as they can be told, have them
pub told_sorts : (sig : Signature) → IsAccepted sig → (us : List RawTerm) (Ss : List ℕ) → AreValues sig us → HaveTheirSorts sig Ss 0 us → AreOfSorts sig us Ss
told_sorts sig ok us Ss v h i u S a b = h i u (omega arith) a S b (known sig ok u (v i u a))

pub told_lack : (sig : Signature) → IsAccepted sig → (us : List RawTerm) (Ss : List ℕ) → AreValues sig us → OneLacksItsSort sig Ss 0 us → AreOfSorts sig us Ss → ⊥
told_lack sig ok us Ss v h k =
    let (S, a, none) = h.lacks in
    none (known sig ok h.value (v h.position h.value h.is)) (k h.position h.value S h.is a)

apply_same : (f g : ℕ) (ts us : RawTerms) → apply f ts ≡ apply g us → (f ≡ g) × (ts ≡ us)
apply_same f g ts us e = ((cc), (cc))

-- an operator on top stands on the arguments
pub on_top : (t : RawTerm) (f : ℕ) → operator_of t ≡ Some f → t ≡ apply f (args_of t)
on_top (numeral n) f e = absurd (none-some f e)
on_top (quoted q) f e = absurd (none-some f e)
on_top (variable x) f e = absurd (none-some f e)
on_top (apply g ts) f e = ap (λ h. apply h ts) (same_number g f e)
  where
    same_number : (g f : ℕ) → Some g ≡ Some f → g ≡ f
    same_number g f e = cc

-- without an associative operator on top there is no top part but the whole
pub no_part : (sig : Signature) (f : ℕ) (ts : RawTerms) (t w : RawTerm) → t ≡ apply f ts → is_assoc sig f ≡ false → IsTop sig t w → w ≡ t
no_part sig f ts t _ e n whole = refl
no_part sig f ts _ _ e n (several {f = g} {ts = us} a s c) =
    let k : g ≡ f = (apply_same g f us ts e).0 in
    absurd (both_ways _ n (ap (is_assoc sig) (sym k) ∙ assoc-true sig g a.operator a.is_there a.assoc))

module _ (M : Module) (ok : IsWorkable M) (top : Option ℕ) (st : Oriented) (ps : RawTerms) (one : IsPlainOne M top st ps) where
  abbrev sig : Signature
  sig = M.signature

  abbrev accepted : IsAccepted sig
  accepted = ok.signature.accepted

  abbrev fit : IsWellSorted sig
  fit = ok.signature.well_sorted

  abbrev e : Statement
  e = one.of.statement

  abbrev there : IsStatement M st.number e
  there = one.of.is_there

  abbrev raw : IsRawTerm sig e.left
  raw = left_raw M ok st.number e there

  abbrev form : RawTerm
  form = normal_form sig e.left

  abbrev lefts : List Variable
  lefts = met [] e.left

  -- the variables are met in their order
  pub in_order : lefts ≡ met [] form
  in_order =
      let numbered : IsNumbered 0 (placed lefts form) = subst (IsNumbered 0) one.left.pattern one.left.numbered in
      let count : counted 0 (placed lefts form) ≡ length lefts = ap (counted 0) (sym one.left.pattern) ∙ one.left.count in
      all_are_met lefts form (left_among M ok st.number e there) numbered count

  pub sized : length st.sorts ≡ length lefts
  sized = ap length one.of.is.sorts ∙ length-map lefts (λ (x : Variable). x.sort)

  pattern_is : placed (met [] form) form ≡ apply one.operator ps
  pattern_is = ap (λ xs. placed xs form) (sym in_order) ∙ sym one.left.pattern

  evaluated_is : (us : List RawTerm) → evaluated sig us (placed (met [] form) form) ≡ apply one.operator (evaluated_all sig us ps)
  evaluated_is us = ap (evaluated sig us) pattern_is ∙ plain_applied sig one.operator (evaluated_all sig us ps) one.left.plain

  pub are_straight : AreStraight sig ps
  are_straight = one.left.straight

  pub count_sorts : counted_all 0 ps ≡ length st.sorts
  count_sorts = one.left.count ∙ sym sized

  module _ (t : RawTerm) (v : IsValue sig t) (is : operator_of t ≡ top) where
    abbrev ts : RawTerms
    ts = args_of t

    t_is : t ≡ apply one.operator ts
    t_is = on_top t one.operator (is ∙ one.is_top)

    -- each solution for a top part comes from values that give the term
    pub solved_by : (w : RawTerm) → IsTop sig t w → (s : Substitution) → IsSolution sig e.left (nested sig w) [] s
        → (us : List RawTerm) × (length us ≡ length st.sorts) × (evaluated_all sig us ps ≡ ts) × AreValues sig us × AreOfSorts sig us st.sorts × SameSolution sig s (solution_of sig e us)
    solved_by w top_part s sol =
        let w_is : w ≡ t = no_part sig one.operator ts t w t_is one.left.plain.0 top_part in
        let sol' : IsSolution sig e.left (nested sig t) [] s = subst (λ w. IsSolution sig e.left (nested sig w) [] s) w_is sol in
        let us : List RawTerm = form_values sig accepted fit e.left raw t v s sol' in
        let k = form_solution sig accepted fit e.left raw t v s sol' in
        let r = form_raw sig accepted fit e.left raw in
        let gives : apply one.operator (evaluated_all sig us ps) ≡ apply one.operator ts = sym (evaluated_is us) ∙ (form_matches sig accepted fit e.left raw t v s sol').gives ∙ t_is in
        let size : length us ≡ length (met [] form) = solved_size sig accepted form r [] tt (none_valued sig) t v s k in
        let sorts : AreOfSorts sig us (sorts_of (met [] form)) = solved_sorts sig accepted form r [] tt (none_valued sig) t v s k in
        let same : SameSolution sig s (meant sig (zip (met [] form) us)) = solved_same sig accepted form r [] tt (none_valued sig) t v s k in (
          us,
          size ∙ ap (λ (xs : List Variable). length xs) (sym in_order) ∙ sym sized,
          (apply_same one.operator one.operator (evaluated_all sig us ps) ts gives).1,
          solved_values sig accepted form r [] tt (none_valued sig) t v s k,
          subst (AreOfSorts sig us) (ap sorts_of (sym in_order) ∙ sym one.of.is.sorts) sorts,
          subst (λ xs. SameSolution sig s (meant sig (zip xs us))) (sym in_order) same,
        )

    -- and values that give it are one where they have their sorts
    module _ (us : List RawTerm) (size : length us ≡ length st.sorts) (gives : evaluated_all sig us ps ≡ ts) where
      canonical : (i : ℕ) (u : RawTerm) → slice_get us i ≡ Some u → IsCanonical sig u
      canonical i u k =
          let w = slice_get_within us i u k in
          let c = count_sorts in
          let arguments : AreCanonical sig ts = (subst (IsCanonical sig) t_is v.canonical).0 in
          values_each sig us ps one.left.straight one.left.numbered (subst (AreCanonical sig) (sym gives) arguments) i (omega (arith, w, size, c)) u k

      match : IsMatch sig free_theory (placed (met [] form) form) t [] us
      match = record {
        begins = tt;
        size = size ∙ sym count_sorts ∙ sym (ap (counted 0) pattern_is);
        gives = evaluated_is us ∙ ap (apply one.operator) gives ∙ sym t_is;
        fits = λ i u l k. (canonical i u k, refl);
      }

      pub values_given : AreValues sig us
      values_given = match_values sig accepted form (form_raw sig accepted fit e.left raw) [] tt (none_valued sig) free_theory t v us match

      pub solution_given : AreOfSorts sig us st.sorts → IsSolution sig e.left (nested sig t) [] (solution_of sig e us)
      solution_given h =
          let sorts : AreOfSorts sig us (sorts_of (met [] form)) = subst (AreOfSorts sig us) (one.of.is.sorts ∙ ap sorts_of in_order) h in
          let k : IsSolution sig (nested sig form) (nested sig t) [] (meant sig (zip (met [] form) us)) = match_solves sig accepted form (form_raw sig accepted fit e.left raw) [] tt (none_valued sig) free_theory t v us match fit sorts in
          solution_kept sig accepted fit (back (form_equal sig accepted fit e.left raw)) done (subst (λ xs. IsSolution sig (nested sig form) (nested sig t) [] (meant sig (zip xs us))) (sym in_order) k)
