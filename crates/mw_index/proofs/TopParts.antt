-- A top part of a value is the whole or a proper part, by the numbers of the arguments that it takes; and what such numbers take is a top part.
use Rattle.std.specs.Prelude.{◌≡◌, ◌≤◌, ◌<◌, ◌+◌, ◌⊎◌, ℕ, suc, List, [], Bool, true, false, Option, Some, None, refl}
use Rattle.std.proofs.Common.{inl, inr, ap, sym, subst, ◌∙◌, arith}
use Rattle.std.proofs.lemmas.Bool.{both_ways, cases_lt}
use Rattle.mw_logic.specs.Term.{RawTerm, apply, RawTerms, nil, cons, join}
use Rattle.mw_logic.specs.Terms.{front, skip}
use Rattle.mw_logic.specs.Signature.{Signature}
use Rattle.mw_logic.specs.Accepted.{IsAccepted}
use Rattle.mw_logic.specs.CanonicalPart.{AreSeveral, IsCut}
use Rattle.mw_logic.specs.Parts.{is_assoc, nested, number_of_terms}
use Rattle.mw_logic.specs.TermOrder.{sorted_terms}
use Rattle.mw_logic.specs.NormalForm.{is_comm, arranged}
use Rattle.mw_logic.specs.Substitution.{Substitution, IsSolution}
use Rattle.mw_logic.proofs.Canonical.{assoc-true}
use Rattle.mw_logic.proofs.SortLaws.{join-nil, join_assoc, sorted_terms-comm}
use Rattle.mw_logic.proofs.SortedLists.{Climbs, climbs}
use Rattle.mw_arguments.specs.Places.{chosen, Rise, numbers_of}
use Rattle.mw_arguments.proofs.ListPieces.{front_join, skip_join, number_join}
use Rattle.mw_arguments.proofs.Places.{numbers_rise, numbers_choose}
use Rattle.mw_deduction.specs.Tops.{IsTop, whole, several}
use Rattle.mw_matching.specs.Found.{numbers_from}
use Rattle.mw_matching.proofs.Multisets.{within_joined}
use Rattle.mw_solving.specs.Values.{IsValue}
use Rattle.mw_solving.specs.Inside.{IsProperPart, IsSolutionOf}
use Rattle.mw_solving.proofs.Numbers.{numbers_least, chosen_from, rise_from, follow_from}
use Rattle.mw_solving.proofs.Parts.{number_arranged, arguments_are, arguments_several}
use Rattle.mw_solving.proofs.ProperParts.{IsChosen, own_part, part_chosen, chosen_cut}
use Rattle.mw_index.specs.Choices.{IsTaken}

module _ (sig : Signature) (ok : IsAccepted sig) (f : ℕ) (h : is_assoc sig f ≡ true) (ts us : RawTerms) (s : AreSeveral us) (order : arranged (is_comm sig f) ts ≡ ts) (cut : IsCut (is_comm sig f) ts us) where
  size : number_of_terms ts ≡ number_of_terms cut.before + (number_of_terms us + number_of_terms cut.after)
  size =
      let a : number_of_terms ts ≡ number_of_terms (join cut.before (join us cut.after)) = ap number_of_terms (sym cut.whole) ∙ number_arranged (is_comm sig f) (join cut.before (join us cut.after)) in
      let b = number_join cut.before (join us cut.after) in
      let c = number_join us cut.after in
      omega (arith, a, b, c)

  -- nothing stands beside the part
  all_taken : number_of_terms ts ≤ number_of_terms us → us ≡ ts
  all_taken l =
      let n = size in
      sym cut.in_order ∙ ap (arranged (is_comm sig f)) (nothing cut.before cut.after (omega (arith, n, l)) (omega (arith, n, l))) ∙ cut.whole
    where
      nothing : (before after : RawTerms) → number_of_terms before ≡ 0 → number_of_terms after ≡ 0 → us ≡ join before (join us after)
      nothing nil nil a b = sym (join-nil us)
      nothing nil (cons t after) a b = absurd (omega (arith, b))
      nothing (cons t before) after a b = absurd (omega (arith, a))

  some_taken : number_of_terms us < number_of_terms ts → (ks : List ℕ) × IsProperPart sig ks (apply f ts) (apply f us)
  some_taken l = by_comm (is_comm sig f) refl
    where
      of_bag : is_comm sig f ≡ true → (ks : List ℕ) × IsProperPart sig ks (apply f ts) (apply f us)
      of_bag c =
          let left : RawTerms = join cut.after cut.before in
          let w : sorted_terms (join cut.before (join us cut.after)) ≡ ts = subst (λ b. arranged b (join cut.before (join us cut.after)) ≡ ts) c cut.whole in
          let part : sorted_terms (join us left) ≡ ts = ap sorted_terms (sym (join_assoc us cut.after cut.before)) ∙ sorted_terms-comm (join us cut.after) cut.before ∙ w in
          let cu : Climbs us = climbs us (subst (λ b. arranged b us ≡ us) c cut.in_order) in
          let ct : Climbs ts = climbs ts (subst (λ b. arranged b ts ≡ ts) c order) in
          let rise : Rise 1 (suc (number_of_terms ts)) (numbers_of 1 us ts) = subst (λ n. Rise 1 n (numbers_of 1 us ts)) (omega arith) (numbers_rise 1 us ts) in (
            numbers_of 1 us ts,
            own_part sig ok f h ts (numbers_of 1 us ts) us (numbers_choose 1 us ts cu ct (record { others = left; whole = part })) rise s l
                (λ n. absurd (both_ways _ n c))
                (λ _. numbers_least us ts cu ct (within_joined us left ts cu part)),
          )

      of_list : is_comm sig f ≡ false → (ks : List ℕ) × IsProperPart sig ks (apply f ts) (apply f us)
      of_list c =
          let i : ℕ = number_of_terms cut.before in
          let count : ℕ = number_of_terms us in
          let w : join cut.before (join us cut.after) ≡ ts = subst (λ b. arranged b (join cut.before (join us cut.after)) ≡ ts) c cut.whole in
          let ks : List ℕ = numbers_from (suc i) count in
          let own : chosen 1 ks ts ≡ us = chosen_from i count ts ∙ ap (λ ts. front count (skip i ts)) (sym w) ∙ ap (front count) (skip_join cut.before (join us cut.after)) ∙ front_join us cut.after in
          let n = size in (
            ks,
            own_part sig ok f h ts ks us own (rise_from 1 (suc i) count (suc (number_of_terms ts)) (omega arith) (omega (arith, n))) s l
                (λ _. follow_from (suc i) count)
                (λ d. absurd (both_ways _ c d)),
          )

      by_comm : (b : Bool) → is_comm sig f ≡ b → (ks : List ℕ) × IsProperPart sig ks (apply f ts) (apply f us)
      by_comm true c = of_bag c
      by_comm false c = of_list c

  numbered : (apply f us ≡ apply f ts) ⊎ ((ks : List ℕ) × IsProperPart sig ks (apply f ts) (apply f us))
  numbered = by_size (cases_lt (number_of_terms us) (number_of_terms ts))
    where
      by_size : (number_of_terms us < number_of_terms ts) ⊎ (number_of_terms ts ≤ number_of_terms us) → (apply f us ≡ apply f ts) ⊎ ((ks : List ℕ) × IsProperPart sig ks (apply f ts) (apply f us))
      by_size (inl l) = inr (some_taken l)
      by_size (inr l) = inl (ap (apply f) (all_taken l))

module _ (sig : Signature) (ok : IsAccepted sig) where
  -- the numbers of a top part
  pub top_numbers : (t w : RawTerm) → IsValue sig t → IsTop sig t w → (w ≡ t) ⊎ ((ks : List ℕ) × IsProperPart sig ks t w)
  top_numbers t _ v whole = inl refl
  top_numbers _ _ v (several {f} {ts} {us} a s cut) =
      let h : is_assoc sig f ≡ true = assoc-true sig f a.operator a.is_there a.assoc in
      let args : AreSeveral ts = arguments_several sig ok f h ts v in
      numbered sig ok f h ts us s (arguments_are sig ok f h ts args v.canonical).order cut

  -- a solution for it is one for the whole or for the proper part
  pub top_solution : (p t w : RawTerm) → IsValue sig t → IsTop sig t w → (s : Substitution) → IsSolution sig p (nested sig w) [] s → (ks : Option (List ℕ)) × IsSolutionOf sig true p t [] ks s
  top_solution p t w v top s sol = by_part (top_numbers t w v top)
    where
      by_part : (w ≡ t) ⊎ ((ks : List ℕ) × IsProperPart sig ks t w) → (ks : Option (List ℕ)) × IsSolutionOf sig true p t [] ks s
      by_part (inl e) = (None, subst (λ w. IsSolution sig p (nested sig w) [] s) e sol)
      by_part (inr (ks, part)) = (Some ks, (w, part, sol))

  -- what is taken is a top part
  pub taken_top : (take : Option (List ℕ)) (t w : RawTerm) → IsValue sig t → IsTaken sig take t w → IsTop sig t w
  taken_top None t w v e = subst (IsTop sig t) (sym e) whole
  taken_top (Some ks) t w v d =
      let f : ℕ = d.takes.operator in
      let ts : RawTerms = d.takes.args in
      let h : is_assoc sig f ≡ true = assoc-true sig f d.takes.assoc.operator d.takes.assoc.is_there d.takes.assoc.assoc in
      let vt : IsValue sig (apply f ts) = subst (IsValue sig) d.takes.term v in
      let args : AreSeveral ts = arguments_several sig ok f h ts vt in
      let q : IsChosen sig ok f h ts ks w = part_chosen sig ok f h ts ks w (subst (λ t. IsProperPart sig ks t w) d.takes.term d) in
      let cut = chosen_cut sig ok f h ts ks w q (arguments_are sig ok f h ts args vt.canonical).order in
      subst (λ t. IsTop sig t w) (sym d.takes.term) (subst (IsTop sig (apply f ts)) (sym q.part) (several d.takes.assoc q.several cut))
