-- The values of solutions that are listed are admitted: they are parts of what was matched, or leaves.
use Rattle.std.specs.Prelude.{◌≡◌, ℕ, List, [], ◌∷◌, Bool, true, false, cond, Option, None, Some, is_some, refl}
use Rattle.std.specs.List.{All}
use Rattle.std.proofs.Common.{sym, subst, ap, ◌∙◌, ⊎_elim, true≢false}
use Rattle.std.proofs.lemmas.Bool.{both_ways}
use Rattle.mw_logic.specs.Term.{Variable, RawTerm, RawTerms, apply}
use Rattle.mw_logic.specs.Signature.{Signature, Member, IsRawTerm}
use Rattle.mw_logic.specs.Accepted.{IsAccepted, IsWellSorted}
use Rattle.mw_logic.specs.Substitution.{Substitution, same_variable, value, is_bound, IsSubstitution, IsSolution}
use Rattle.mw_logic.specs.Parts.{nested, is_assoc, IsAdmitted}
use Rattle.mw_logic.specs.NormalForm.{normal_form}
use Rattle.mw_logic.specs.CanonicalPart.{IsPartOf}
use Rattle.mw_logic.specs.CanonicalPart as part
use Rattle.mw_logic.proofs.Canonical.{assoc-true}
use Rattle.mw_logic.proofs.CanonicalTerms.{fixed}
use Rattle.mw_logic.proofs.PartsOfNormalForm.{part_found}
use Rattle.mw_logic.proofs.SameConditions.{same_variable-is, same_variable-refl}
use Rattle.mw_canon.specs.Canonical.{IsAdmittedTerm, meant}
use Rattle.mw_arguments.specs.Places.{chosen}
use Rattle.mw_deduction.proofs.NormalParts.{part_admitted}
use Rattle.mw_solving.specs.Values.{IsValue}
use Rattle.mw_solving.specs.Inside.{IsProperPart, IsSolutionOf}
use Rattle.mw_solving.proofs.Admitted.{admitted_value}
use Rattle.mw_solving.proofs.Parts.{arguments_several, arguments_are}
use Rattle.mw_solving.proofs.ProperParts.{IsChosen, part_chosen, chosen_cut}
use Rattle.mw_prooftext.proofs.AdmittedValues.{value_admitted}
use Rattle.mw_match.specs.declared.solutions.Solution.{Solution}
use Rattle.mw_match.specs.Listing.{AreListed, HaveCanonicalValues}
use Rattle.mw_match.proofs.Valued.{all_members, listed_all}
use Rattle.mw_top.specs.Matches.{HaveAdmittedValues}

module _ (sig : Signature) (ok : IsAccepted sig) (sorted : IsWellSorted sig) where
  -- what numbers take of an admitted term is admitted
  taken_admitted : (ks : List ℕ) (t w : RawTerm) → IsAdmittedTerm sig t → IsProperPart sig ks t w → IsAdmitted sig (nested sig w)
  taken_admitted ks t w a d =
      let f : ℕ = d.takes.operator in
      let args : RawTerms = d.takes.args in
      let h : is_assoc sig f ≡ true = assoc-true sig f d.takes.assoc.operator d.takes.assoc.is_there d.takes.assoc.assoc in
      let vt : IsValue sig (apply f args) = subst (IsValue sig) d.takes.term (admitted_value sig ok t a) in
      let q : IsChosen sig ok f h args ks w = part_chosen sig ok f h args ks w (subst (λ t. IsProperPart sig ks t w) d.takes.term d) in
      let cut = chosen_cut sig ok f h args ks w q (arguments_are sig ok f h args (arguments_several sig ok f h args vt) vt.canonical).order in
      let p : IsPartOf sig false (apply f args) (apply f (chosen 1 ks args)) = part.several d.takes.assoc (λ r. absurd (true≢false (sym r))) q.several cut in
      let here : IsPartOf sig false (normal_form sig (nested sig t)) w = subst (λ v. IsPartOf sig false v w) (sym (a.canonical ∙ d.takes.term)) (subst (IsPartOf sig false (apply f args)) (sym q.part) p) in
      let (C, o, is) = part_found sig ok w a.raw here in
      part_admitted sig ok C (nested sig w) a.raw a.admitted is

  -- in a substitution each pair has its variable's value
  pair_value : (s : Substitution) → IsSubstitution sig (meant sig s) → (b : Variable × RawTerm) → Member b s → value (meant sig s) b.0 ≡ Some (nested sig b.1)
  pair_value [] h b m = absurd m
  pair_value (c ∷ s) h b m =
      ⊎_elim
      (λ e. subst (λ (d : Variable × RawTerm). cond (same_variable c.0 d.0) (Some (nested sig c.1)) (value (meant sig s) d.0) ≡ Some (nested sig d.1)) e (rw (same_variable-refl c.0) refl))
      (λ n. behind (same_variable c.0 b.0) refl (pair_value s h.4 b n))
      m
    where
      behind : (d : Bool) → same_variable c.0 b.0 ≡ d → value (meant sig s) b.0 ≡ Some (nested sig b.1) → cond d (Some (nested sig c.1)) (value (meant sig s) b.0) ≡ Some (nested sig b.1)
      behind false e k = k
      behind true e k = absurd (both_ways _ h.0 (ap (is_bound (meant sig s)) (same_variable-is c.0 b.0 e) ∙ ap is_some k))

  solved_admitted : (p T : RawTerm) (s : Substitution) → IsRawTerm sig p → IsAdmitted sig T → IsSolution sig p T [] (meant sig s) → (b : Variable × RawTerm) → Member b s → IsAdmitted sig (nested sig b.1)
  solved_admitted p T s raw a sol b m =
      let k : value (meant sig s) b.0 ≡ Some (nested sig b.1) = pair_value s sol.substitution b m in
      value_admitted sig ok sorted (meant sig s) sol.substitution p T raw a sol.matches b.0 (nested sig b.1) (sym (sol.variables b.0) ∙ ap is_some k) k

  found_so : (inside : Bool) (p t : RawTerm) (take : Option (List ℕ)) (s : Substitution) → IsRawTerm sig p → IsAdmittedTerm sig t → IsSolutionOf sig inside p t [] take (meant sig s) → (b : Variable × RawTerm) → Member b s → IsAdmitted sig (nested sig b.1)
  found_so inside p t None s raw a sol b m = solved_admitted p (nested sig t) s raw a.admitted sol b m
  found_so false p t (Some ks) s raw a sol b m = absurd sol
  found_so true p t (Some ks) s raw a (w, own, sol) b m = solved_admitted p (nested sig w) s raw (taken_admitted ks t w a own) sol b m

  pub all_admitted : (inside : Bool) (p t : RawTerm) (most : ℕ) (rs : List Solution) → IsRawTerm sig p → IsAdmittedTerm sig t → AreListed sig inside p t [] most rs → HaveCanonicalValues sig rs → HaveAdmittedValues sig rs
  all_admitted inside p t most rs raw a l values =
      let P : Variable × RawTerm → Type 0 = λ b. IsAdmitted sig (nested sig b.1) in
      let admitted : All (λ (r : Solution). All P r.subst) rs = listed_all P l.found l.named rs l.by_name l.rearranged
      (λ q m. all_members P q.subst (found_so inside p t q.take q.subst raw a (l.sound q m))) in
      λ k d n i e j.
      let v = values k d n i e j in
      record { raw = v.raw; canonical = fixed sig ok _ v.canonical; admitted = admitted k d n i e j }
