-- The values of a pattern have their variables' kinds where the term has the pattern's kind.
use Rattle.std.specs.Prelude.{◌≡◌, ℕ, List, Bool, true, false, cond, nat_eq, Some, IsTrue, refl, slice_get}
use Rattle.std.proofs.Common.{subst, ⊎_elim}
use Rattle.std.proofs.lemmas.Bool.{both_ways, or_cases}
use Rattle.mw_logic.specs.Term.{Variable, RawTerm, numeral, quoted, variable, apply, RawTerms, nil, cons}
use Rattle.mw_logic.specs.Signature.{Signature, SameKind, same, HasKind, of_variable, of_operator, IsRawTerm, AreRawTerms, next}
use Rattle.mw_logic.specs.Accepted.{IsAccepted}
use Rattle.mw_logic.specs.Parts.{is_assoc, nested, all_nested, nest}
use Rattle.mw_logic.specs.NormalForm.{applied_in}
use Rattle.mw_logic.specs.Substitution.{occurs, occurs_in}
use Rattle.mw_logic.proofs.Canonical.{Each, IsCanonical, assoc_operator, nat_eq-refl}
use Rattle.mw_logic.proofs.Invariance.{elements_kept}
use Rattle.mw_logic.proofs.KindLaws.{SameKind-sym}
use Rattle.mw_logic.proofs.RawArguments.{IsTermOf, own_terms, arguments_of_kind}
use Rattle.mw_logic.proofs.RawKept.{kind_unique}
use Rattle.mw_logic.proofs.SameConditions.{same_variable-is}
use Rattle.mw_logic.proofs.SortLaws.{join-nil}
use Rattle.mw_logic.proofs.Soundness.{HasKind-same}
use Rattle.mw_position.specs.Variables.{placed, all_placed}
use Rattle.mw_matching.specs.Matches.{evaluated, evaluated_all}
use Rattle.mw_solving.proofs.RawValues.{plain_values, all_evaluated_canonical}

module _ (sig : Signature) (ok : IsAccepted sig) (xs : List Variable) (us : List RawTerm) (good : (i : ℕ) (u : RawTerm) → slice_get us i ≡ Some u → IsCanonical sig u) where
  -- each pattern and what it becomes are of one kind
  abbrev ArePaired : RawTerms → Type 0
  ArePaired nil = Unit {0}
  ArePaired (cons p ps) = ((K : ℕ) × IsTermOf sig K p × IsTermOf sig K (evaluated sig us (placed xs p))) × ArePaired ps

  paired_arguments : {Ks : List ℕ} (ps : RawTerms) → AreRawTerms sig (all_nested sig ps) Ks → AreRawTerms sig (all_nested sig (evaluated_all sig us (all_placed xs ps))) Ks → ArePaired ps
  paired_arguments nil a b = tt
  paired_arguments (cons p ps) (next {K} r k rest) (next s l more) = ((K, (r, k), (s, l)), paired_arguments ps rest more)

  paired_elements : (K : ℕ) (ps : RawTerms) → Each (IsTermOf sig K) ps → Each (IsTermOf sig K) (evaluated_all sig us (all_placed xs ps)) → ArePaired ps
  paired_elements K nil a b = tt
  paired_elements K (cons p ps) a b = ((K, a.0, b.0), paired_elements K ps a.1 b.1)

  variable_kind : {y : Variable} {K : ℕ} → HasKind sig (variable y) K → SameKind sig y.sort K
  variable_kind (of_variable k) = k

  -- an associative operator over one argument is that argument
  one_argument : (f : ℕ) → is_assoc sig f ≡ true → (p : RawTerm) → applied_in sig f (evaluated_all sig us (all_placed xs (cons p nil))) ≡ evaluated sig us (placed xs p)
  one_argument f h p =
      let v : RawTerm = evaluated sig us (placed xs p) in
      let k : IsCanonical sig v = (all_evaluated_canonical sig ok us good (all_placed xs (cons p nil))).0 in
      rw (h, join-nil) (elements_kept sig ok f h v k)

  paired_nested : (f : ℕ) → is_assoc sig f ≡ true → (p : RawTerm) (ps : RawTerms) (K : ℕ) → IsTermOf sig K (apply f (cons p ps)) → IsTermOf sig K (evaluated sig us (placed xs (apply f (cons p ps)))) → ArePaired (cons p ps)
  paired_nested f h p nil K r s = ((K, subst (λ b. IsRawTerm sig (nest b f (all_nested sig (cons p nil))) × HasKind sig (nest b f (all_nested sig (cons p nil))) K) h r, subst (IsTermOf sig K) (one_argument f h p) s), tt)
  paired_nested f h p (cons q qs) K r s =
      let (o, is, a) = assoc_operator sig f h in
      let top : HasKind sig (nested sig (apply f (cons p (cons q qs)))) o.result = rw h (of_operator o is same) in
      let k : SameKind sig K o.result = kind_unique sig ok r.1 top in
      let ps : RawTerms = cons p (cons q qs) in
      let own : Each (IsTermOf sig o.result) (cond (nat_eq f f) ps (cons (apply f ps) nil)) = own_terms sig ok f o is h (apply f ps) (r.0, top) in
      paired_elements o.result ps (subst (λ b. Each (IsTermOf sig o.result) (cond b ps (cons (apply f ps) nil))) (nat_eq-refl f) own)
      (arguments_of_kind sig ok f o is h (evaluated sig us (placed xs p)) (evaluated_all sig us (all_placed xs (cons q qs))) (all_evaluated_canonical sig ok us good (all_placed xs ps)) (s.0, HasKind-same s.1 k))

  mutual
    pub value_kind : (p : RawTerm) (K : ℕ) → IsTermOf sig K p → IsTermOf sig K (evaluated sig us (placed xs p)) → (x : Variable) → IsTrue (occurs x p) → IsTermOf sig x.sort (evaluated sig us (placed xs (variable x)))
    value_kind (numeral n) K r s x o = absurd (both_ways _ refl o)
    value_kind (quoted q) K r s x o = absurd (both_ways _ refl o)
    value_kind (variable y) K r s x o =
        subst (λ (z : Variable). IsTermOf sig z.sort (evaluated sig us (placed xs (variable z)))) (same_variable-is y x o) (s.0, HasKind-same s.1 (SameKind-sym (variable_kind r.1)))
    value_kind (apply f ps) K r s x o = by_assoc (is_assoc sig f) refl (λ a. values_kind ps a x o)
      where
        by_list : is_assoc sig f ≡ true → (ps : RawTerms) → IsTermOf sig K (apply f ps) → IsTermOf sig K (evaluated sig us (placed xs (apply f ps))) → ArePaired ps
        by_list h nil r s = tt
        by_list h (cons p ps) r s = paired_nested f h p ps K r s

        by_assoc : (b : Bool) → is_assoc sig f ≡ b → (ArePaired ps → IsTermOf sig x.sort (evaluated sig us (placed xs (variable x)))) → IsTermOf sig x.sort (evaluated sig us (placed xs (variable x)))
        by_assoc false h rest = let (q, is, args, values) = plain_values sig ok xs us f ps h r.0 s.0 in rest (paired_arguments ps args values)
        by_assoc true h rest = rest (by_list h ps r s)

    values_kind : (ps : RawTerms) → ArePaired ps → (x : Variable) → IsTrue (occurs_in x ps) → IsTermOf sig x.sort (evaluated sig us (placed xs (variable x)))
    values_kind nil h x o = absurd (both_ways _ refl o)
    values_kind (cons p ps) h x o = ⊎_elim (λ k. value_kind p h.0.0 h.0.1 h.0.2 x k) (λ k. values_kind ps h.1 x k) (or_cases (occurs x p) (occurs_in x ps) o)
