-- The values of a pattern whose instance is a raw term are raw; and a raw pattern's operators have the arguments that their axioms ask for.
use Rattle.std.specs.Prelude.{◌≡◌, ◌≤◌, ℕ, suc, List, length, map, Bool, true, false, Some, slice_get, IsTrue, refl}
use Rattle.std.proofs.Common.{sym, ap, subst, ◌∙◌, ⊎_elim, arith}
use Rattle.std.proofs.lemmas.Bool.{both_ways, or_cases}
use Rattle.mw_logic.specs.Term.{Variable, RawTerm, numeral, quoted, variable, apply, RawTerms, nil, cons}
use Rattle.mw_logic.specs.Signature.{Signature, Operator, IsOperator, IsRawTerm, an_operator, AreRawTerms, end, next}
use Rattle.mw_logic.specs.Accepted.{IsAccepted}
use Rattle.mw_logic.specs.Parts.{is_assoc, nested, all_nested, nest, number_of_terms}
use Rattle.mw_logic.specs.NormalForm.{is_comm, applied_in}
use Rattle.mw_logic.specs.Substitution.{occurs, occurs_in}
use Rattle.mw_logic.proofs.Canonical.{Each, IsCanonical, AreCanonical, canonical, assoc_operator, comm_operator, no_arguments}
use Rattle.mw_logic.proofs.RawArguments.{operator_of, arguments_raw}
use Rattle.mw_logic.proofs.SameConditions.{same_variable-is}
use Rattle.mw_position.specs.Positions.{fill}
use Rattle.mw_position.specs.Variables.{placed, all_placed}
use Rattle.mw_arguments.specs.Arguments.{HasArity}
use Rattle.mw_matching.specs.Matches.{evaluated, evaluated_all, HasArities, AllHaveArities}
use Rattle.mw_matching.proofs.Evaluated.{evaluated_is}
use Rattle.mw_solving.proofs.RawArguments.{IsRaw, each_argument, each_nested, arguments_of_raw}

number_placed : (xs : List Variable) (ts : RawTerms) → number_of_terms (all_placed xs ts) ≡ number_of_terms ts
number_placed xs nil = refl
number_placed xs (cons t ts) = ap suc (number_placed xs ts)

number_nested : (sig : Signature) (ts : RawTerms) → number_of_terms (all_nested sig ts) ≡ number_of_terms ts
number_nested sig nil = refl
number_nested sig (cons t ts) = ap suc (number_nested sig ts)

number_evaluated : (sig : Signature) (us : List RawTerm) (ts : RawTerms) → number_of_terms (evaluated_all sig us ts) ≡ number_of_terms ts
number_evaluated sig us nil = refl
number_evaluated sig us (cons t ts) = ap suc (number_evaluated sig us ts)

two_terms : (ts : RawTerms) → number_of_terms ts ≡ 2 → (x : RawTerm) × (y : RawTerm) × (ts ≡ cons x (cons y nil))
two_terms nil n = absurd (omega (arith, n))
two_terms (cons x nil) n = absurd (omega (arith, n))
two_terms (cons x (cons y nil)) n = (x, y, refl)
two_terms (cons x (cons y (cons z zs))) n = absurd (omega (arith, n))

module _ (sig : Signature) (ok : IsAccepted sig) where
  as_many : {ts : RawTerms} {Ks : List ℕ} → AreRawTerms sig ts Ks → number_of_terms ts ≡ length Ks
  as_many end = refl
  as_many (next r k rest) = ap suc (as_many rest)

  -- a commutative operator takes two
  takes_two : (f : ℕ) (o : Operator) → IsOperator sig f o → is_comm sig f ≡ true → length o.args ≡ 2
  takes_two f o is c =
      let (p, there, w) = comm_operator sig f c in
      let (K, L, e, x) = ok.comm f o is (operator_of sig f (λ o. IsTrue o.comm) is there w) in
      ap length e

  -- a raw term that is not nested, taken apart
  plain_parts : (f : ℕ) (ts : RawTerms) → is_assoc sig f ≡ false → IsRaw sig (apply f ts) → (o : Operator) × IsOperator sig f o × AreRawTerms sig (all_nested sig ts) o.args
  plain_parts f ts h r = parts (subst (λ b. IsRawTerm sig (nest b f (all_nested sig ts))) h r)
    where
      parts : IsRawTerm sig (apply f (all_nested sig ts)) → (o : Operator) × IsOperator sig f o × AreRawTerms sig (all_nested sig ts) o.args
      parts (an_operator o is args) = (o, is, args)

  -- under such an operator pattern and instance have arguments of the same kinds
  pub plain_values : (xs : List Variable) (us : List RawTerm) (f : ℕ) (ps : RawTerms) → is_assoc sig f ≡ false → IsRaw sig (apply f ps) → IsRaw sig (applied_in sig f (evaluated_all sig us (all_placed xs ps)))
      → (o : Operator) × IsOperator sig f o × AreRawTerms sig (all_nested sig ps) o.args × AreRawTerms sig (all_nested sig (evaluated_all sig us (all_placed xs ps))) o.args
  plain_values xs us f ps h r s =
      let (o, is, args) = plain_parts f ps h r in
      let vs : RawTerms = evaluated_all sig us (all_placed xs ps) in
      let n : number_of_terms vs ≡ length o.args = number_evaluated sig us (all_placed xs ps) ∙ number_placed xs ps ∙ sym (number_nested sig ps) ∙ as_many args in
      (o, is, args, arguments_raw sig ok f o is h vs (λ c. two_terms vs (n ∙ takes_two f o is c)) s)

  module _ (us : List RawTerm) (good : (i : ℕ) (u : RawTerm) → slice_get us i ≡ Some u → IsCanonical sig u) where
    pub all_evaluated_canonical : (ps : RawTerms) → AreCanonical sig (evaluated_all sig us ps)
    all_evaluated_canonical nil = tt
    all_evaluated_canonical (cons p ps) = (subst (IsCanonical sig) (evaluated_is sig ok us good p) (canonical sig ok (fill (map (nested sig) us) (nested sig p))), all_evaluated_canonical ps)

  module _ (xs : List Variable) where
    -- so the pattern by position has them
    mutual
      pub arities : (p : RawTerm) → IsRaw sig p → HasArities sig (placed xs p)
      arities (numeral n) r = tt
      arities (quoted q) r = tt
      arities (variable x) r = tt
      arities (apply f ps) r = by_assoc (is_assoc sig f) refl (all_arities ps)
        where
          some : is_assoc sig f ≡ true → (ps : RawTerms) → IsRaw sig (apply f ps) → 1 ≤ number_of_terms (all_placed xs ps)
          some h nil r = absurd (both_ways _ (no_arguments sig ok f (subst (λ b. IsRawTerm sig (nest b f nil)) h r)) h)
          some h (cons p ps) r = omega arith

          nested_each : is_assoc sig f ≡ true → (ps : RawTerms) → IsRaw sig (apply f ps) → Each (IsRaw sig) ps
          nested_each h nil r = tt
          nested_each h (cons p ps) r = each_nested sig ok f p ps (subst (λ b. IsRawTerm sig (nest b f (all_nested sig (cons p ps)))) h r)

          by_assoc : (b : Bool) → is_assoc sig f ≡ b → (Each (IsRaw sig) ps → AllHaveArities sig (all_placed xs ps)) → HasArity sig f (number_of_terms (all_placed xs ps)) × AllHaveArities sig (all_placed xs ps)
          by_assoc true h rest = (record { some = λ k. some h ps r; two = λ n k. absurd (both_ways _ n h) }, rest (nested_each h ps r))
          by_assoc false h rest =
              let (o, is, args) = plain_parts f ps h r in (
                record {
                  some = λ k. absurd (both_ways _ h k);
                  two = λ n c. number_placed xs ps ∙ sym (number_nested sig ps) ∙ as_many args ∙ takes_two f o is c;
                },
                rest (each_argument sig ok ps args),
              )

      all_arities : (ps : RawTerms) → Each (IsRaw sig) ps → AllHaveArities sig (all_placed xs ps)
      all_arities nil r = tt
      all_arities (cons p ps) r = (arities p r.0, all_arities ps r.1)

    module _ (us : List RawTerm) (good : (i : ℕ) (u : RawTerm) → slice_get us i ≡ Some u → IsCanonical sig u) where
      -- a value that stands in a raw instance is raw
      mutual
        pub value_raw : (p : RawTerm) → IsRaw sig p → IsRaw sig (evaluated sig us (placed xs p)) → (x : Variable) → IsTrue (occurs x p) → IsRaw sig (evaluated sig us (placed xs (variable x)))
        value_raw (numeral n) r s x o = absurd (both_ways _ refl o)
        value_raw (quoted q) r s x o = absurd (both_ways _ refl o)
        value_raw (variable y) r s x o = subst (λ z. IsRaw sig (evaluated sig us (placed xs (variable z)))) (same_variable-is y x o) s
        value_raw (apply f ps) r s x o = by_assoc (is_assoc sig f) refl (λ a b. values_raw ps a b x o)
          where
            by_assoc : (b : Bool) → is_assoc sig f ≡ b → (Each (IsRaw sig) ps → Each (IsRaw sig) (evaluated_all sig us (all_placed xs ps)) → IsRaw sig (evaluated sig us (placed xs (variable x)))) → IsRaw sig (evaluated sig us (placed xs (variable x)))
            by_assoc false h rest = let (q, is, args, values) = plain_values xs us f ps h r s in rest (each_argument sig ok ps args) (each_argument sig ok (evaluated_all sig us (all_placed xs ps)) values)
            by_assoc true h rest = by_list ps r s o rest
              where
                by_list : (ps : RawTerms) → IsRaw sig (apply f ps) → IsRaw sig (applied_in sig f (evaluated_all sig us (all_placed xs ps))) → IsTrue (occurs_in x ps)
                    → (Each (IsRaw sig) ps → Each (IsRaw sig) (evaluated_all sig us (all_placed xs ps)) → IsRaw sig (evaluated sig us (placed xs (variable x)))) → IsRaw sig (evaluated sig us (placed xs (variable x)))
                by_list nil r s o rest = absurd (both_ways _ refl o)
                by_list (cons p ps) r s o rest =
                    let (q, is, a) = assoc_operator sig f h in
                    rest (each_nested sig ok f p ps (subst (λ b. IsRawTerm sig (nest b f (all_nested sig (cons p ps)))) h r))
                    (arguments_of_raw sig ok f q is h (evaluated sig us (placed xs p)) (evaluated_all sig us (all_placed xs ps)) (all_evaluated_canonical us good (all_placed xs (cons p ps))) s)

        values_raw : (ps : RawTerms) → Each (IsRaw sig) ps → Each (IsRaw sig) (evaluated_all sig us (all_placed xs ps)) → (x : Variable) → IsTrue (occurs_in x ps) → IsRaw sig (evaluated sig us (placed xs (variable x)))
        values_raw nil r s x o = absurd (both_ways _ refl o)
        values_raw (cons p ps) r s x o = ⊎_elim (λ k. value_raw p r.0 s.0 x k) (λ k. values_raw ps r.1 s.1 x k) (or_cases (occurs x p) (occurs_in x ps) o)
