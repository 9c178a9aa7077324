-- What a test of canonical terms says of its fragment.
use Rattle.std.specs.Prelude.{◌≡◌, ◌∷◌, ℕ, List, [], true, false, codes, refl}
use Rattle.std.proofs.Common.{sym, subst, ap, ◌∙◌, inl, inr}
use Rattle.std.proofs.lemmas.Option.{same_Some}
use Rattle.mw_logic.specs.Term.{Variable, RawTerm, constant}
use Rattle.mw_logic.specs.Signature.{Signature, Sorted, Operator, at_number}
use Rattle.mw_logic.specs.Accepted.{IsAccepted}
use Rattle.mw_logic.specs.Axioms.{EqualModulo, done}
use Rattle.mw_logic.specs.Substitution.{Substitution, instance}
use Rattle.mw_logic.specs.Parts.{nested}
use Rattle.mw_logic.specs.NormalForm.{normal_form}
use Rattle.mw_logic.specs.Module.{Module, equal, has_sort, is_true, IsNamed, IsTruth}
use Rattle.mw_logic.specs.Proof.{Proof, nil, equality, transitivity}
use Rattle.mw_logic.specs.Judgements.{MeetsSort}
use Rattle.mw_logic.proofs.Invariance.{normal_form-kept}
use Rattle.mw_builtin.proofs.Giving.{kept_truth, nested_constant}
use Rattle.mw_deduction.specs.Replay.{begun_sides}
use Rattle.mw_reduce.specs.Evaluations.{bound_to, deduction_of, starts_of, IsShown, IsHolding, IsFailing}
use Rattle.mw_reduce.specs.declared.sides.Reduced.{Reduced}
use Rattle.mw_reduce.proofs.Evidence.{one_shown, more_shown}

module _ (M : Module) (n limit : ℕ) (xs : List Variable) (vs : List RawTerm) where
  abbrev sig : Signature
  sig = M.signature

  abbrev r : Substitution
  r = bound_to sig xs vs

  abbrev proof_of : Reduced → Proof
  proof_of k = transitivity equality (deduction_of M n k).proof

  module _ (u : RawTerm) (k : Reduced) (h : IsShown M n (instance r u) k) where
    begins_there : starts_of M (k ∷ []) ≡ begun_sides sig r (u ∷ [])
    begins_there = ap (λ t. nested sig t ∷ []) h.begins

    -- a side that is true
    pub true_holds : IsTruth sig true k.to → IsHolding M n (is_true u) r (k ∷ [])
    true_holds (c, e, named) =
        let t : IsTruth sig true (nested sig k.to) = (c, ap (nested sig) e ∙ nested_constant sig c, named) in
        record { sides = one_shown M n (instance r u) k h; starts = begins_there; holds = (proof_of k, nil, nested sig k.to, refl, h.evaluates, t, (refl, refl)); fails_behind = λ D f. (proof_of k, nested sig k.to, h.evaluates, inr f) }

    pub true_fails : IsAccepted sig → (IsTruth sig true k.to → ⊥) → IsFailing M n (is_true u) r
    true_fails ok wrong = λ D. (proof_of k, nested sig k.to, h.evaluates, inl (λ t truth e. wrong (as_told t truth e)))
      where
        as_told : (t : RawTerm) → IsTruth sig true t → EqualModulo sig (nested sig k.to) t → IsTruth sig true k.to
        as_told t (c, is, named) e = (c, sym h.normal.canonical ∙ normal_form-kept sig ok e ∙ ap (normal_form sig) is ∙ kept_truth sig ok true c named, named)

    -- a side that has a sort
    pub sort_holds : (S : Sorted) → MeetsSort sig (nested sig k.to) S → IsHolding M n (has_sort u S) r (k ∷ [])
    sort_holds S m =
        record { sides = one_shown M n (instance r u) k h; starts = begins_there; holds = (proof_of k, nil, nested sig k.to, refl, h.evaluates, m, (refl, refl)); fails_behind = λ D f. (proof_of k, nested sig k.to, h.evaluates, inr f) }

    pub sort_fails : (S : Sorted) → (MeetsSort sig (nested sig k.to) S → ⊥) → IsFailing M n (has_sort u S) r
    sort_fails S wrong = λ D. (proof_of k, nested sig k.to, h.evaluates, inl wrong)

    -- two sides
    module _ (v : RawTerm) (l : Reduced) (g : IsShown M n (instance r v) l) where
      pub equal_holds : k.to ≡ l.to → IsHolding M n (equal u v) r (k ∷ l ∷ [])
      equal_holds e = record {
        sides = more_shown M n (k ∷ []) (l ∷ []) (one_shown M n (instance r u) k h) (one_shown M n (instance r v) l g);
        starts = ap (λ t. nested sig t ∷ nested sig l.from ∷ []) h.begins ∙ ap (λ t. nested sig (normal_form sig (instance r u)) ∷ nested sig t ∷ []) g.begins;
        holds = (proof_of k, proof_of l, nil, nested sig k.to, nested sig l.to, refl, h.evaluates, g.evaluates, subst (λ c. EqualModulo sig (nested sig k.to) (nested sig c)) e done, (refl, refl));
        fails_behind = λ D f. (proof_of k, proof_of l, nested sig k.to, nested sig l.to, h.evaluates, g.evaluates, inr f);
      }

      pub equal_fails : IsAccepted sig → (k.to ≡ l.to → ⊥) → IsFailing M n (equal u v) r
      equal_fails ok wrong = λ D. (proof_of k, proof_of l, nested sig k.to, nested sig l.to, h.evaluates, g.evaluates, inl (λ e. wrong (sym h.normal.canonical ∙ normal_form-kept sig ok e ∙ g.normal.canonical)))

-- a term isn't both truth values
pub not_both : (sig : Signature) (a : RawTerm) → IsTruth sig false a → IsTruth sig true a → ⊥
not_both sig a (c, e, n) (d, f, m) = apart c d (sym e ∙ f) n m
  where
    apart : (c d : ℕ) → constant c ≡ constant d → IsNamed sig c (codes "false") [] (codes "Bool") → IsNamed sig d (codes "true") [] (codes "Bool") → ⊥
    apart c d e n m =
        let k : c ≡ d = cc in
        let same : n.operator ≡ m.operator = same_Some n.operator m.operator (sym n.is_there ∙ ap (at_number sig.operators) k ∙ m.is_there) in
        let z : codes "false" ≡ codes "true" = sym n.spelled ∙ ap (λ (o : Operator). o.spelling) same ∙ m.spelled in cc
