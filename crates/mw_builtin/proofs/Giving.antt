-- What rows give at a form of what is taken.
use Rattle.std.specs.Prelude.{◌≡◌, ◌↔◌, ℕ, zero, suc, List, [], ◌∷◌, Bool, true, false, not, cond, Option, Some, IsTrue, codes, refl, ⊤}
use Rattle.std.proofs.Common.{inl, inr, ap, sym, subst, ◌∙◌}
use Rattle.std.proofs.lemmas.Bool.{both_ways}
use Rattle.mw_logic.specs.Term.{RawTerm, numeral, nil, binary, constant}
use Rattle.mw_logic.specs.Signature.{Signature, IsRawTerm, an_operator, AreRawTerms, end, at_number}
use Rattle.mw_logic.specs.Accepted.{IsAccepted, IsWellSorted}
use Rattle.mw_logic.specs.Axioms.{EqualModulo}
use Rattle.mw_logic.specs.Built.{HasBuiltIns}
use Rattle.mw_logic.specs.WellFormed.{IsWellFormed}
use Rattle.mw_logic.specs.Parts.{is_assoc, nested, nest}
use Rattle.mw_logic.specs.NormalForm.{normal_form}
use Rattle.mw_logic.specs.Module.{BuiltIn, result_of, Denotes, IsTruth, IsBuiltIn, IsPolymorphic, AreKindsOf, Module, Statement, Row, arithmetic, equal_terms, unequal_terms, not_different, different, if_true, if_false}
use Rattle.mw_logic.specs.Proof as proof
use Rattle.mw_logic.proofs.CleanForms.{keeps_top}
use Rattle.mw_logic.proofs.Invariance.{normal_form-kept}
use Rattle.mw_logic.proofs.RawLed.{leads_raw}
use Rattle.mw_logic.proofs.Soundness.{equal}
use Rattle.mw_builtin.specs.Results.{IsFound}
use Rattle.mw_builtin.specs.Schemata.{IsNamedTruth}
use Rattle.mw_builtin.specs.Steps.{IsFormOf, IsGroundTerm, IsStepOf, IsTestOf, IsAnyTerm, met_for}
use Rattle.mw_builtin.specs.declared.pairs.Found.{Found}
use Rattle.mw_builtin.specs.declared.pairs.Found.TheVariants.{Number, Constant, TooBig}
use Rattle.mw_builtin.proofs.BuiltLaws.{built_tests, built_choices}

-- a constant is nested in itself, and a truth value is a ground term
pub nested_constant : (sig : Signature) (c : ℕ) → nested sig (constant c) ≡ constant c
nested_constant sig c = by_assoc (is_assoc sig c)
  where
    by_assoc : (b : Bool) → nest b c nil ≡ constant c
    by_assoc true = refl
    by_assoc false = refl

no_kinds : (sig : Signature) (Ks : List ℕ) → AreKindsOf sig Ks [] → AreRawTerms sig nil Ks
no_kinds sig [] h = end
no_kinds sig (K ∷ Ks) h = elim h [ ]

raw_truth : (sig : Signature) (b : Bool) (c : ℕ) → IsNamedTruth sig b c → IsRawTerm sig (constant c)
raw_truth sig b c named = an_operator named.operator named.is_there (no_kinds sig named.operator.args named.of_kinds)

pub kept_truth : (sig : Signature) → IsAccepted sig → (b : Bool) (c : ℕ) → IsNamedTruth sig b c → normal_form sig (constant c) ≡ constant c
kept_truth sig ok b c named = keeps_top sig ok (raw_truth sig b c named) (tt, λ e is m. m, λ n is e l. cc)

pub ground_truth : (sig : Signature) → IsAccepted sig → (b : Bool) (c : ℕ) → IsNamedTruth sig b c → IsGroundTerm sig (constant c)
ground_truth sig ok b c named = record {
  raw = subst (IsRawTerm sig) (sym (nested_constant sig c)) (raw_truth sig b c named);
  canonical = ap (normal_form sig) (nested_constant sig c) ∙ kept_truth sig ok b c named;
  ground = refl;
}

pub nested_truth : (sig : Signature) (b : Bool) (c : ℕ) → IsNamedTruth sig b c → IsTruth sig b (nested sig (constant c))
nested_truth sig b c named = (c, nested_constant sig c, named)

-- A row on any sides is one on normal sides, where those that a test tells apart are normal.
pub row_on_sides : (sig : Signature) (N : RawTerm → Type 0) {t r : RawTerm} → Row sig IsAnyTerm t r → ((f : ℕ) (u v : RawTerm) → t ≡ binary f u v → IsTestOf sig f → ¬ EqualModulo sig u v → N u × N v) → Row sig N t r
row_on_sides sig N (arithmetic b is d) h = arithmetic b is d
row_on_sides sig N (equal_terms p e d) h = equal_terms p e d
row_on_sides sig N (unequal_terms {f} {u} {v} p a b e d) h = let n = h f u v refl (inl p) e in unequal_terms p n.0 n.1 e d
row_on_sides sig N (not_different p e d) h = not_different p e d
row_on_sides sig N (different {f} {u} {v} p a b e d) h = let n = h f u v refl (inr p) e in different p n.0 n.1 e d
row_on_sides sig N (if_true p d) h = if_true p d
row_on_sides sig N (if_false p d) h = if_false p d

-- a module with these operators and nothing else
abbrev alone : Signature → Module
alone sig = record { signature = sig; statements = [] }

well_formed : (sig : Signature) → IsAccepted sig → IsWellSorted sig → HasBuiltIns sig → IsWellFormed (alone sig)
well_formed sig ok sorted built = record {
  accepted = ok;
  sorted = sorted;
  statements = λ k e is. absurd (none k e is.is_there);
  tests = built_tests sig built;
  choices = built_choices sig built;
}
  where
    none : (k : ℕ) (e : Statement) → at_number (alone sig).statements k ≡ Some e → ⊥
    none zero e h = cc
    none (suc k) e h = cc

module _ (sig : Signature) (ok : IsAccepted sig) (sorted : IsWellSorted sig) (built : HasBuiltIns sig) (N : RawTerm → Type 0) (t : RawTerm) (take : Option (List ℕ)) where
  -- two numerals that give what was found
  pub number_step : (f : ℕ) (b : BuiltIn) → IsBuiltIn sig f b → (m n : ℕ) → IsFormOf sig take t (binary f (numeral m) (numeral n)) → (found : Found) → IsFound sig (result_of b m n) found → IsStepOf sig N t (met_for take found)
  number_step f b is m n form (Number k) e =
      let d : Denotes sig (result_of b m n) (numeral k) = subst (λ r. Denotes sig r (numeral k)) (sym e) refl in
      record {
        form = binary f (numeral m) (numeral n);
        is_form = form;
        meets = arithmetic b is d;
        term = record {
          raw = (leads_raw (alone sig) (well_formed sig ok sorted built) (λ r x y z w. ⊤) (λ C s es r. ⊤) (λ C s. ⊤) proof.row [] (binary f (numeral m) (numeral n)) (numeral k) (arithmetic b is d, form.clean, tt) form.raw).0;
          canonical = refl;
          ground = refl;
        };
      }
  number_step f b is m n form (Constant c) (v, e, (g, q, named)) =
      let same : c ≡ g = constant_inj q in
      let here : IsNamedTruth sig v c = subst (IsNamedTruth sig v) (sym same) named in
      record {
        form = binary f (numeral m) (numeral n);
        is_form = form;
        meets = arithmetic b is (subst (λ r. Denotes sig r (nested sig (constant c))) (sym e) (nested_truth sig v c here));
        term = ground_truth sig ok v c here;
      }
    where
      constant_inj : {c d : ℕ} → constant c ≡ constant d → c ≡ d
      constant_inj e = cc
  number_step f b is m n form TooBig e = record {
    form = binary f (numeral m) (numeral n);
    is_form = form;
    too_big = record { operator = f; m = m; n = n; schema = b; is_built_in = is; is = refl; too_big = e };
  }

  -- two terms under a test, normal where they differ
  pub test_step : (f : ℕ) (w : Bool) → IsPolymorphic sig f (cond w (codes "_==_") (codes "_=/=_")) → (u v : RawTerm) → IsFormOf sig take t (binary f (nested sig u) (nested sig v))
      → normal_form sig (nested sig u) ≡ u → normal_form sig (nested sig v) ≡ v → ((u ≡ v → ⊥) → N (nested sig u) × N (nested sig v)) → (e : Bool) → (IsTrue e ↔ (u ≡ v)) → (c : ℕ) → IsNamedTruth sig (cond w e (not e)) c → IsStepOf sig N t (met_for take (Constant c))
  test_step f w is u v form p q sides e same c named = record {
    form = binary f (nested sig u) (nested sig v);
    is_form = form;
    meets = row_on_sides sig N (by_cases w e is same (nested_truth sig (cond w e (not e)) c named)) at_sides;
    term = ground_truth sig ok (cond w e (not e)) c named;
  }
    where
      differ : (u ≡ v → ⊥) → ¬ EqualModulo sig (nested sig u) (nested sig v)
      differ d h = d (sym p ∙ normal_form-kept sig ok h ∙ q)

      same_sides : {f g : ℕ} {a b x y : RawTerm} → binary f a b ≡ binary g x y → (a ≡ x) × (b ≡ y)
      same_sides e = (cc, cc)

      at_sides : (g : ℕ) (x y : RawTerm) → binary f (nested sig u) (nested sig v) ≡ binary g x y → IsTestOf sig g → ¬ EqualModulo sig x y → N x × N y
      at_sides g x y h test d =
          let s = same_sides h in
          let n = sides (λ z. d (equal (sym s.0 ∙ ap (nested sig) z ∙ s.1))) in
          (subst N s.0 n.0, subst N s.1 n.1)

      by_cases : (w e : Bool) → IsPolymorphic sig f (cond w (codes "_==_") (codes "_=/=_")) → (IsTrue e ↔ (u ≡ v)) → IsTruth sig (cond w e (not e)) (nested sig (constant c)) → Row sig IsAnyTerm (binary f (nested sig u) (nested sig v)) (nested sig (constant c))
      by_cases true true is same h = equal_terms is (equal (ap (nested sig) (same.0 refl))) h
      by_cases true false is same h = unequal_terms is tt tt (differ (λ x. both_ways _ refl (same.1 x))) h
      by_cases false true is same h = not_different is (equal (ap (nested sig) (same.0 refl))) h
      by_cases false false is same h = different is tt tt (differ (λ x. both_ways _ refl (same.1 x))) h
