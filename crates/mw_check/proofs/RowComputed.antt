-- What rows make of a part, as the program sees it.
use Rattle.std.specs.Prelude.{◌≡◌, ℕ, List, Bool, true, false, Option, Some, None, is_some, refl}
use Rattle.std.proofs.Common.{Bor, sym, subst, ◌∙◌}
use Rattle.std.proofs.lemmas.Bool.{both_ways}
use Rattle.mw_logic.specs.Term.{RawTerm, RawTerms, numeral, quoted, variable, apply}
use Rattle.mw_logic.specs.Terms.{terms_of}
use Rattle.mw_logic.specs.Signature.{Signature}
use Rattle.mw_logic.specs.Accepted.{IsAccepted, IsWellSorted}
use Rattle.mw_logic.specs.Built.{HasBuiltIns}
use Rattle.mw_logic.specs.Module.{Module}
use Rattle.mw_logic.specs.Judgements.{IsNormal}
use Rattle.mw_canon.specs.Canonical.{IsAdmittedTerm}
use Rattle.mw_term.specs.Shapes.{viewed}
use Rattle.mw_term.specs.declared.term.View.{View}
use Rattle.mw_least.specs.Workable.{IsWorkable}
use Rattle.mw_builtin.specs.Schemata.{AreSchemataOf}
use Rattle.mw_builtin.specs.Steps.{IsGroundTerm, IsSide, IsStepOf, IsTestOf}
use Rattle.mw_builtin.specs.declared.step.Met.{Met}
use Rattle.mw_builtin.specs.declared.step.Met.TheVariants as met
use Rattle.mw_builtin.specs.declared.table.Schemata.{Schemata}
use Rattle.mw_builtin.proofs.NoRows.{leaf_has_no_row}
use Rattle.mw_check.specs.Answers.{IsComputation}
use Rattle.mw_check.specs.declared.rows.Computed.TheVariants as computed
use Rattle.mw_check.proofs.RowForms.{ground_of, gives_by_sides}
use Rattle.mw_check.proofs.RowNone.{HasNone, none_at_top, none_too_big, several_taken, none_of_several}

-- what isn't an operator on arguments
no_operator : (t : RawTerm) (v : View) → t ≡ viewed v → ((f : ℕ) (xs : Bor (List RawTerm)) → v ≡ View.Op f xs → ⊥) → (f : ℕ) (ts : RawTerms) → t ≡ apply f ts → ⊥
no_operator t (View.Nat n) e h f ts q = let z : apply f ts ≡ numeral n = sym q ∙ e in cc
no_operator t (View.Qid n) e h f ts q = let z : apply f ts ≡ quoted n.now = sym q ∙ e in cc
no_operator t (View.Var x) e h f ts q = let z : apply f ts ≡ variable x.now = sym q ∙ e in cc
no_operator t (View.Op g xs) e h f ts q = h g xs refl

pub none_of_leaf : (sig : Signature) → IsAccepted sig → (t : RawTerm) (v : View) → t ≡ viewed v → ((f : ℕ) (xs : Bor (List RawTerm)) → v ≡ View.Op f xs → ⊥) → HasNone sig t
none_of_leaf sig ok t v e h = none_at_top sig t (leaf_has_no_row sig ok t (no_operator t v e h))

-- what a step gives, by the part
module _ (M : Module) (work : IsWorkable M) (f : ℕ) (xs : List RawTerm) (w : RawTerm) (is : w ≡ apply f (terms_of xs)) (a : IsAdmittedTerm M.signature w) where
  abbrev sig : Signature
  sig = M.signature

  abbrev ok : IsAccepted sig
  ok = work.signature.accepted

  pub part_admitted : IsAdmittedTerm sig (apply f (terms_of xs))
  part_admitted = subst (IsAdmittedTerm sig) is a

  -- the step's answer
  pub step_is : (s : Schemata) → AreSchemataOf sig s → (facts : Signature) → facts ≡ sig → (m n : Met)
      → ((sig : Signature) → AreSchemataOf sig s → facts ≡ sig → IsAccepted sig → IsWellSorted sig → HasBuiltIns sig → IsGroundTerm sig (apply f (terms_of xs)) → IsStepOf sig (IsSide sig f xs) (apply f (terms_of xs)) m)
      → m ≡ n → IsStepOf sig (IsSide sig f xs) (apply f (terms_of xs)) n
  step_is s are facts q m n step e = subst (IsStepOf sig (IsSide sig f xs) (apply f (terms_of xs))) e (step sig are q ok work.signature.well_sorted work.built (ground_of sig ok (apply f (terms_of xs)) part_admitted))

  pub none_met : IsStepOf sig (IsSide sig f xs) (apply f (terms_of xs)) met.Nothing → HasNone sig w
  none_met h = subst (HasNone sig) (sym is) (none_at_top sig (apply f (terms_of xs)) h)

  pub too_big_met : (take : Option (List ℕ)) → IsStepOf sig (IsSide sig f xs) (apply f (terms_of xs)) (met.TooBig take) → HasNone sig w
  too_big_met take h = subst (HasNone sig) (sym is) (none_too_big sig ok work.built f (terms_of xs) take h)

  -- Where the operator is no test, of the whole a row gives it, and several arguments meet none.
  module _ (to : RawTerm) (none : ¬ IsTestOf sig f) where
    pub several_met : (take : Option (List ℕ)) (b : Bool) → b ≡ is_some take → b ≡ true → IsStepOf sig (IsSide sig f xs) (apply f (terms_of xs)) (met.Gives take to) → HasNone sig w
    several_met None b q e h = absurd (both_ways _ q e)
    several_met (Some ks) b q e h =
        let (assoc, many) = several_taken sig f (terms_of xs) ks h.is_form.part h.is_form.taken in
        subst (HasNone sig) (sym is) (none_of_several sig ok f (terms_of xs) work.built none assoc many)

    pub whole_met : (take : Option (List ℕ)) (b : Bool) → b ≡ is_some take → b ≡ false → IsStepOf sig (IsSide sig f xs) (apply f (terms_of xs)) (met.Gives take to) → (most n : ℕ) → IsComputation M most n w (computed.Gives to)
    whole_met None b q e h most n = subst (λ w. IsComputation M most n w (computed.Gives to)) (sym is) (gives_by_sides sig ok f xs part_admitted (IsNormal M n) (λ v side. absurd (none side.test)) to h)
    whole_met (Some ks) b q e h most n = absurd (both_ways _ e q)
