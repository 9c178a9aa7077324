-- The canonical instances of an equation's sides by values that make its left side a term.
use Rattle.std.specs.Prelude.{◌≡◌, ℕ, List, Option, Some, None, is_some, IsTrue, refl}
use Rattle.std.specs.List.{zip}
use Rattle.std.proofs.Common.{sym, subst, ap, ◌∙◌, true≢false}
use Rattle.mw_logic.specs.Term.{Variable, RawTerm}
use Rattle.mw_logic.specs.Signature.{Signature, IsRawTerm}
use Rattle.mw_logic.specs.Axioms.{EqualModulo}
use Rattle.mw_logic.specs.Accepted.{IsAccepted, IsWellSorted}
use Rattle.mw_logic.specs.Substitution.{Substitution, value, instance, occurs, is_bound, Extends}
use Rattle.mw_logic.specs.Parts.{nested}
use Rattle.mw_logic.specs.NormalForm.{normal_form}
use Rattle.mw_logic.specs.Module.{Module}
use Rattle.mw_logic.proofs.Canonical.{IsCanonical}
use Rattle.mw_logic.proofs.CanonicalTerms.{fixed}
use Rattle.mw_logic.proofs.InstanceLaws.{KeepsKinds}
use Rattle.mw_logic.proofs.Invariance.{normal_form-kept}
use Rattle.mw_logic.proofs.SolutionLaws.{substitution_kinds}
use Rattle.mw_canon.specs.Canonical.{meant}
use Rattle.mw_position.specs.Variables.{is_in, AreDistinct, placed}
use Rattle.mw_position.proofs.Placing.{bound_zip}
use Rattle.mw_least.specs.Conditions.{occurs_among}
use Rattle.mw_least.proofs.Mentioned.{mentioned_distinct, left_mentioned, right_mentioned, among_mentioned}
use Rattle.mw_matching.specs.Matches.{evaluated}
use Rattle.mw_solving.proofs.Positions.{meant_bound}
use Rattle.mw_deduction.specs.Replay.{Move}
use Rattle.mw_deduction.proofs.Extended.{instance_extended}
use Rattle.mw_frames.specs.Redex.{IsRedex}
use Rattle.mw_frames.proofs.PlacedTerms.{instance_placed}

module _ (M : Module) (ok : IsAccepted M.signature) (sorted : IsWellSorted M.signature) (n number : ℕ) (ms : List Move) (vs : List RawTerm) (right w : RawTerm) (r : IsRedex M n number ms vs right w) where
  abbrev sig : Signature
  sig = M.signature

  abbrev variables : List Variable
  variables = r.statement.variables

  -- the substitution that the values are
  abbrev pub full : Substitution
  full = meant sig (zip variables vs)

  pub distinct_here : AreDistinct variables
  distinct_here = subst AreDistinct (sym r.ordinary.variables) (mentioned_distinct r.statement)

  -- the statement's variables are those of its sides and its fragments
  pub left_here : (x : Variable) → IsTrue (occurs x r.statement.left) → IsTrue (is_in x variables)
  left_here x o = ap (is_in x) r.ordinary.variables ∙ left_mentioned r.statement x o

  pub right_here : (x : Variable) → IsTrue (occurs x r.statement.right) → IsTrue (is_in x variables)
  right_here x o = ap (is_in x) r.ordinary.variables ∙ right_mentioned r.statement x o

  pub among_here : (x : Variable) → IsTrue (occurs_among x r.statement.fragments) → IsTrue (is_in x variables)
  among_here x o = ap (is_in x) r.ordinary.variables ∙ among_mentioned r.statement x o

  -- each has a value
  pub all_bound_here : (x : Variable) → IsTrue (is_in x variables) → IsTrue (is_bound full x)
  all_bound_here x h = meant_bound sig (zip variables vs) x ∙ bound_zip variables vs x r.size ∙ h

  -- the values go on from the solution
  pub extends_here : Extends r.solution full
  extends_here x t h = r.reaches x t (r.goes_on x t h)

  pub solution_binds : (x : Variable) → IsTrue (occurs x r.statement.left) → IsTrue (is_bound r.solution x)
  solution_binds x o = r.solves.variables x ∙ o

  -- where a variable of the left side has a value, the solution has it
  pub value_here_too : (x : Variable) (t : RawTerm) → IsTrue (occurs x r.statement.left) → value full x ≡ Some t → value r.solution x ≡ Some t
  value_here_too x t o h = by_value (value r.solution x) refl (solution_binds x o)
    where
      by_value : (v : Option RawTerm) → value r.solution x ≡ v → IsTrue (is_some v) → value r.solution x ≡ Some t
      by_value None e k = absurd (true≢false (sym k))
      by_value (Some u) e k = e ∙ sym (extends_here x u e) ∙ h

  pub left_matches : EqualModulo sig (instance full r.statement.left) (nested sig w)
  left_matches = subst (λ u. EqualModulo sig u (nested sig w)) (instance_extended r.solution full extends_here r.statement.left (λ x o. solution_binds x o)) r.solves.matches

  pub kinds_here : KeepsKinds sig full
  kinds_here = substitution_kinds sig ok sorted full r.substitution

  -- of a term with these variables alone
  instance_is : (t : RawTerm) → IsRawTerm sig t → ((x : Variable) → IsTrue (occurs x t) → IsTrue (is_in x variables)) → evaluated sig vs (placed variables (normal_form sig t)) ≡ normal_form sig (instance full t)
  instance_is = instance_placed sig variables distinct_here vs r.size ok sorted r.values r.substitution

  -- the right side's
  pub right_is : evaluated sig vs right ≡ normal_form sig (instance full r.statement.right)
  right_is = ap (evaluated sig vs) r.right ∙ instance_is r.statement.right r.sides.right right_here

  -- and the left side's is the term
  pub left_is : IsCanonical sig w → evaluated sig vs (placed variables (normal_form sig r.statement.left)) ≡ w
  left_is k = instance_is r.statement.left r.sides.left left_here ∙ normal_form-kept sig ok left_matches ∙ fixed sig ok w k
