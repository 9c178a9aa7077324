-- What comes of an item that is computed.
use Rattle.std.specs.Prelude.{◌≡◌, ℕ, List, false, Option, Some, None, MatchOption, refl, ⊤}
use Rattle.std.proofs.Common.{ap, sym, subst, ◌∙◌}
use Rattle.mw_logic.specs.Term.{RawTerm}
use Rattle.mw_logic.specs.Signature.{Signature}
use Rattle.mw_logic.specs.Axioms.{EqualModulo}
use Rattle.mw_logic.specs.Parts.{nested}
use Rattle.mw_logic.specs.NormalForm.{normal_form}
use Rattle.mw_logic.specs.Module.{Module}
use Rattle.mw_logic.specs.Judgements.{IsNormal}
use Rattle.mw_logic.proofs.EqualTerms.{ground_kept}
use Rattle.mw_logic.proofs.Soundness.{normal_form-sound}
use Rattle.mw_canon.specs.Canonical.{IsAdmittedTerm}
use Rattle.mw_deduction.specs.Runs as runs
use Rattle.mw_least.specs.Workable.{IsWorkable}
use Rattle.mw_redex.specs.Replaced.{replaced_at, IsPartAt}
use Rattle.mw_search.specs.Lacking.{IsKnown}
use Rattle.mw_items.specs.Items.{Spot, built}
use Rattle.mw_prooftext.specs.Tells.{ReplacesSpot}
use Rattle.mw_prooftext.specs.Passing.{IsRow}
use Rattle.mw_verdict.specs.Checks.{ChecksOne}
use Rattle.mw_verdict.specs.Leads.{a_row}
use Rattle.mw_verdict.specs.Verdicts.{spot_missing, row_missing, sides_not_normal, sides_stop, next_past_limit}
use Rattle.mw_check.specs.declared.answer.Cause.TheVariants as cause
use Rattle.mw_check.specs.declared.answer.Answer.TheVariants as answer
use Rattle.mw_check.specs.declared.rows.Computed.TheVariants as computed
use Rattle.mw_check.specs.Answers.{Gives, IsComputation, IsNext, IsAnswer}
use Rattle.mw_check.specs.Parts.{StandsAt}
use Rattle.mw_check.proofs.PlacingParts.{replaces_there, part_term, whole_known}
use Rattle.mw_check.proofs.RowLed.{row_led}

-- what stands there, in a signature that is this one
abbrev IsFoundPart : Signature → Spot → RawTerm → Option RawTerm → Type 0
IsFoundPart sig at t o = MatchOption o ((w : RawTerm) → StandsAt sig at t w → ⊥) (λ w. StandsAt sig at t w)

pub part_found : (facts sig : Signature) → facts ≡ sig → (at : Spot) (t : RawTerm) (o : Option RawTerm) (w : RawTerm) → MatchOption o ((w : RawTerm) → StandsAt facts at t w → ⊥) (λ w. StandsAt facts at t w) → o ≡ Some w → StandsAt sig at t w
part_found facts sig is at t o w h e = subst (IsFoundPart sig at t) e (subst (λ g. IsFoundPart g at t o) is h)

pub none_found : (facts sig : Signature) → facts ≡ sig → (at : Spot) (t : RawTerm) (o : Option RawTerm) → MatchOption o ((w : RawTerm) → StandsAt facts at t w → ⊥) (λ w. StandsAt facts at t w) → o ≡ None → (w : RawTerm) → StandsAt sig at t w → ⊥
none_found facts sig is at t o h e = subst (IsFoundPart sig at t) e (subst (λ g. IsFoundPart g at t o) is h)

-- the next term
pub next_of : (facts sig : Signature) → facts ≡ sig → (path : List ℕ) (take : Option (List ℕ)) (to t : RawTerm) (o next : Option RawTerm) → IsKnown sig (replaced_at sig path take to t)
    → (IsKnown facts (replaced_at facts path take to t) → IsNext facts (replaced_at facts path take to t) o) → o ≡ next → IsNext sig (replaced_at sig path take to t) next
next_of facts sig is path take to t o next known h e = subst (IsNext sig (replaced_at sig path take to t)) e (subst (λ g. IsKnown g (replaced_at g path take to t) → IsNext g (replaced_at g path take to t) o) is h known)

module _ (M : Module) (work : IsWorkable M) (most n : ℕ) (at : Spot) (t : RawTerm) (a : IsAdmittedTerm M.signature t) where
  abbrev sig : Signature
  sig = M.signature

  -- where nothing stands there
  pub answer_no_part : ((w : RawTerm) → StandsAt sig at t w → ⊥) → IsAnswer M most n (built at) t (answer.Refused cause.Part)
  answer_no_part none = (spot_missing (λ w h. none w (record { part = h.0; some = h.1 })), λ e. cc)

  module _ (w : RawTerm) (h : StandsAt sig at t w) where
    pub part_there : IsAdmittedTerm sig w
    part_there = part_term sig work.signature.accepted at.path at.take t w a h.part

    pub answer_no_row : IsComputation M most n w computed.NoRow → IsAnswer M most n (built at) t (answer.Refused cause.Statement)
    answer_no_row none = (row_missing h.part h.some none, λ e. cc)

    pub answer_not_normal : IsComputation M most n w computed.NotNormal → IsAnswer M most n (built at) t (answer.Refused cause.Condition)
    answer_not_normal c = let ((form, result, is_form, row), deny) = c in (sides_not_normal h.part h.some is_form row deny, λ e. cc)

    module _ (N : RawTerm → Type 0) (to : RawTerm) (g : Gives sig N w to) where
      abbrev next_term : RawTerm
      next_term = replaced_at sig at.path at.take to t

      replaces : ReplacesSpot sig false g.form g.result at t next_term
      replaces =
          let p : IsPartAt sig at.path at.take t (normal_form sig g.form) = subst (IsPartAt sig at.path at.take t) (sym g.is_form.is) h.part in
          replaces_there (normal_form sig g.result) next_term at.path at.take p (ap (λ x. replaced_at sig at.path at.take x t) (sym g.is))

      -- with what a row gives in the part's place a term is raw, canonical and ground
      pub next_known : IsKnown sig next_term
      next_known =
          let (raw, kinds) = row_led M work g.row g.is_form.clean g.is_form.raw in
          let same : EqualModulo sig g.result (nested sig to) = subst (λ z. EqualModulo sig g.result (nested sig z)) g.is (normal_form-sound sig work.signature.accepted raw) in
          whole_known sig work.signature.accepted false g.form g.result t next_term at.path at.take a g.is_form.raw replaces raw kinds (ground_kept sig same ∙ g.admitted.admitted.ground)

    pub answer_stopped : (to : RawTerm) → IsComputation M most n w (computed.Stopped to) → (next : Option RawTerm) → IsNext sig (replaced_at sig at.path at.take to t) next → IsAnswer M most n (built at) t (answer.Stopped next)
    answer_stopped to c next is =
        let (s, g) = c in (
          sides_stop h.part h.some s.is_form s.row s.test s.differ s.stops,
          replaced_at sig at.path at.take to t,
          a_row (record { form = g.form; result = g.result; row = g.one; raw = g.is_form.raw; clean = g.is_form.clean; replaces = replaces (λ v. ⊤) to g }),
          is,
        )

    module _ (to : RawTerm) (g : Gives sig (IsNormal M n) w to) where
      row_there : IsRow M n at t (replaced_at sig at.path at.take to t)
      row_there = record { form = g.form; result = g.result; row = g.row; raw = g.is_form.raw; clean = g.is_form.clean; replaces = replaces (IsNormal M n) to g }

      pub answer_limit : IsNext sig (replaced_at sig at.path at.take to t) None → IsAnswer M most n (built at) t (answer.Refused cause.Limit)
      answer_limit none = (next_past_limit (ChecksOne.by_row row_there h.some) none, λ e. cc)

      pub answer_passed : (u : RawTerm) → IsNext sig (replaced_at sig at.path at.take to t) (Some u) → IsAnswer M most n (built at) t (answer.Passed u 1)
      answer_passed u is = record {
        rules = 0;
        replacements = 1;
        done = runs.by_row (nested sig t) (nested sig u);
        checks = ChecksOne.by_row (subst (IsRow M n at t) (sym is.0) row_there) h.some;
        admitted = subst (IsAdmittedTerm sig) (sym is.0) is.1;
        count_is = refl;
      }
