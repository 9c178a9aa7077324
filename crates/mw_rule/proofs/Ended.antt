-- How a rewriting ends where rules are tried at a normal whole.
use Rattle.std.specs.Prelude.{◌≡◌, ℕ, true}
use Rattle.std.proofs.Common.{sym, subst}
use Rattle.mw_logic.specs.Term.{RawTerm}
use Rattle.mw_logic.specs.Parts.{nested}
use Rattle.mw_logic.specs.Judgements.{IsNormal, IsNormalBy, Fails, admitted_judgements}
use Rattle.mw_logic.specs.Ends.{IsFinal}
use Rattle.mw_logic.proofs.Ranks.{admitted_within, normal}
use Rattle.mw_deduction.specs.Tops.{IsNormalTerm}
use Rattle.mw_proof.specs.declared.reason.Reason.{Reason}
use Rattle.mw_proof.specs.declared.reason.Reason.TheVariants as reason
use Rattle.mw_frames.specs.State.{Run, Data}
use Rattle.mw_frames.specs.Steps.{IsEnd}
use Rattle.mw_frames.specs.Fires.{IsWhole, WouldBeTooDeep, WouldBeTooLarge}
use Rattle.mw_reduce.proofs.Ends.{normal_at}
use Rattle.mw_reduce.specs.declared.drive.Outcome.{Outcome}
use Rattle.mw_reduce.specs.declared.drive.Outcome.TheVariants.{Done, Stopped}
use Rattle.mw_rule.specs.Stepped.{IsUntoldIn, EndsThere, EndsByRules}

module _ (K : Run) (rank : K.rank ≡ 63) (count side : ℕ) where
  -- the whole is normal
  pub normal_whole : (d : Data) (t : RawTerm) → IsEnd K count d t → IsNormal K.over 63 (nested K.over.signature t)
  normal_whole d t e =
      normal_at K.over 63 (nested K.over.signature t)
      (normal K.over (admitted_judgements K.over 63).Fails (Fails K.over 63) (admitted_within K.over 63).Fails (nested K.over.signature t)
      (subst (λ r. IsNormalBy K.over (admitted_judgements K.over r).Fails (nested K.over.signature t)) rank e.normal.normal))

  -- it ends there as it stands
  ends_there : (d : Data) (t : RawTerm) → IsEnd K count d t → (o : Outcome) → EndsThere K count side d t o → EndsByRules K count side d (record { term = t; outcome = o })
  ends_there d t e o h = record { whole = record { stand = e.stand; leads = e.leads; closed = e.closed; hand = e.hand }; normal = normal_whole d t e; held = e.normal; there = h }

  -- no rule applies
  pub ends_final : (d : Data) (t : RawTerm) → IsEnd K count d t → IsFinal K.over (nested K.over.signature t) → EndsByRules K count side d (record { term = t; outcome = Done })
  ends_final d t e h = ends_there d t e Done h

  -- it isn't told whether a condition holds
  pub ends_untold : (d : Data) (t : RawTerm) → IsEnd K count d t → (why : Reason) → IsUntoldIn K side t why → EndsByRules K count side d (record { term = t; outcome = Stopped why })
  ends_untold d t e why h = ends_there d t e (Stopped why) (by_reason why h)
    where
      by_reason : (why : Reason) → IsUntoldIn K side t why → EndsThere K count side d t (Stopped why)
      by_reason reason.Rules h = h.halting.cause
      by_reason reason.Rewrites h = h.halting.cause
      by_reason reason.Depth h = absurd h.halting.cause
      by_reason reason.Nat h = absurd h.halting.cause
      by_reason reason.Nest h = h
      by_reason reason.Condition h = h

  -- a rule isn't applied, since what comes would be too large
  module _ (old new : Data) (t u : RawTerm) (e : IsEnd K count old t) (whole : IsWhole K count new u) (same : u ≡ t) where
    still_normal : IsNormal K.over 63 (nested K.over.signature u)
    still_normal = subst (λ x. IsNormal K.over 63 (nested K.over.signature x)) (sym same) (normal_whole old t e)

    still_held : IsNormalTerm K.over (admitted_judgements K.over K.rank).Fails u
    still_held = subst (IsNormalTerm K.over (admitted_judgements K.over K.rank).Fails) (sym same) e.normal

    pub ends_deep : WouldBeTooDeep K.over K.rank true (nested K.over.signature u) → EndsByRules K count side new (record { term = u; outcome = Stopped reason.Depth })
    ends_deep h = record { whole = whole; normal = still_normal; held = still_held; there = h }

    pub ends_large : WouldBeTooLarge K.over K.rank true (nested K.over.signature u) → EndsByRules K count side new (record { term = u; outcome = Stopped reason.Nat })
    ends_large h = record { whole = whole; normal = still_normal; held = still_held; there = h }
