-- The laws of exclusion.
use Rattle.std.specs.Prelude.{◌≡◌, ◌≢◌, ◌⊎◌, ◌≤◌, ℕ, refl}
use Rattle.std.proofs.Common.{sym, subst, ◌∙◌, inl, inr, arith}
use Rattle.mw_logic.specs.Term.{RawTerm}
use Rattle.mw_logic.specs.Module.{Module}
use Rattle.mw_logic.specs.Ends.{Confluent}
use Rattle.mw_logic.specs.WellFormed.{IsWellFormed}
use Rattle.mw_logic.specs.Confluence.{IsTame}
use Rattle.mw_deduction.specs.Runs.{Done}
use Rattle.mw_items.specs.Items.{Item}
use Rattle.mw_verdict.specs.Checks.{ChecksOne}
use Rattle.mw_verdict.specs.Verdicts.{Cause, no_condition, stopped, past_limit, Refuses, next_past_limit}
use Rattle.mw_verdict.specs.Exclusion.{HasOneRow, IsCertain, OneCauseOf, NoneChecked, CertainExclude, ConfluentExclude}
use Rattle.mw_verdict.proofs.Excluding.{early, certain}
use Rattle.mw_verdict.proofs.Answering.{answers}
use Rattle.mw_verdict.proofs.Conditions.{refused}

is_limit : (c : Cause) → (c ≡ past_limit) ⊎ (c ≢ past_limit)
is_limit past_limit = inl refl
is_limit c = inr (λ e. cc)

is_condition : (c : Cause) → (c ≡ no_condition) ⊎ (c ≢ no_condition)
is_condition no_condition = inl refl
is_condition c = inr (λ e. cc)

module _ (M : Module) (most n : ℕ) where
  limit_only : {i : Item} {t : RawTerm} → Refuses M most n i t past_limit → (v : RawTerm) × (r : ℕ) × (k : ℕ) × (x : Done) × ChecksOne M n i t v r k x
  limit_only (next_past_limit {r = r} {c = k} {v = v} {x = x} y a) = (v, r, k, x, y)

  one_certain : OneCauseOf IsCertain M most n
  one_certain i t c d p q x y = by_limit (is_limit c) (is_limit d)
    where
      by_limit : (c ≡ past_limit) ⊎ (c ≢ past_limit) → (d ≡ past_limit) ⊎ (d ≢ past_limit) → c ≡ d
      by_limit (inl e) (inl f) = e ∙ sym f
      by_limit (inl e) (inr f) = sym (early M most (q, f) y x)
      by_limit (inr e) f = early M most (p, e) x y

  module _ (one : HasOneRow M) where
    none_certain : NoneChecked IsCertain M most n
    none_certain i t c p x h = certain M most one p x h.checks (λ e. h.admitted)

    module _ (wf : IsWellFormed M) (tame : IsTame M) (confluent : Confluent M) (within : n ≤ 63) where
      none_settled : NoneChecked (λ c. c ≢ stopped) M most n
      none_settled i t c p x h = refused M one wf tame confluent most within p x h.checks (λ e. h.admitted)

      -- a condition at fault beside another cause
      beside : (i : Item) (t : RawTerm) (d : Cause) → Refuses M most n i t no_condition → IsCertain d → Refuses M most n i t d → no_condition ≡ d
      beside i t d x q y = by_limit (is_limit d)
        where
          by_limit : (d ≡ past_limit) ⊎ (d ≢ past_limit) → no_condition ≡ d
          by_limit (inr f) = sym (early M most (q, f) y x)
          by_limit (inl f) = let (v, r, k, z, h) = limit_only (subst (Refuses M most n i t) f y) in absurd (refused M one wf tame confluent most within (λ e. cc) x h (λ e. cc))

      one_settled : OneCauseOf (λ c. c ≢ stopped) M most n
      one_settled i t c d p q x y = by_condition (is_condition c) (is_condition d)
        where
          by_condition : (c ≡ no_condition) ⊎ (c ≢ no_condition) → (d ≡ no_condition) ⊎ (d ≢ no_condition) → c ≡ d
          by_condition (inl e) (inl f) = e ∙ sym f
          by_condition (inl e) (inr f) = e ∙ beside i t d (subst (Refuses M most n i t) e x) (f, q) y
          by_condition (inr e) (inl f) = sym (f ∙ beside i t c (subst (Refuses M most n i t) f y) (e, p) x)
          by_condition (inr e) (inr f) = one_certain i t c d (e, p) (f, q) x y

pub certain_exclude : CertainExclude
certain_exclude M one most = ((λ n. (one_certain M most n, none_certain M most n one)), answers M one most IsCertain (none_certain M most 63 one) (one_certain M most 63))

pub confluent_exclude : ConfluentExclude
confluent_exclude M wf tame confluent one most = (
  (λ n l. (one_settled M most n one wf tame confluent l, none_settled M most n one wf tame confluent l)),
  answers M one most (λ c. c ≢ stopped) (none_settled M most 63 one wf tame confluent (omega arith)) (one_settled M most 63 one wf tame confluent (omega arith)),
)
