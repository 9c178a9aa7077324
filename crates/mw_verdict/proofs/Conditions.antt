-- In a confluent module a condition that is shown is not at fault.
use Rattle.std.specs.Prelude.{◌≡◌, ◌≢◌, ◌≤◌, ℕ, List, [], ◌∷◌, ◌++◌, take, drop, length, refl}
use Rattle.std.proofs.Common.{ap, sym, subst, ◌∙◌, arith}
use Rattle.mw_logic.specs.Term.{RawTerm}
use Rattle.mw_logic.specs.Signature.{Signature}
use Rattle.mw_logic.specs.Substitution.{Substitution, instance}
use Rattle.mw_logic.specs.Parts.{nested, IsAdmitted}
use Rattle.mw_logic.specs.Module.{Fragment, Module}
use Rattle.mw_logic.specs.Judgements.{IsNormal}
use Rattle.mw_logic.specs.Ends.{Confluent}
use Rattle.mw_logic.specs.WellFormed.{IsWellFormed}
use Rattle.mw_logic.specs.Confluence.{IsTame, IsReducible}
use Rattle.mw_logic.proofs.Clash.{normal_stands}
use Rattle.mw_logic.proofs.Ranks.{row_within}
use Rattle.mw_deduction.specs.Runs.{Done, Dones, Runs}
use Rattle.mw_deduction.specs.Replay.{sides_of, all_sides}
use Rattle.mw_items.specs.Items.{Item, Items, Groups}
use Rattle.mw_verdict.specs.Checks.{Meets, ChecksOne, by_statement, by_row, Evaluated, evaluated, AreEvaluated, a_side, Shown, unconditional, conditional}
use Rattle.mw_verdict.specs.Verdicts.{Cause, stopped, past_limit, HasGroup, the_first, a_later, behind, AreLed, no_more, one_more, Refuses, statement_missing, row_missing, value_ill_sorted, part_missing, spot_missing, condition_fails, sides_not_normal, condition_stops, sides_stop, next_past_limit, AtFault, a_chain, the_ends, behind_them, ChainAtFault, at_item, past_limits, by_a_rule, not_normal}
use Rattle.mw_verdict.specs.Exclusion.{HasOneRow}
use Rattle.mw_verdict.proofs.Same.{alike}
use Rattle.mw_verdict.proofs.Leading.{rule_counted, same_led, only_end, found_led}
use Rattle.mw_verdict.proofs.Excluding.{row_form, certain}

pub no_group : {l : RawTerm} {g : Items} {gs : Groups} → HasGroup l g [] gs → ⊥
no_group h = elim h [ ]

module _ (M : Module) (one : HasOneRow M) where
  abbrev sig : Signature
  sig = M.signature

  -- the side of a group, and the sides behind the first ones
  side_of : {n : ℕ} {s : Substitution} {l : RawTerm} {g : Items} {ls xs : List RawTerm} {gs : Groups} {rs : Runs} {c : ℕ} → HasGroup l g ls gs → AreEvaluated M n s ls gs xs rs c
      → (a : RawTerm) × (d : ℕ) × (ds : Dones) × Evaluated M n (instance s l) g a d ds
  side_of the_first (a_side {c = c} {a = a} {ds = ds} x rest) = (a, c, ds, x)
  side_of (a_later h) (a_side x rest) = side_of h rest

  others : {n : ℕ} {s : Substitution} (ls ms : List RawTerm) {xs : List RawTerm} {gs : Groups} {rs : Runs} {c : ℕ} → AreEvaluated M n s (ls ++ ms) gs xs rs c
      → (qs : Runs) × (d : ℕ) × AreEvaluated M n s ms (behind ls gs) (drop (length ls) xs) qs d
  others [] ms {rs = rs} {c = c} x = (rs, c, x)
  others (l ∷ ls) ms (a_side x rest) = others ls ms rest

  module _ (wf : IsWellFormed M) (tame : IsTame M) (confluent : Confluent M) (most : ℕ) where
    -- the ends of the first sides
    first_ends : {n : ℕ} {s : Substitution} (ms : List RawTerm) {ls xs ys : List RawTerm} {gs : Groups} {rs : Runs} {c : ℕ} → AreLed M s ls gs ys → AreEvaluated M n s (ls ++ ms) gs xs rs c → ys ≡ take (length ls) xs
    first_ends ms no_more x = refl
    first_ends ms (one_more {xs = ys} b y led) (a_side {a = a} (evaluated raw admitted leads normal) rest) =
        ap (λ b. b ∷ ys) (sym (only_end M wf.accepted one leads y)) ∙ ap (λ ys. a ∷ ys) (first_ends ms led rest)

    stands : (n : ℕ) → n ≤ 63 → (a : RawTerm) → IsNormal M n a → ¬ IsReducible M n a
    stands n l a = normal_stands M wf tame confluent n l a

    mutual
      pub refused : {n r k : ℕ} {i : Item} {t v : RawTerm} {c : Cause} {x : Done} → n ≤ 63 → c ≢ stopped → Refuses M most n i t c → ChecksOne M n i t v r k x
          → (c ≡ past_limit → IsAdmitted sig (nested sig v)) → ⊥
      refused {n} l z (condition_fails {gs = gs} h s p m fault) (by_statement {c = c} {rs = rs} e s' b q m' o shown) a = at_fault l fault (alike e h (λ st s. Shown M n st.fragments s gs rs c) shown)
      refused {n} l z (sides_not_normal p m h r f) (by_row e m') a = f e.form e.result (row_form M p e) (row_within (λ v k. stands n l v k) e.row)
      refused l z (condition_stops h s p m f) y a = z refl
      refused l z (sides_stop p m h r b d f) y a = z refl
      refused l z (statement_missing f) y a = certain M most one ((λ e. cc), z) (statement_missing f) y a
      refused l z (row_missing p m f) y a = certain M most one ((λ e. cc), z) (row_missing p m f) y a
      refused l z (value_ill_sorted h f) y a = certain M most one ((λ e. cc), z) (value_ill_sorted h f) y a
      refused l z (part_missing h s f) y a = certain M most one ((λ e. cc), z) (part_missing h s f) y a
      refused l z (spot_missing f) y a = certain M most one ((λ e. cc), z) (spot_missing f) y a
      refused l z (next_past_limit x f) y a = certain M most one ((λ e. cc), z) (next_past_limit x f) y a

      at_fault : {n c : ℕ} {C : List Fragment} {s : Substitution} {gs : Groups} {rs : Runs} → n ≤ 63 → AtFault M most n C s gs → Shown M n C s gs rs c → ⊥
      at_fault l (a_chain g b fault) unconditional = no_group g
      at_fault l (a_chain g b fault) (conditional x m) = let (a, d, ds, e) = side_of g x in chain_at_fault (omega (arith, l)) fault e
      at_fault l (the_ends {f = f} {C = C} {s = s} led h) (conditional x m) = h (subst (Meets sig s f) (sym (first_ends (all_sides C) led x)) m.0)
      at_fault l (behind_them {f = f} {C = C} fault) (conditional x m) = let (qs, d, y) = others (sides_of f) (all_sides C) x in at_fault l fault (conditional y m.1)

      chain_at_fault : {n c : ℕ} {t a : RawTerm} {g : Items} {ds : Dones} → n ≤ 63 → ChainAtFault M most n t g → Evaluated M n t g a c ds → ⊥
      chain_at_fault l (at_item s x f z) (evaluated raw admitted leads normal) = let h = found_led M wf.accepted one s leads x in refused l z f h.checks (λ e. h.admitted)
      chain_at_fault l (past_limits s x y f) (evaluated raw admitted leads normal) = let h = found_led M wf.accepted one s leads x in f (subst (λ u. IsAdmitted sig (nested sig u)) (same_led M wf.accepted one h.checks y) h.admitted)
      chain_at_fault l (by_a_rule s there rule) (evaluated raw admitted leads normal) = rule_counted s there rule leads refl
      chain_at_fault {n} {a = a} l (not_normal x r) (evaluated raw admitted leads normal) = stands n l (nested sig a) normal (subst (λ u. IsReducible M n (nested sig u)) (sym (only_end M wf.accepted one leads x)) r)
