-- Items that are checked tell what is done.
use Rattle.std.specs.Prelude.{ℕ, List, refl}
use Rattle.mw_logic.specs.Term.{RawTerm}
use Rattle.mw_logic.specs.Substitution.{Substitution}
use Rattle.mw_logic.specs.Module.{Fragment, Module}
use Rattle.mw_logic.proofs.Ranks.{row_within}
use Rattle.mw_deduction.specs.Runs.{Done, Dones, Runs}
use Rattle.mw_deduction.specs.Replay.{all_sides}
use Rattle.mw_items.specs.Items.{Item, Items, Groups}
use Rattle.mw_prooftext.specs.Tells.{Tells, TellsOne, TellsSides}
use Rattle.mw_verdict.specs.Checks.{Checks, nothing, then, ChecksOne, by_statement, by_row, evaluated, AreEvaluated, no_side, a_side, Shown, unconditional, conditional}

module _ (M : Module) where
  mutual
    pub tells : {n r c : ℕ} {is : Items} {t u : RawTerm} {ds : Dones} → Checks M n is t u r c ds → Tells M is t u ds
    tells nothing = (refl, refl)
    tells (then {v = v} {x = d} {ds = ds} x a rest) = (v, d, ds, refl, tells_one x, tells rest)

    tells_one : {n r c : ℕ} {i : Item} {t v : RawTerm} {d : Done} → ChecksOne M n i t v r c d → TellsOne M i t v d
    tells_one (by_statement {rs = rs} h sorted bound there some plain shown) = (
      record { statement = h.statement; is_there = h.is_there; kind = h.kind; subst = h.subst; values = h.values; replaces = there },
      rs,
      refl,
      tells_shown shown,
    )
    tells_one (by_row h some) = (record { form = h.form; result = h.result; row = row_within (λ v n. tt) h.row; clean = h.clean; replaces = h.replaces }, refl)

    tells_sides : {n c : ℕ} {s : Substitution} {ls xs : List RawTerm} {gs : Groups} {rs : Runs} → AreEvaluated M n s ls gs xs rs c → TellsSides M gs s ls rs
    tells_sides no_side = refl
    tells_sides (a_side {a = a} {ds = ds} {rs = rs} (evaluated raw admitted leads normal) rest) = (a, ds, rs, refl, tells leads, tells_sides rest)

    tells_shown : {n c : ℕ} {C : List Fragment} {s : Substitution} {gs : Groups} {rs : Runs} → Shown M n C s gs rs c → TellsSides M gs s (all_sides C) rs
    tells_shown unconditional = refl
    tells_shown (conditional sides met) = tells_sides sides
