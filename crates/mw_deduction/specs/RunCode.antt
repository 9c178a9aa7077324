-- How a ghost value stores what a proof carries out: as a tree of numbers that gives it back. It says nothing of proofs.
use Rattle.std.specs.Prelude.{◌≡◌, ℕ, zero, suc, refl}
use Rattle.std.specs.Coded.{Coded, code_by}
use base.Stored.{Gv, gnil, gnum, gcons}
use denote.Struct.Codes.{itself}
use Rattle.mw_logic.specs.Term.{numeral}
use Rattle.mw_logic.specs.TermCode.{number, head, tail, code_of, term_in, term_in-code}
use Rattle.mw_logic.specs.ProofCode.{code_of_substitution, substitution_in, substitution_in-code}
use Rattle.mw_deduction.specs.Runs.{Done, by_statement, by_row, Dones, none, more, Runs, end, another, Run, run}

abbrev mutual
  pub code_of_done : Done → Gv
  code_of_done (by_row t u) = gcons (gnum 0) (gcons (gcons (code_of t) (code_of u)) gnil)
  code_of_done (by_statement k s rs t u) = gcons (gnum 1) (gcons (gcons (gcons (gnum k) (code_of_substitution s)) (gcons (code_of t) (code_of u))) (code_of_runs rs))

  pub code_of_dones : Dones → Gv
  code_of_dones none = gnil
  code_of_dones (more d ds) = gcons (code_of_done d) (code_of_dones ds)

  pub code_of_runs : Runs → Gv
  code_of_runs end = gnil
  code_of_runs (another r rs) = gcons (code_of_run r) (code_of_runs rs)

  pub code_of_run : Run → Gv
  code_of_run (run t u ds) = gcons (gcons (code_of t) (code_of u)) (code_of_dones ds)

abbrev pick_done : ℕ → Gv → Runs → Done
pick_done zero g rs = by_row (term_in (head g)) (term_in (tail g))
pick_done (suc n) g rs = by_statement (number (head (head g))) (substitution_in (tail (head g))) rs (term_in (head (tail g))) (term_in (tail (tail g)))

abbrev mutual
  pub done_in : Gv → Done
  done_in gnil = by_row (numeral 0) (numeral 0)
  done_in (gnum n) = by_row (numeral 0) (numeral 0)
  done_in (gcons a gnil) = by_row (numeral 0) (numeral 0)
  done_in (gcons a (gnum n)) = by_row (numeral 0) (numeral 0)
  done_in (gcons a (gcons g rs)) = pick_done (number a) g (runs_in rs)

  pub dones_in : Gv → Dones
  dones_in gnil = none
  dones_in (gnum n) = none
  dones_in (gcons d ds) = more (done_in d) (dones_in ds)

  pub runs_in : Gv → Runs
  runs_in gnil = end
  runs_in (gnum n) = end
  runs_in (gcons r rs) = another (run_in r) (runs_in rs)

  pub run_in : Gv → Run
  run_in gnil = run (numeral 0) (numeral 0) none
  run_in (gnum n) = run (numeral 0) (numeral 0) none
  run_in (gcons g ds) = run (term_in (head g)) (term_in (tail g)) (dones_in ds)

mutual
  pub done_in-code : (d : Done) → done_in (code_of_done d) ≡ d
  done_in-code (by_row t u) = λ i. by_row (term_in-code t i) (term_in-code u i)
  done_in-code (by_statement k s rs t u) = λ i. by_statement k (substitution_in-code s i) (runs_in-code rs i) (term_in-code t i) (term_in-code u i)

  pub dones_in-code : (ds : Dones) → dones_in (code_of_dones ds) ≡ ds
  dones_in-code none = refl
  dones_in-code (more d ds) = λ i. more (done_in-code d i) (dones_in-code ds i)

  pub runs_in-code : (rs : Runs) → runs_in (code_of_runs rs) ≡ rs
  runs_in-code end = refl
  runs_in-code (another r rs) = λ i. another (run_in-code r i) (runs_in-code rs i)

  pub run_in-code : (r : Run) → run_in (code_of_run r) ≡ r
  run_in-code (run t u ds) = λ i. run (term_in-code t i) (term_in-code u i) (dones_in-code ds i)

abbrev pub coded_dones : Coded Dones
coded_dones = code_by Gv itself code_of_dones dones_in dones_in-code
