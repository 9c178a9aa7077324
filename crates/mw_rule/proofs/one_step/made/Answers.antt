use Rattle.std.proofs.Common.{refl, sym, subst, ◌≡◌}
use Rattle.mw_logic.specs.Module.{Module}
use Rattle.mw_proof.specs.Deductions.{IsKept, deduced}
use Rattle.mw_frames.specs.State.{IsRun, with_rules}
use Rattle.mw_frames.specs.Machines.{data_of}
use Rattle.mw_reduce.specs.Evaluations.{run_of}
use Rattle.mw_rule.specs.Applications.{IsOneStep}
use Rattle.mw_rule.proofs.Applicable.{run_behind, step_kept}
use Rattle.mw_rule.proofs.one_step.made.Goals as goal

pub of-proved-requires : goal.of-proved-requires
of-proved-requires c =
    let M : Module = c.args.context.now in
    let t = c.args.term.now in
    let run : IsRun (with_rules 1 (run_of M 63 t)) c.facts.result.now = subst (IsRun (with_rules 1 (run_of M 63 t))) (sym c.facts.ensures) (run_behind M c.shows.ensures t c.requires.term) in
    let kept = (step_kept M c.shows.ensures t c.requires.term c.stop.new.machine.kept (data_of M c.stop.new.machine) c.in_ok-end.end refl (c.in_ok-end.ensures (with_rules 1 (run_of M 63 t)) 1 run c.requires.holds)).0 in
    subst (λ v. IsKept M 63 v c.in_ok-end.end c.stop.new.machine.kept) (sym c.in_ok-copy.ensures) kept

pub returns : goal.returns
returns c =
    let M : Module = c.args.context.now in
    let t = c.args.term.now in
    let v = c.in_ok-end.end in
    let k = c.stop.new.machine.kept in
    let run : IsRun (with_rules 1 (run_of M 63 t)) c.facts.result.now = subst (IsRun (with_rules 1 (run_of M 63 t))) (sym c.facts.ensures) (run_behind M c.shows.ensures t c.requires.term) in
    let step : IsOneStep M t v (deduced M 63 t v k) = (step_kept M c.shows.ensures t c.requires.term k (data_of M c.stop.new.machine) v refl (c.in_ok-end.ensures (with_rules 1 (run_of M 63 t)) 1 run c.requires.holds)).1 in
    let same : v ≡ c.in-Some.whole = c.same.ensures.0 c.if-not-same.false in
    let is : deduced M 63 t v k ≡ c.of-proved.result = subst (λ u. deduced M 63 u v k ≡ c.of-proved.result) c.in_ok-copy.ensures (sym c.of-proved.ensures) in
    (c.in-Some.whole, c.in-Some.is, subst (λ u. IsOneStep M t u c.of-proved.result) same (subst (IsOneStep M t v) is step))
