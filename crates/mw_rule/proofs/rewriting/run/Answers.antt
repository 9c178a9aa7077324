use Rattle.std.specs.Prelude.{◌≡◌, ◌+◌, suc, Some, option_map}
use Rattle.std.proofs.Common.{sym, ap, ◌∙◌, arith}
use Rattle.std.proofs.lemmas.Bool.{both_ways}
use Rattle.mw_frames.specs.State.{with_rules}
use Rattle.mw_frames.specs.Machines.{data_of}
use Rattle.mw_reduce.specs.declared.drive.Driven.{Driven}
use Rattle.mw_reduce.specs.declared.drive.Outcome.TheVariants.{Done}
use Rattle.mw_rule.proofs.Running.{run_with, none_left, so_many_left, bound_from, bound_after, not_reached, keeps_bound, ends_before, at_end, ends_at_bound, ends_by_rules, one_more}
use Rattle.mw_rule.proofs.rewriting.run.Goals.{in-Done, in_default, in-Some-eq0, in_default-matches, in_default-matches-2}
use Rattle.mw_rule.proofs.rewriting.run.Goals as goal

pub loop-choices-init : goal.loop-choices-init
loop-choices-init c = λ K run here rank none h. (K.rules, 0, h, omega arith, bound_from K.rules c.args.bounds.rules none)

pub returns-then-not-matches : goal.returns-then-not-matches
returns-then-not-matches c = λ K run here rank none h.
    let (r, count, held, sum, full) = c.loop-choices.invariant K run here rank none h in
    let driven = c.in_ok-driven.ensures.is (with_rules r K) count (run_with K c.args.context.now.signature r run) here rank held in
    ends_before K c.args.bounds r count c.loop-choices.left (keeps_bound c.loop-choices.bound r c.args.bounds.rules full) (data_of K.over c.run_on.new.machine) c.in_ok-driven.driven sum driven
    (λ e. elim c.match-matches.branch [ in-Done w ↦ both_ways c.match-matches.matches c.if-not-matches.true w.matches-is | in_default w ↦ w.in_default.not-Done e ])

pub returns-then-matches : goal.returns-then-matches
returns-then-matches c = λ K run here rank none h.
    let (r, count, held, sum, full) = c.loop-choices.invariant K run here rank none h in
    let driven = c.in_ok-driven.ensures.is (with_rules r K) count (run_with K c.args.context.now.signature r run) here rank held in
    ends_at_bound K c.args.bounds r count c.loop-choices.left (keeps_bound c.loop-choices.bound r c.args.bounds.rules full) (data_of K.over c.run_on.new.machine) c.in_ok-driven.driven sum driven
    (elim c.match-matches.branch [ in-Done w ↦ w.in-Done.is | in_default w ↦ absurd (both_ways c.match-matches.matches w.matches-is c.if-not-matches.false) ])
    (elim c.match-matches-2.branch [
      | in-Some-eq0 w ↦
          let z : c.loop-choices.bound ≡ Some 0 = w.in-Some-eq0.is ∙ ap (λ n. Some n) (sym w.in-Some-eq0.field-0-is ∙ w.in-Some-eq0.field-0-test) in
          let same : 0 + r ≡ r = omega arith in
          ap (λ n. Some n) (sym same) ∙ ap (option_map (λ n. n + r)) (sym z) ∙ full
      | in_default-matches w ↦ absurd (both_ways c.match-matches-2.matches w.matches-is c.if-matches.true)
      | in_default-matches-2 w ↦ absurd (both_ways c.match-matches-2.matches w.matches-is c.if-matches.true)
    ])

pub loop-choices-preserved : goal.loop-choices-preserved
loop-choices-preserved c = λ K run here rank none h.
    let (r, count, held, sum, full) = c.loop-choices.invariant K run here rank none h in
    let x : Driven = c.in_ok-driven.driven in
    let driven = c.in_ok-driven.ensures.is (with_rules r K) count (run_with K c.args.context.now.signature r run) here rank held in
    let done : x.end.outcome ≡ Done = elim c.match-matches.branch [ in-Done w ↦ w.in-Done.is | in_default w ↦ absurd (both_ways c.match-matches.matches w.matches-is c.if-not-matches.false) ] in
    let some_left : c.loop-choices.bound ≡ Some 0 → ⊥ = λ e. elim c.match-matches-2.branch [ in-Some-eq0 w ↦ both_ways c.match-matches-2.matches c.if-matches.false w.matches-is | in_default-matches w ↦ w.in_default-matches.field-0-test.1 (w.in_default-matches.field-0-is ∙ so_many_left c.loop-choices.bound w.in_default-matches.field-0 w.in_default-matches.is e) | in_default-matches-2 w ↦ none_left c.loop-choices.bound w.in_default-matches.is e ] in
    let (below, e) = at_end K c.args.bounds r count c.loop-choices.left (keeps_bound c.loop-choices.bound r c.args.bounds.rules full) (data_of K.over c.run_on.new.machine) x sum driven done in
    let z = rw c.in-Goes.is at (c.in_ok-next.ensures (with_rules r K) driven.0 (run_with K c.args.context.now.signature r run) here rank e) in (
      suc r,
      suc driven.0,
      z,
      ap (λ n. suc driven.0 + n) c.saturating_sub-left.ensures ∙ one_more K c.args.bounds r count c.loop-choices.left (keeps_bound c.loop-choices.bound r c.args.bounds.rules full) (data_of K.over c.run_on.new.machine) x sum driven done,
      ap (option_map (λ n. n + suc r)) c.one_less-bound.ensures ∙ bound_after c.loop-choices.bound r some_left ∙ full,
    )

pub returns-in-Ends : goal.returns-in-Ends
returns-in-Ends c = λ K run here rank none h.
    let (r, count, held, sum, full) = c.loop-choices.invariant K run here rank none h in
    let x : Driven = c.in_ok-driven.driven in
    let driven = c.in_ok-driven.ensures.is (with_rules r K) count (run_with K c.args.context.now.signature r run) here rank held in
    let done : x.end.outcome ≡ Done = elim c.match-matches.branch [ in-Done w ↦ w.in-Done.is | in_default w ↦ absurd (both_ways c.match-matches.matches w.matches-is c.if-not-matches.false) ] in
    let some_left : c.loop-choices.bound ≡ Some 0 → ⊥ = λ e. elim c.match-matches-2.branch [ in-Some-eq0 w ↦ both_ways c.match-matches-2.matches c.if-matches.false w.matches-is | in_default-matches w ↦ w.in_default-matches.field-0-test.1 (w.in_default-matches.field-0-is ∙ so_many_left c.loop-choices.bound w.in_default-matches.field-0 w.in_default-matches.is e) | in_default-matches-2 w ↦ none_left c.loop-choices.bound w.in_default-matches.is e ] in
    let (below, e) = at_end K c.args.bounds r count c.loop-choices.left (keeps_bound c.loop-choices.bound r c.args.bounds.rules full) (data_of K.over c.run_on.new.machine) x sum driven done in
    let z = rw c.in-Ends.is at (c.in_ok-next.ensures (with_rules r K) driven.0 (run_with K c.args.context.now.signature r run) here rank e) in
    ends_by_rules K c.args.bounds r count c.loop-choices.left (keeps_bound c.loop-choices.bound r c.args.bounds.rules full) (data_of K.over c.run_on.new.machine) x sum driven done (not_reached c.loop-choices.bound r c.args.bounds.rules full some_left) (data_of K.over c.step.new.machine) c.in-Ends.end z
