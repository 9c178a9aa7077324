use Rattle.std.proofs.Common.{◌∙◌, sym, subst, arith, rules}
use Rattle.mw_canon.specs.Canonical.{IsAdmittedTerm}
use Rattle.mw_least.proofs.WellFormed.{workable_well_formed}
use Rattle.mw_check.specs.Chains.{HaveAdmittedValues, HasAdmittedNext}
use Rattle.mw_check.proofs.Whole.{begun, all_checked, one_more_than_all, refused, stopped_there, passed}
use Rattle.mw_check.proofs.checking.check.Goals as goal

pub loop-tester-init : goal.loop-tester-init
loop-tester-init c =
    let M = c.args.context.now in
    let from = c.args.text.now.from in
    record {
      admitted = subst (IsAdmittedTerm M.signature) (sym c.in_ok-term.ensures) c.requires.from;
      values = subst (HaveAdmittedValues M.signature) (sym c.as_slice-entries.ensures) c.requires.values;
      numbered = search rules;
      underway = λ items e. begun M from items c.as_slice-entries.result.now c.in_ok-term.term (c.as_slice-entries.ensures ∙ e) c.in_ok-term.ensures;
    }

pub loop-tester-preserved : goal.loop-tester-preserved
loop-tester-preserved c =
    let M = c.args.context.now in
    let from = c.args.text.now.from in
    record {
      admitted = subst (HasAdmittedNext M.signature) c.in-Passed.is c.in_ok-answer.ensures.next;
      values = c.in_ok-answer.ensures.values;
      numbered = omega (arith, c.in_ok-answer.ensures.shorter);
      underway = λ items e.
          passed M from items c.loop-tester.entries.now c.loop-tester.term c.loop-tester.step c.loop-tester.count (c.loop-tester.invariant.underway items e) c.is_empty.result c.is_empty.ensures c.loop-tester-test.true
          c.args.most c.args.text.now.to c.in_ok-answer.answer c.in_ok-answer.behind.now c.in_ok-answer.ensures.is c.in-Passed.next c.in-Passed.replacements c.saturating_add-count.result c.in-Passed.is c.saturating_add-count.ensures;
    }

pub returns-in-Refused : goal.returns-in-Refused
returns-in-Refused c = λ items e.
    refused c.args.context.now c.args.text.now.from items c.loop-tester.entries.now c.loop-tester.term c.loop-tester.step c.loop-tester.count (c.loop-tester.invariant.underway items e) c.is_empty.result c.is_empty.ensures
    c.loop-tester-test.true c.args.most c.args.text.now.to c.in_ok-answer.answer c.in_ok-answer.behind.now c.in_ok-answer.ensures.is c.in-Refused.cause c.in-Refused.is

pub returns-in-Stopped : goal.returns-in-Stopped
returns-in-Stopped c = λ items e.
    stopped_there c.args.context.now c.args.text.now.from items c.loop-tester.entries.now c.loop-tester.term c.loop-tester.step c.loop-tester.count (c.loop-tester.invariant.underway items e) c.is_empty.result c.is_empty.ensures
    c.loop-tester-test.true c.args.most c.args.text.now.to c.in_ok-answer.answer c.in_ok-answer.behind.now c.in_ok-answer.ensures.is c.in-Stopped.field-0 c.in-Stopped.is

pub returns : goal.returns
returns c = λ items e.
    let M = c.args.context.now in
    let from = c.args.text.now.from in
    let u = c.loop-tester.invariant.underway items e in
    c.at_end.ensures M c.args.most u.rules u.replacements items u.run (workable_well_formed M c.shows.ensures) c.requires.from
    (all_checked M from items c.loop-tester.entries.now c.loop-tester.term c.loop-tester.step c.loop-tester.count u c.is_empty.result c.is_empty.ensures c.loop-tester-test.false)
    (one_more_than_all M from items c.loop-tester.entries.now c.loop-tester.term c.loop-tester.step c.loop-tester.count u c.is_empty.result c.is_empty.ensures c.loop-tester-test.false)
    u.count_is
