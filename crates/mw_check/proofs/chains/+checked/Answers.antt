use Rattle.std.proofs.Common.{refl, ◌≡◌, ◌∙◌, ◌∷◌, ◌-◌, suc, ap, sym, subst, arith, length, take, drop, map, IfOk}
use Rattle.std.proofs.lemmas.Bool.{both_ways, eqb-true}
use Rattle.std.proofs.lemmas.List.{nil_from_length}
use Rattle.std.proofs.lemmas.Result.{IfOk-weaker}
use Rattle.std.specs.Prelude.{option_to_list}
use Rattle.mw_logic.specs.Substitution.{instance as instance_of}
use Rattle.mw_logic.specs.Module.{Statement}
use Rattle.mw_canon.specs.Canonical.{meant}
use Rattle.mw_deduction.specs.Replay.{sides_of}
use Rattle.mw_term.specs.Raws.{raw_term}
use Rattle.mw_term.specs.Statements.{fragment_of}
use Rattle.mw_items.specs.declared.Entry.TheVariants.{Open}
use Rattle.mw_check.specs.Chains.{AreLeft, IsAnswerBefore}
use Rattle.mw_check.specs.Groups.{AreReady, IsStart, IsCondition, IsFirstEvaluation, IsEvaluatedFrom, IsLedFrom}
use Rattle.mw_check.proofs.ChainEntries.{front_and}
use Rattle.mw_check.proofs.ChainAnswers.{unnamed, placed_ill, placed_nowhere, placed_values, placed_ready, placed_answered, answered_before, next_admitted}
use Rattle.mw_check.proofs.ChainWays.{begin_so, values_there, others_within, step_there, built_there, left_on, way_begins, way_rule, way_fault, way_on, way_over}
use Rattle.mw_check.proofs.GroupReady.{raw_pattern, ready_first}
use Rattle.mw_check.proofs.GroupWays.{passed_left, evaluated_on, first_skipped, first_faulty, first_ended, side_fault, first_end, one_told, second_fault, two_told, fragment_faulty, fragment_on, fragment_off, course_begins, course_on, course_over, none_shown}
use Rattle.mw_check.proofs.chains.+checked.Goals as goal

-- Items one after another.
pub chain-items-init : goal.chain-items-init
chain-items-init t c = record {
  end = c.requires.term;
  left = record { values = c.requires.entries; within = omega arith };
  way = λ items rest e o. way_begins c.args.tester.now.context.now c.args.tester.now.most c.args.rank c.args.term items rest c.args.term c.args.entries.now refl e;
}

pub chain-returns-then-names_rule-clause-is : goal.chain-returns-then-names_rule-clause-is
chain-returns-then-names_rule-clause-is t c = λ items rest e o.
    way_rule c.args.tester.now.context.now c.args.tester.now.most c.args.rank c.args.term items rest c.items.end c.items.left.now c.items.count (c.items.invariant.way items rest e o) o (c.begins_item.ensures.0 c.items-test.true)
    (c.names_rule.ensures.0 c.if-names_rule.true)

pub chain-returns-in_default-clause-is : goal.chain-returns-in_default-clause-is
chain-returns-in_default-clause-is t c = λ items rest e o.
    way_fault c.args.tester.now.context.now c.args.tester.now.most c.args.rank c.args.term items rest c.items.end c.items.left.now c.items.count (c.items.invariant.way items rest e o) o (c.begins_item.ensures.0 c.items-test.true)
    c.shows.ensures.signature.accepted c.in_ok-answer.answer c.in_ok-answer.behind.now c.in_ok-answer.ensures.is (sym c.in_default.ensures)

pub chain-items-preserved : goal.chain-items-preserved
chain-items-preserved t c = record {
  end = next_admitted c.args.tester.now.context.now.signature c.in_ok-answer.answer c.in-Some.after c.in-Some.more c.in_ok-answer.ensures.next (sym c.in-Some.ensures);
  left = record { values = c.in_ok-answer.ensures.values; within = omega (arith, c.in_ok-answer.ensures.shorter, c.items.invariant.left.within) };
  way = λ items rest e o.
      way_on c.args.tester.now.context.now c.args.tester.now.most c.args.rank c.args.term items rest c.items.end c.items.left.now c.items.count (c.items.invariant.way items rest e o) o (c.begins_item.ensures.0 c.items-test.true)
      c.shows.ensures.signature.accepted c.in_ok-answer.answer c.in_ok-answer.behind.now c.in_ok-answer.ensures.is (λ r. both_ways c.names_rule.result c.if-names_rule.false (c.names_rule.ensures.1 r))
      c.in-Some.after c.in-Some.more c.counted-count.result (sym c.in-Some.ensures) c.counted-count.ensures;
}

pub chain-returns-clause-is : goal.chain-returns-clause-is
chain-returns-clause-is t c = λ items rest e o.
    way_over c.args.tester.now.context.now c.args.tester.now.most c.args.rank c.args.term items rest c.items.end c.items.left.now c.items.count (c.items.invariant.way items rest e o) o
    (λ b. both_ways c.begins_item.result c.items-test.false (c.begins_item.ensures.1 b))

-- Conditions.
pub condition-returns-then-rank-gt0-clause-is : goal.condition-returns-then-rank-gt0-clause-is
condition-returns-then-rank-gt0-clause-is t c = λ gs rest e o.
    let M = c.args.tester.now.context.now in
    let same : suc (c.args.rank - 1) ≡ c.args.rank = omega (arith, c.if-rank-gt0.true) in
    subst (λ n. IfOk c.fragments.result (IsCondition M c.args.tester.now.most n (map fragment_of c.args.conditions.now) (meant M.signature c.args.values.now) gs rest)) same (c.fragments.ensures.is gs rest e o)

pub condition-returns-clause-is : goal.condition-returns-clause-is
condition-returns-clause-is t c = λ gs rest e o.
    let M = c.args.tester.now.context.now in
    let none = nil_from_length c.args.conditions.now (eqb-true (length c.args.conditions.now) 0 (sym c.is_empty.ensures ∙ c.if-not-is_empty.false)) in
    none_shown M c.args.tester.now.most c.args.rank (map fragment_of c.args.conditions.now) (meant M.signature c.args.values.now) gs rest c.args.entries.now (ap (map fragment_of) none) e (c.opens_no_group.ensures.0 c.if-not-opens_no_group.false)

pub fragments-fragments-init : goal.fragments-fragments-init
fragments-fragments-init t c = record {
  ready = c.requires.ready;
  left = record { values = c.requires.entries; within = omega arith };
  way = λ gs rest e o.
      course_begins c.args.tester.now.context.now c.args.tester.now.most c.args.rank (meant c.args.tester.now.context.now.signature c.args.values.now) (map fragment_of c.args.fragments.now) gs rest c.args.entries.now e;
}

pub fragments-fragments-preserved : goal.fragments-fragments-preserved
fragments-fragments-preserved t c =
    let M = c.args.tester.now.context.now in
    let s = meant M.signature c.args.values.now in
    let ahead = c.fragments.rest.now in
    let others = take (length ahead - 1) (drop 1 ahead) in
    let is : map fragment_of ahead ≡ fragment_of c.first-item.result ∷ map fragment_of others = ap (map fragment_of) (front_and ahead c.first-item.result c.in-len1-up.len_at_least c.first-item.is) in
    record {
      ready = (ready_first M.signature s (fragment_of c.first-item.result) (map fragment_of others) (subst (AreReady M.signature s) is c.fragments.invariant.ready)).1;
      left = let h : AreLeft M.signature c.fragments.left.now c.in-Through.behind.now = subst (λ x. Rattle.mw_check.specs.Groups.IsShownFrom M.signature c.fragments.left.now x) c.in-Through.is c.in_ok-more.ensures.left in left_on h c.fragments.invariant.left.within;
      way = λ gs rest e o.
          course_on M c.args.tester.now.most c.args.rank s (map fragment_of c.args.fragments.now) gs rest (map fragment_of ahead) c.fragments.left.now c.fragments.count (c.fragments.invariant.way gs rest e o)
          (fragment_of c.first-item.result) (map fragment_of others) is o c.in_ok-more.field-0 c.in_ok-more.ensures.is c.in-Through.more c.counted-count.result c.in-Through.behind c.in-Through.is c.counted-count.ensures;
    }

pub fragments-returns-clause-is : goal.fragments-returns-clause-is
fragments-returns-clause-is t c = λ gs rest e o.
    let M = c.args.tester.now.context.now in
    let none = nil_from_length c.fragments.rest.now (omega (arith, c.in_default.len_below)) in
    course_over M c.args.tester.now.most c.args.rank (meant M.signature c.args.values.now) (map fragment_of c.args.fragments.now) gs rest (map fragment_of c.fragments.rest.now) c.fragments.left.now c.fragments.count
    (c.fragments.invariant.way gs rest e o) (ap (map fragment_of) none) (c.opens_no_group.ensures.0 c.if-not-opens_no_group.false)

pub fragment-returns-in_default-clause-is : goal.fragment-returns-in_default-clause-is
fragment-returns-in_default-clause-is t c = λ gs rest e o.
    let M = c.args.tester.now.context.now in
    fragment_faulty M c.args.tester.now.most c.args.rank (meant M.signature c.args.values.now) (fragment_of c.args.fragment.now) gs rest c.in_ok-ends.field-0 (c.in_ok-ends.ensures.is gs rest e o) c.in_default.is

pub fragment-met-requires-clause-pattern : goal.fragment-met-requires-clause-pattern
fragment-met-requires-clause-pattern t c =
    let M = c.args.tester.now.context.now in
    raw_pattern M.signature (meant M.signature c.args.values.now) c.shows.ensures.signature.accepted c.shows.ensures.signature.well_sorted c.requires.values.sorted (fragment_of c.args.fragment.now) c.requires.ready

pub fragment-returns-then-branch-clause-is : goal.fragment-returns-then-branch-clause-is
fragment-returns-then-branch-clause-is t c = λ gs rest e o.
    let M = c.args.tester.now.context.now in
    fragment_on M c.args.tester.now.most c.args.rank (meant M.signature c.args.values.now) (fragment_of c.args.fragment.now) gs rest c.in_ok-ends.field-0 (c.in_ok-ends.ensures.is gs rest e o)
    c.in-Through.ends c.in-Through.count c.in-Through.left c.in-Through.is (c.in_ok-met.ensures.0 c.if-branch.true)

pub fragment-returns-clause-is : goal.fragment-returns-clause-is
fragment-returns-clause-is t c = λ gs rest e o.
    let M = c.args.tester.now.context.now in
    fragment_off M c.args.tester.now.most c.args.rank (meant M.signature c.args.values.now) (fragment_of c.args.fragment.now) gs rest c.in_ok-ends.field-0 (c.in_ok-ends.ensures.is gs rest e o)
    c.in-Through.ends c.in-Through.count c.in-Through.left c.in-Through.is (λ m. both_ways c.in_ok-met.field-0 c.if-branch.false (c.in_ok-met.ensures.1 m))

pub side_ends-returns-in_default-clause-is : goal.side_ends-returns-in_default-clause-is
side_ends-returns-in_default-clause-is t c = λ gs rest e o.
    let M = c.args.tester.now.context.now in
    side_fault M c.args.tester.now.most c.args.rank (meant M.signature c.args.values.now) (raw_term c.sides.result.0.now) gs rest c.in_ok-end.field-0 (c.in_ok-end.ensures.is gs rest e o)
    (map (λ r. raw_term r.now) (option_to_list c.sides.result.1)) (sides_of (fragment_of c.args.fragment.now)) c.sides.ensures c.in_default.is

pub side_ends-returns-in_default-second-clause-is : goal.side_ends-returns-in_default-second-clause-is
side_ends-returns-in_default-second-clause-is t c = λ gs rest e o.
    let M = c.args.tester.now.context.now in
    let s = meant M.signature c.args.values.now in
    let l = raw_term c.sides.result.0.now in
    one_told M c.args.tester.now.most c.args.rank s l (sides_of (fragment_of c.args.fragment.now)) gs rest c.in-Through.left.now c.in-Through.end c.in-Through.count c.in_ok-ends.ends
    (c.sides.ensures ∙ ap (λ o. l ∷ map (λ r. raw_term r.now) (option_to_list o)) c.in_default-second.is)
    (first_end M c.args.tester.now.most c.args.rank s l gs rest c.in_ok-end.field-0 (c.in_ok-end.ensures.is gs rest e o) c.in-Through.end c.in-Through.count c.in-Through.left c.in-Through.is)
    c.in_ok-ends.ensures

pub side_ends-returns-in_default-2-clause-is : goal.side_ends-returns-in_default-2-clause-is
side_ends-returns-in_default-2-clause-is t c = λ gs rest e o.
    let M = c.args.tester.now.context.now in
    let s = meant M.signature c.args.values.now in
    let l = raw_term c.sides.result.0.now in
    second_fault M c.args.tester.now.most c.args.rank s l (raw_term c.in-Some.second.now) (sides_of (fragment_of c.args.fragment.now))
    (c.sides.ensures ∙ ap (λ o. l ∷ map (λ r. raw_term r.now) (option_to_list o)) c.in-Some.is) gs rest c.in-Through.left.now c.in-Through.end c.in-Through.count
    (first_end M c.args.tester.now.most c.args.rank s l gs rest c.in_ok-end.field-0 (c.in_ok-end.ensures.is gs rest e o) c.in-Through.end c.in-Through.count c.in-Through.left c.in-Through.is)
    o c.in_ok-other.field-0 c.in_ok-other.ensures.is c.in_default-2.is

pub side_ends-returns-clause-is : goal.side_ends-returns-clause-is
side_ends-returns-clause-is t c = λ gs rest e o.
    let M = c.args.tester.now.context.now in
    let s = meant M.signature c.args.values.now in
    let l = raw_term c.sides.result.0.now in
    two_told M c.args.tester.now.most c.args.rank s l (raw_term c.in-Some.second.now) (sides_of (fragment_of c.args.fragment.now))
    (c.sides.ensures ∙ ap (λ o. l ∷ map (λ r. raw_term r.now) (option_to_list o)) c.in-Some.is) gs rest c.in-Through.left.now c.in-Through.end c.in-Through.count
    (first_end M c.args.tester.now.most c.args.rank s l gs rest c.in_ok-end.field-0 (c.in_ok-end.ensures.is gs rest e o) c.in-Through.end c.in-Through.count c.in-Through.left c.in-Through.is)
    o c.in_ok-other.field-0 c.in_ok-other.ensures.is c.in-Through-2.other c.in-Through-2.more c.counted-count.result c.in-Through-2.left c.in_ok-ends-2.ends c.in-Through-2.is c.in_ok-ends-2.ensures c.counted-count.ensures

-- Groups.
pub group-returns-in_default-2-clause-is : goal.group-returns-in_default-2-clause-is
group-returns-in_default-2-clause-is t c = λ gs rest e o.
    let M = c.args.tester.now.context.now in
    let l = instance_of (meant M.signature c.args.values.now) (raw_term c.args.side.now) in
    let inside = take (length c.args.entries.now - 1) (drop 1 c.args.entries.now) in
    let is = sym (begin_so c.args.entries.now c.first-item.result c.in-len1-up.len_at_least c.first-item.is Open c.in-Open.is) ∙ e in
    IfOk-weaker c.passed_over.result _ _ (λ x h. first_skipped M c.args.tester.now.most c.args.rank l inside gs rest is o (subst (IsStart M l) c.in_default-2.is c.in_ok-term.ensures) x h) c.passed_over.ensures

pub group-returns-in_default-2-clause-left : goal.group-returns-in_default-2-clause-left
group-returns-in_default-2-clause-left t c =
    let sig = c.args.tester.now.context.now.signature in
    let inside = take (length c.args.entries.now - 1) (drop 1 c.args.entries.now) in
    let fewer = others_within c.args.entries.now c.first-item.result c.in-len1-up.len_at_least c.first-item.is in
    let values = values_there c.args.entries.now c.first-item.result c.in-len1-up.len_at_least c.first-item.is sig c.requires.entries in
    IfOk-weaker c.passed_over.result _ _ (λ x h. evaluated_on sig c.args.entries.now inside fewer x (passed_left sig inside x h values)) c.passed_over.ensures

pub group-returns-in-AtFault-clause-is : goal.group-returns-in-AtFault-clause-is
group-returns-in-AtFault-clause-is t c = λ gs rest e o.
    let M = c.args.tester.now.context.now in
    let l = instance_of (meant M.signature c.args.values.now) (raw_term c.args.side.now) in
    let inside = take (length c.args.entries.now - 1) (drop 1 c.args.entries.now) in
    let is = sym (begin_so c.args.entries.now c.first-item.result c.in-len1-up.len_at_least c.first-item.is Open c.in-Open.is) ∙ e in
    first_faulty M c.args.tester.now.most c.args.rank l inside gs rest is o c.in-Some.term (subst (IsStart M l) c.in-Some.is c.in_ok-term.ensures) c.in_ok-chain.field-0 c.in_ok-chain.ensures.is c.in-AtFault.is

pub group-returns-in-To-clause-is : goal.group-returns-in-To-clause-is
group-returns-in-To-clause-is t c = λ gs rest e o.
    let M = c.args.tester.now.context.now in
    let l = instance_of (meant M.signature c.args.values.now) (raw_term c.args.side.now) in
    let inside = take (length c.args.entries.now - 1) (drop 1 c.args.entries.now) in
    let is = sym (begin_so c.args.entries.now c.first-item.result c.in-len1-up.len_at_least c.first-item.is Open c.in-Open.is) ∙ e in
    IfOk-weaker c.ended.result _ _
    (λ x h. first_ended M c.args.tester.now.most c.args.rank l inside gs rest is o c.in-Some.term (subst (IsStart M l) c.in-Some.is c.in_ok-term.ensures) c.in_ok-chain.field-0 c.in_ok-chain.ensures.is c.in-To.end c.in-To.count c.in-To.left c.in-To.is x h)
    c.ended.ensures.is

-- Items and steps.
pub item-returns-in-Step-clause-is : goal.item-returns-in-Step-clause-is
item-returns-in-Step-clause-is t c = λ i behind e o.
    let M = c.args.tester.now.context.now in
    let h = step_there c.args.entries.now c.first-item.result c.in-len1-up.len_at_least c.first-item.is c.in-Step.step c.in-Step.is i behind e in
    subst (λ j. IfOk c.replaced.result (λ r. IsAnswerBefore M c.args.tester.now.most c.args.rank j behind c.args.term.now r.0 r.1.now)) (sym h.is) (c.replaced.ensures.is h.groups behind h.stand o)

pub item-returns-in_ok-answer-in-Built-clause-is : goal.item-returns-in_ok-answer-in-Built-clause-is
item-returns-in_ok-answer-in-Built-clause-is t c = λ i behind e o.
    let M = c.args.tester.now.context.now in
    let (p, q) = built_there c.args.entries.now c.first-item.result c.in-len1-up.len_at_least c.first-item.is c.in-Built.place c.in-Built.is i behind e in
    let a = c.in_ok-answer-in-Built.answer in
    let left = take (length c.args.entries.now - 1) (drop 1 c.args.entries.now) in
    subst (λ j. IsAnswerBefore M c.args.tester.now.most c.args.rank j behind c.args.term.now a left) (sym p) (answered_before M c.args.tester.now.most c.args.rank _ behind left c.args.term.now a c.in_ok-answer-in-Built.ensures q)

pub replaced-returns-in_default-clause-is : goal.replaced-returns-in_default-clause-is
replaced-returns-in_default-clause-is t c = λ gs behind e o. unnamed c.args.tester.now.context.now c.args.tester.now.most c.args.rank c.args.step.now c.args.term.now c.in_default.ensures gs

pub replaced-condition-requires : goal.replaced-condition-requires
replaced-condition-requires t c =
    let M = c.args.tester.now.context.now in
    let same : map fragment_of c.as_slice-conditions.result.now ≡ c.in-Some.statement.now.fragments = ap (map fragment_of) c.as_slice-conditions.ensures ∙ ap (λ (s : Statement). s.fragments) c.statement.view_is in (
      omega (arith, c.decreases),
      (c.requires.rank, (c.requires.most, (c.requires.index, (placed_values M c.args.tester.now.most c.args.rank c.args.step.now c.args.term.now c.shows.ensures c.in-Some.statement.now c.in-Some.ensures c.requires.step c.in_ok-place_step.field-0 c.in_ok-place_step.ensures c.in-Next.values c.in-Next.next c.in-Next.is, (placed_ready M c.args.tester.now.most c.args.rank c.args.step.now c.args.term.now c.shows.ensures c.in-Some.statement.now c.in-Some.ensures c.requires.step c.in_ok-place_step.field-0 c.in_ok-place_step.ensures c.in-Next.values c.in-Next.next c.in-Next.is _ same, c.requires.entries))))),
    )

pub replaced-returns-in-IllSorted-clause-is : goal.replaced-returns-in-IllSorted-clause-is
replaced-returns-in-IllSorted-clause-is t c = λ gs behind e o.
    placed_ill c.args.tester.now.context.now c.args.tester.now.most c.args.rank c.args.step.now c.args.term.now c.shows.ensures c.in-Some.statement.now c.in-Some.ensures c.requires.step c.in_ok-place_step.field-0 c.in_ok-place_step.ensures c.in-IllSorted.is gs

pub replaced-returns-in-NoPart-clause-is : goal.replaced-returns-in-NoPart-clause-is
replaced-returns-in-NoPart-clause-is t c = λ gs behind e o.
    placed_nowhere c.args.tester.now.context.now c.args.tester.now.most c.args.rank c.args.step.now c.args.term.now c.shows.ensures c.in-Some.statement.now c.in-Some.ensures c.requires.step c.in_ok-place_step.field-0 c.in_ok-place_step.ensures c.in-NoPart.is gs

pub replaced-returns-in_ok-showing-in-Next-clause-is : goal.replaced-returns-in_ok-showing-in-Next-clause-is
replaced-returns-in_ok-showing-in-Next-clause-is t c = λ gs behind e o.
    let same : map fragment_of c.as_slice-conditions.result.now ≡ c.in-Some.statement.now.fragments = ap (map fragment_of) c.as_slice-conditions.ensures ∙ ap (λ (s : Statement). s.fragments) c.statement.view_is in
    placed_answered c.args.tester.now.context.now c.args.tester.now.most c.args.rank c.args.step.now c.args.term.now c.shows.ensures c.in-Some.statement.now c.in-Some.ensures c.requires.step c.in_ok-place_step.field-0 c.in_ok-place_step.ensures
    c.in-Next.values c.in-Next.next c.in-Next.is _ same gs behind c.args.entries.now c.in_ok-showing-in-Next.showing (c.in_ok-showing-in-Next.ensures.is gs behind e o) c.answered.result.0 c.answered.result.1.now c.answered.ensures.answer c.answered.ensures.left
