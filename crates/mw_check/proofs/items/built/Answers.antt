use Rattle.std.proofs.Common.{None, Some, refl, subst}
use Rattle.std.specs.Prelude.{⊤}
use Rattle.mw_logic.specs.Judgements.{IsNormal}
use Rattle.mw_prooftext.specs.Grounds.{spot_of}
use Rattle.mw_check.specs.Answers.{IsComputation}
use Rattle.mw_check.proofs.RowAnswers.{part_found, none_found, next_of, answer_no_part, part_there, answer_no_row, answer_not_normal, next_known, answer_stopped, answer_limit, answer_passed}
use Rattle.mw_check.proofs.items.built.Goals as goal

pub returns-in_default : goal.returns-in_default
returns-in_default c =
    let M = c.args.tester.now.context.now in
    let sig = M.signature in
    let at = spot_of c.args.place.now in
    let t = c.args.term.now in
    answer_no_part M c.shows.ensures c.args.tester.now.most c.args.rank at t c.requires.term (none_found c.facts-facts.result.now sig c.facts-facts.ensures at t c.in_ok-part.field-0 c.in_ok-part.ensures c.in_default.is)

pub compute-requires-clause-part : goal.compute-requires-clause-part
compute-requires-clause-part c =
    let M = c.args.tester.now.context.now in
    let sig = M.signature in
    let at = spot_of c.args.place.now in
    let t = c.args.term.now in
    let there = part_found c.facts-facts.result.now sig c.facts-facts.ensures at t c.in_ok-part.field-0 c.in-Some.part c.in_ok-part.ensures c.in-Some.is in
    part_there M c.shows.ensures c.args.tester.now.most c.args.rank at t c.requires.term c.in-Some.part there

pub returns-in-NoRow : goal.returns-in-NoRow
returns-in-NoRow c =
    let M = c.args.tester.now.context.now in
    let sig = M.signature in
    let at = spot_of c.args.place.now in
    let t = c.args.term.now in
    let there = part_found c.facts-facts.result.now sig c.facts-facts.ensures at t c.in_ok-part.field-0 c.in-Some.part c.in_ok-part.ensures c.in-Some.is in
    answer_no_row M c.shows.ensures c.args.tester.now.most c.args.rank at t c.requires.term c.in-Some.part there (subst (IsComputation M c.args.tester.now.most c.args.rank c.in-Some.part) c.in-NoRow.is c.in_ok-compute.ensures)

pub returns-in-NotNormal : goal.returns-in-NotNormal
returns-in-NotNormal c =
    let M = c.args.tester.now.context.now in
    let sig = M.signature in
    let at = spot_of c.args.place.now in
    let t = c.args.term.now in
    let there = part_found c.facts-facts.result.now sig c.facts-facts.ensures at t c.in_ok-part.field-0 c.in-Some.part c.in_ok-part.ensures c.in-Some.is in
    answer_not_normal M c.shows.ensures c.args.tester.now.most c.args.rank at t c.requires.term c.in-Some.part there (subst (IsComputation M c.args.tester.now.most c.args.rank c.in-Some.part) c.in-NotNormal.is c.in_ok-compute.ensures)

pub returns-in-Stopped : goal.returns-in-Stopped
returns-in-Stopped c =
    let M = c.args.tester.now.context.now in
    let sig = M.signature in
    let at = spot_of c.args.place.now in
    let t = c.args.term.now in
    let there = part_found c.facts-facts.result.now sig c.facts-facts.ensures at t c.in_ok-part.field-0 c.in-Some.part c.in_ok-part.ensures c.in-Some.is in
    let told = subst (IsComputation M c.args.tester.now.most c.args.rank c.in-Some.part) c.in-Stopped.is c.in_ok-compute.ensures in
    answer_stopped M c.shows.ensures c.args.tester.now.most c.args.rank at t c.requires.term c.in-Some.part there c.in-Stopped.to told c.in_ok-next-in-Stopped.next
    (next_of c.facts-facts.result.now sig c.facts-facts.ensures at.path at.take c.in-Stopped.to t c.in_ok-next-in-Stopped.next c.in_ok-next-in-Stopped.next
    (next_known M c.shows.ensures c.args.tester.now.most c.args.rank at t c.requires.term c.in-Some.part there (λ v. ⊤) c.in-Stopped.to told.1) c.in_ok-next-in-Stopped.ensures refl)

pub returns-in-Some-2 : goal.returns-in-Some-2
returns-in-Some-2 c =
    let M = c.args.tester.now.context.now in
    let sig = M.signature in
    let at = spot_of c.args.place.now in
    let t = c.args.term.now in
    let there = part_found c.facts-facts.result.now sig c.facts-facts.ensures at t c.in_ok-part.field-0 c.in-Some.part c.in_ok-part.ensures c.in-Some.is in
    let told = subst (IsComputation M c.args.tester.now.most c.args.rank c.in-Some.part) c.in-Gives.is c.in_ok-compute.ensures in
    answer_passed M c.shows.ensures c.args.tester.now.most c.args.rank at t c.requires.term c.in-Some.part there c.in-Gives.to told c.in-Some-2.next
    (next_of c.facts-facts.result.now sig c.facts-facts.ensures at.path at.take c.in-Gives.to t c.in_ok-next-in-Gives.field-0 (Some c.in-Some-2.next)
    (next_known M c.shows.ensures c.args.tester.now.most c.args.rank at t c.requires.term c.in-Some.part there (IsNormal M c.args.rank) c.in-Gives.to told) c.in_ok-next-in-Gives.ensures c.in-Some-2.is)

pub returns : goal.returns
returns c =
    let M = c.args.tester.now.context.now in
    let sig = M.signature in
    let at = spot_of c.args.place.now in
    let t = c.args.term.now in
    let there = part_found c.facts-facts.result.now sig c.facts-facts.ensures at t c.in_ok-part.field-0 c.in-Some.part c.in_ok-part.ensures c.in-Some.is in
    let told = subst (IsComputation M c.args.tester.now.most c.args.rank c.in-Some.part) c.in-Gives.is c.in_ok-compute.ensures in
    answer_limit M c.shows.ensures c.args.tester.now.most c.args.rank at t c.requires.term c.in-Some.part there c.in-Gives.to told
    (next_of c.facts-facts.result.now sig c.facts-facts.ensures at.path at.take c.in-Gives.to t c.in_ok-next-in-Gives.field-0 None
    (next_known M c.shows.ensures c.args.tester.now.most c.args.rank at t c.requires.term c.in-Some.part there (IsNormal M c.args.rank) c.in-Gives.to told) c.in_ok-next-in-Gives.ensures c.in-None.is)
