use Rattle.mw_builtin.specs.declared.step.Met.TheVariants as met
use Rattle.mw_check.proofs.RowPairs.{test_of}
use Rattle.mw_check.proofs.RowComputed.{none_of_leaf, step_is, none_met, too_big_met, several_met, whole_met}
use Rattle.mw_check.proofs.rows.compute.Goals as goal

pub returns-in_default : goal.returns-in_default
returns-in_default c = none_of_leaf c.args.tester.now.context.now.signature c.shows.ensures.signature.accepted c.args.part.now c.view.result c.view.ensures c.in_default.not-Op

pub returns-in-Nothing : goal.returns-in-Nothing
returns-in-Nothing c =
    let M = c.args.tester.now.context.now in
    let f = c.in-Op.operator in
    let xs = c.in-Op.args.now in
    let w = c.args.part.now in
    none_met M c.shows.ensures f xs w c.in-Op.ensures c.requires.part
    (step_is M c.shows.ensures f xs w c.in-Op.ensures c.requires.part c.schemata-schemata.result.now c.schemata-schemata.ensures c.facts.result.now c.facts.ensures c.in_ok-step.field-0 met.Nothing c.in_ok-step.ensures.sides c.in-Nothing.is)

pub returns-in-TooBig : goal.returns-in-TooBig
returns-in-TooBig c =
    let M = c.args.tester.now.context.now in
    let f = c.in-Op.operator in
    let xs = c.in-Op.args.now in
    let w = c.args.part.now in
    too_big_met M c.shows.ensures f xs w c.in-Op.ensures c.requires.part c.in-TooBig.take
    (step_is M c.shows.ensures f xs w c.in-Op.ensures c.requires.part c.schemata-schemata.result.now c.schemata-schemata.ensures c.facts.result.now c.facts.ensures c.in_ok-step.field-0 (met.TooBig c.in-TooBig.take) c.in_ok-step.ensures.sides c.in-TooBig.is)

pub tested-requires-clause-test : goal.tested-requires-clause-test
tested-requires-clause-test c =
    let sig = c.args.tester.now.context.now.signature in
    test_of sig c.in-Op.operator c.in-Some.field-0 (c.in-Some.ensures sig c.schemata-schemata.ensures)

pub tested-requires-clause-given : goal.tested-requires-clause-given
tested-requires-clause-given c =
    let M = c.args.tester.now.context.now in
    let f = c.in-Op.operator in
    let xs = c.in-Op.args.now in
    let w = c.args.part.now in (
      c.in-Gives.take,
      step_is M c.shows.ensures f xs w c.in-Op.ensures c.requires.part c.schemata-schemata.result.now c.schemata-schemata.ensures c.facts.result.now c.facts.ensures c.in_ok-step.field-0 (met.Gives c.in-Gives.take c.in-Gives.to) c.in_ok-step.ensures.sides c.in-Gives.is,
    )

pub returns-in-None : goal.returns-in-None
returns-in-None c =
    let M = c.args.tester.now.context.now in
    let f = c.in-Op.operator in
    let xs = c.in-Op.args.now in
    let w = c.args.part.now in
    several_met M c.shows.ensures f xs w c.in-Op.ensures c.requires.part c.in-Gives.to (c.in-None.ensures M.signature c.schemata-schemata.ensures) c.in-Gives.take c.is_some.result c.is_some.ensures c.if-is_some.true
    (step_is M c.shows.ensures f xs w c.in-Op.ensures c.requires.part c.schemata-schemata.result.now c.schemata-schemata.ensures c.facts.result.now c.facts.ensures c.in_ok-step.field-0 (met.Gives c.in-Gives.take c.in-Gives.to) c.in_ok-step.ensures.sides c.in-Gives.is)

pub returns : goal.returns
returns c =
    let M = c.args.tester.now.context.now in
    let f = c.in-Op.operator in
    let xs = c.in-Op.args.now in
    let w = c.args.part.now in
    whole_met M c.shows.ensures f xs w c.in-Op.ensures c.requires.part c.in-Gives.to (c.in-None-2.ensures M.signature c.schemata-schemata.ensures) c.in-Gives.take c.is_some.result c.is_some.ensures c.if-is_some.false
    (step_is M c.shows.ensures f xs w c.in-Op.ensures c.requires.part c.schemata-schemata.result.now c.schemata-schemata.ensures c.facts.result.now c.facts.ensures c.in_ok-step.field-0 (met.Gives c.in-Gives.take c.in-Gives.to) c.in_ok-step.ensures.sides c.in-Gives.is) c.args.tester.now.most c.args.rank
