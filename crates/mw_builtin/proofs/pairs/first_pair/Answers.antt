use Rattle.std.proofs.Common.{◌∙◌, sym, subst}
use Rattle.std.specs.Prelude.{MatchOption}
use Rattle.mw_logic.specs.Terms.{terms_of}
use Rattle.mw_logic.proofs.SortedLists.{climbs}
use Rattle.mw_builtin.specs.Schemata.{on_numbers}
use Rattle.mw_builtin.specs.Results.{AreBarren, DoGive}
use Rattle.mw_builtin.proofs.Neighbours.{no_pair, quiet_step, quiet_end, quiet_rest}
use Rattle.mw_builtin.proofs.pairs.first_pair.Goals as goal

pub loop-index-preserved : goal.loop-index-preserved
loop-index-preserved c sig a q =
    let b = on_numbers c.args.operator in
    let barren = subst (λ x. MatchOption x (AreBarren sig b c.args.comm c.index-args-index-in-loop-index.result c.index-args-index.result) (DoGive sig b c.args.comm c.index-args-index-in-loop-index.result c.index-args-index.result)) c.in_default.is (c.of_terms.ensures sig a) in
    c.loop-index.invariant sig a (quiet_step sig b c.args.comm c.args.args.now c.loop-index.index _ _ c.loop-index.auto.index c.loop-index-test.true c.index-args-index-in-loop-index.is c.index-args-index.is barren q)

pub returns : goal.returns
returns c sig a sorted =
    let b = on_numbers c.args.operator in
    no_pair sig b c.args.comm (terms_of c.args.args.now) (λ e. climbs _ (sorted e)) (c.loop-index.invariant sig a (quiet_end sig b c.args.comm c.args.args.now c.loop-index.index c.loop-index-test.false))

pub returns-then-not-is_numeral : goal.returns-then-not-is_numeral
returns-then-not-is_numeral c sig a sorted =
    let b = on_numbers c.args.operator in
    let barren = subst (λ x. MatchOption x (AreBarren sig b c.args.comm c.index-args-index-in-loop-index.result c.index-args-index.result) (DoGive sig b c.args.comm c.index-args-index-in-loop-index.result c.index-args-index.result)) c.in_default.is (c.of_terms.ensures sig a) in
    no_pair sig b c.args.comm (terms_of c.args.args.now) (λ e. climbs _ (sorted e)) (c.loop-index.invariant sig a
    (quiet_rest sig b c.args.comm c.args.args.now c.loop-index.index _ _ c.loop-index.auto.index c.loop-index-test.true c.index-args-index-in-loop-index.is c.index-args-index.is barren (sym c.is_numeral.ensures ∙ c.if-not-is_numeral.true) (climbs _ (sorted c.if-comm.true))))
