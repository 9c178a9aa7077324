use Rattle.std.proofs.Common.{sym, ◌∙◌, arith}
use Rattle.mw_match.proofs.Joined.{picked_on, picked_end}
use Rattle.mw_match.proofs.picks.are_elements.Goals as goal

pub loop-i-preserved : goal.loop-i-preserved
loop-i-preserved c =
    picked_on c.args.facts.now c.args.positions.now.single.items c.args.operator c.loop-i.i c.args.patterns.now c.index-patterns-i.result (omega arith) c.index-patterns-i.is (c.is_variable.ensures c.if-is_variable.false)
    (sym c.is_rigid.ensures ∙ c.if-not-is_rigid.false) c.loop-i.invariant

pub returns : goal.returns
returns c = λ _. picked_end c.args.facts.now c.args.positions.now.single.items c.args.operator c.loop-i.i c.args.patterns.now (omega (arith, c.loop-i-test.false)) c.loop-i.invariant
