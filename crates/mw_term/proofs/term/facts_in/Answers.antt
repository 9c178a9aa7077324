use Rattle.mw_logic.specs.Terms.{terms_of}
use Rattle.mw_term.specs.Facts.{facts_of_all}
use Rattle.mw_term.proofs.KeptFacts.{next_in, all_in}
use Rattle.mw_term.proofs.term.facts_in.Goals as goal

pub loop-term-preserved : goal.loop-term-preserved
loop-term-preserved c =
    next_in c.args.args.now c.loop-term.term-index c.term-item.result c.loop-term.all c.facts.result c.joined-all.result (facts_of_all (terms_of c.args.args.now))
    c.loop-term-test.true c.term-item.is c.facts.ensures c.joined-all.ensures c.loop-term.invariant

pub returns : goal.returns
returns c = all_in c.args.args.now c.loop-term.term-index c.loop-term.all (facts_of_all (terms_of c.args.args.now)) c.loop-term-test.false c.loop-term.invariant
