use Rattle.std.proofs.Common.{◌≡◌, ◌+◌, ◌∙◌, drop, ap, sym}
use Rattle.mw_logic.specs.Terms.{terms_of}
use Rattle.mw_term.specs.Facts.{facts_joined, facts_of_all}
use Rattle.mw_term.proofs.KeptFacts.{next_in}
use Rattle.mw_term.proofs.shared.has_all.Goals as goal

pub loop-term-preserved : goal.loop-term-preserved
loop-term-preserved c =
    next_in c.args.terms.now c.loop-term.term-index c.term-item.result c.loop-term.all c.facts.result c.joined-all.result (facts_of_all (terms_of c.args.terms.now))
    c.loop-term-test.true c.term-item.is c.facts.ensures c.joined-all.ensures c.loop-term.invariant

pub returns-then-is : goal.returns-then-is
returns-then-is c =
    let n : facts_joined c.joined-all.result (facts_of_all (terms_of (drop (c.loop-term.term-index + 1) c.args.terms.now))) ≡ facts_of_all (terms_of c.args.terms.now) =
    next_in c.args.terms.now c.loop-term.term-index c.term-item.result c.loop-term.all c.facts.result c.joined-all.result (facts_of_all (terms_of c.args.terms.now))
    c.loop-term-test.true c.term-item.is c.facts.ensures c.joined-all.ensures c.loop-term.invariant in
    let e : c.joined-all.result ≡ c.args.facts = c.is.ensures.0 c.if-is.true in
    λ _. (terms_of (drop (c.loop-term.term-index + 1) c.args.terms.now), ap (λ a. facts_joined a (facts_of_all (terms_of (drop (c.loop-term.term-index + 1) c.args.terms.now)))) (sym e) ∙ n)
