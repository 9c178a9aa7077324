use Rattle.std.proofs.Common.{◌≡◌, ◌∙◌, ap, sym, get_or, arith}
use Rattle.std.proofs.lemmas.Grind.{common_steps}
use Rattle.mw_term.specs.Facts.{facts_joined, facts_of}
use Rattle.mw_term.specs.declared.told.Told.{Told}
use Rattle.mw_term.proofs.LastTold.{joined_early, joined_next, joined_whole}
use Rattle.mw_term.proofs.told.join_last.Goals as goal

pub returns-then-is : goal.returns-then-is
returns-then-is c =
    let k = c.loop-at.invariant in
    let (b, j) = k.joined in
    let told = c.loop-at.told.items in
    let x : Told = c.index.result.now in
    let at : x ≡ get_or told c.loop-at.at x = grind (arith, common_steps) in
    let a : facts_joined x.facts (facts_of c.args.term.now) ≡ x.facts = sym (c.joined-all.ensures ∙ ap (facts_joined x.facts) c.facts-facts.ensures) ∙ c.is.ensures.0 c.if-is.true in
    (b, joined_early b c.loop-at.at told c.args.terms.now c.args.term.now x j k.some (omega (arith, c.loop-at-test.true, c.len.ensures)) at a)

pub loop-at-preserved : goal.loop-at-preserved
loop-at-preserved c =
    let k = c.loop-at.invariant in
    let (b, j) = k.joined in
    let told = c.loop-at.told.items in
    let x : Told = c.index.result.now in
    let at : x ≡ get_or told c.loop-at.at x = grind (arith, common_steps) in
    let a : c.joined-all.result ≡ facts_joined x.facts (facts_of c.args.term.now) = c.joined-all.ensures ∙ ap (facts_joined x.facts) c.facts-facts.ensures in
    record {
      some = omega arith;
      joined = (b, joined_next b c.loop-at.at told c.args.terms.now c.args.term.now x c.joined-all.result j k.some (omega (arith, c.loop-at-test.true, c.len.ensures)) at a);
    }

pub returns : goal.returns
returns c =
    let (b, j) = c.loop-at.invariant.joined in (b, joined_whole b c.loop-at.at c.loop-at.told.items c.args.terms.now c.args.term.now j (omega (arith, c.loop-at-test.false, c.len.ensures)))
