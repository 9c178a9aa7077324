use Rattle.std.proofs.Common.{◌∙◌, subst, sym}
use Rattle.mw_multiset.specs.Together.{parts}
use Rattle.mw_gather.specs.Gatherings.{IsGathered}
use Rattle.mw_gather.proofs.Gathers.{gathered_first, parts_seen}
use Rattle.mw_gather.proofs.gathering.Gathered.of.Goals as goal

pub returns-clause-elements : goal.returns-clause-elements
returns-clause-elements c = c.in_ok-elements.ensures ∙ parts_seen c.args.context.now c.args.operator c.facts.result.now c.args.term.now c.parts.result.now c.facts.ensures c.parts.ensures

pub invariant_of-result : goal.invariant_of-result
invariant_of-result c =
    let M = c.args.context.now in
    let f = c.args.operator in
    let t = c.args.term.now in
    let h = gathered_first M f t c.new.result c.requires.of c.requires.admitted c.requires.shallow (c.new.ensures.moves M) in
    let e = c.in_ok-elements.ensures ∙ parts_seen M f c.facts.result.now t c.parts.result.now c.facts.ensures c.parts.ensures in
    subst (λ es. IsGathered M f c.in_ok-from.from es c.new.result) (sym e) (subst (λ u. IsGathered M f u (parts M.signature f t) c.new.result) (sym c.in_ok-from.ensures) h)
