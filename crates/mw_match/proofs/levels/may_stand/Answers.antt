use Rattle.std.proofs.Common.{inl, subst}
use Rattle.mw_search.specs.Clashes.{Clash}
use Rattle.mw_search.proofs.BagLists.{at_index}
use Rattle.mw_match.proofs.Choosing.{none_other}
use Rattle.mw_match.proofs.levels.may_stand.Goals as goal

pub returns-then-clashes-clause-not : goal.returns-then-clashes-clause-not
returns-then-clashes-clause-not c = λ _.
    inl (subst (Clash c.args.facts.now c.args.values.now c.args.pattern.now) (at_index c.args.elements.now c.args.index c.index-elements-index-2.result c.requires.there c.index-elements-index-2.is) (c.clashes.ensures c.if-clashes.true))

pub returns-then-has_other-clause-not : goal.returns-then-has_other-clause-not
returns-then-has_other-clause-not c = λ _.
    inl (subst (Clash c.args.facts.now c.args.values.now c.args.pattern.now) (at_index c.args.elements.now c.args.index c.index-elements-index.result c.requires.there c.index-elements-index.is)
    (none_other c.args.facts.now c.args.values.now c.args.pattern.now c.index-elements-index.result c.args.top c.requires.top (c.has_other.ensures c.if-has_other.true)))
