use Rattle.mw_match.proofs.Joined.{pick_there}
use Rattle.mw_match.proofs.picks.are_picked.Goals as goal

pub returns : goal.returns
returns c w =
    pick_there c.args.facts.now c.args.compiled.now c.args.subject.now c.in-Op.operator c.in-Op-view.top c.in-Op-view.patterns.now c.in-Op.elements.now c.in-Associative.comm
    c.in-Op-view.ensures c.in-Op.ensures c.in-Associative.ensures.0 c.in-Associative.ensures.1 c.if-not-comm.false c.if-top-operator.false c.if-patterns-lt2.false c.if-patterns-elements.false (c.are_elements.ensures w)
