use Rattle.mw_match.proofs.Numbers.{other_number_there}
use Rattle.mw_match.proofs.parts.Parts.has_other_number.Goals as goal

pub returns : goal.returns
returns c w =
    other_number_there c.args.self.now.context.now.signature c.facts-facts.result.now c.args.self.now.compiled.now.positions.single.items c.args.self.now.compiled.now.pattern c.args.self.now.subject
    c.in-Op.operator c.in-Op.patterns.now c.parts-number.result.now c.leading_rigid.result c.facts-facts.ensures c.in-Op.ensures c.in-Associative.ensures.0 c.parts-number.ensures c.if-number-patterns.false c.leading_rigid.ensures w
