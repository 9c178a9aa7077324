use Rattle.std.proofs.Common.{◌∙◌, map, ap, sym}
use Rattle.mw_term.specs.Raws.{raw_term}
use Rattle.mw_omod.specs.Objects.{joined_before}
use Rattle.mw_omod.proofs.Moving.{popped}
use Rattle.mw_omod.proofs.joining.joined.Goals as goal

pub loop-part-preserved : goal.loop-part-preserved
loop-part-preserved c =
    ap (joined_before c.args.operator (map raw_term c.pop.new.self.items)) c.in_ok-joined.ensures
    ∙ sym (popped c.args.operator c.loop-part.parts.items c.pop.new.self.items c.in-Some.part (raw_term c.loop-part.joined) c.in-Some.ensures.items) ∙ c.loop-part.invariant
