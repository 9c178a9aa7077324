use Rattle.std.proofs.Common.{◌∙◌, ap, sym}
use Rattle.std.specs.Prelude.{not}
use Rattle.mw_frames.specs.Jobs.{is_sure}
use Rattle.mw_frames.proofs.Values.{sure_op}
use Rattle.mw_frames.proofs.coming.is_sure.Goals as goal

pub returns-then-f-top : goal.returns-then-f-top
returns-then-f-top c = ap not c.is_empty.ensures ∙ sure_op c.args.top c.in-Op.f c.in-Op.args.now c.if-top-eq0.false c.if-f-top.true ∙ sym (ap (is_sure c.args.top) c.in-Op.ensures)
