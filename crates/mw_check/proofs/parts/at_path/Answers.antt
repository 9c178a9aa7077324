use Rattle.std.proofs.Common.{◌∙◌, sym}
use Rattle.mw_check.proofs.Chosen.{step_on, no_step}
use Rattle.mw_check.proofs.parts.at_path.Goals as goal

pub returns-in_err-here : goal.returns-in_err-here
returns-in_err-here c = rw c.from_residual.ensures (sym (no_step c.loop-rest.here.now c.in-Op.field-0 c.in-Op.args.now c.loop-rest.rest.now c.in-len1-up.len_at_least c.in-Op.ensures (sym c.in_err-here.ensures)) ∙ c.loop-rest.invariant)

pub loop-rest-preserved : goal.loop-rest-preserved
loop-rest-preserved c = step_on c.loop-rest.here.now c.in_ok-here.here.now c.in-Op.field-0 c.in-Op.args.now c.loop-rest.rest.now c.in-len1-up.len_at_least c.in-Op.ensures (sym c.in_ok-here.ensures) ∙ c.loop-rest.invariant
