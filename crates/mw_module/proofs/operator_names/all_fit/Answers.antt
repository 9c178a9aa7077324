use Rattle.std.proofs.Common.{◌∙◌, sym}
use Rattle.mw_module.proofs.Slices.{all_fitting}
use Rattle.mw_module.proofs.operator_names.all_fit.Goals as goal

pub returns : goal.returns
returns c = c.each_fits.ensures ∙ sym (all_fitting c.args.arity c.args.names.now)
