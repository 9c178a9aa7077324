use Rattle.mw_fitting.proofs.Fitting.{fits_under}
use Rattle.mw_fitting.proofs.fits_under.Goals as goal

pub returns : goal.returns
returns c = fits_under
