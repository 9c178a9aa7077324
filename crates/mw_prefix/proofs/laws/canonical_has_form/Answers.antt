use Rattle.mw_prefix.proofs.CanonicalForms.{canonical_form}
use Rattle.mw_prefix.proofs.laws.canonical_has_form.Goals as goal

pub returns : goal.returns
returns c = canonical_form
