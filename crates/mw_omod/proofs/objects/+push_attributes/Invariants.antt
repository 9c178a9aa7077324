use Rattle.mw_logic.specs.NormalForm.{height}
use Rattle.mw_term.specs.Raws.{raw_term}
use Rattle.mw_omod.proofs.objects.+push_attributes.Given as goal

abbrev pub decreases-push_attributes : goal.decreases-push_attributes
decreases-push_attributes l = height (raw_term l.set.now)
