use Rattle.mw_logic.proofs.ReplacingFound.{replaces-iff}
use Rattle.mw_logic.proofs.replaced_by_normal_form.Goals as goal

pub returns : goal.returns
returns c = λ sig ok by_rule t w v u a b c d h. replaces-iff sig ok a b c d h
