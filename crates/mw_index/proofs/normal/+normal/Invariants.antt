use Rattle.std.proofs.Common.{◌≡◌, ◌+◌, ◌*◌, drop}
use Rattle.mw_logic.specs.NormalForm.{height, highest, normal_forms}
use Rattle.mw_logic.specs.Term.{join}
use Rattle.mw_logic.specs.Terms.{terms_of}
use Rattle.mw_term.specs.Raws.{raw_term, raw_terms}
use Rattle.mw_index.proofs.normal.+normal.Given as goal

abbrev pub decreases-normal : goal.decreases-normal
decreases-normal l = 2 * height (raw_term l.raw.now)

abbrev pub decreases-all_normal : goal.decreases-all_normal
decreases-all_normal l = 2 * highest (raw_terms l.raws.now) + 1

abbrev pub invariant-all_normal-loop-raw : goal.invariant-all_normal-loop-raw
invariant-all_normal-loop-raw l = join (terms_of l.made.items) (normal_forms l.facts (raw_terms (drop l.raw-index l.raws))) ≡ normal_forms l.facts (raw_terms l.raws)
