use Rattle.std.proofs.Common.{◌≤◌, ◌+◌, length}
use Rattle.mw_logic.specs.NormalForm.{height, highest}
use Rattle.mw_term.specs.Raws.{raw_term, raw_terms}
use Rattle.mw_flat.proofs.records.Records.+form.Given as goal

abbrev pub decreases-form : goal.decreases-form
decreases-form l = height (raw_term l.term.now)

abbrev pub invariant-loop-rest : goal.invariant-loop-rest
invariant-loop-rest l = highest (raw_terms l.rest) + 1 ≤ height (raw_term l.term)

abbrev pub decreases-loop-rest : goal.decreases-loop-rest
decreases-loop-rest l = length l.rest
