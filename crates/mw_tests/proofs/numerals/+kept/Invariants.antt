use Rattle.std.proofs.Common.{◌≤◌, ◌*◌, ◌+◌, length}
use Rattle.mw_logic.specs.NormalForm.{height, highest}
use Rattle.mw_term.specs.Raws.{raw_term, raw_terms}
use Rattle.mw_tests.proofs.numerals.+kept.Given as goal

abbrev pub decreases-kept : goal.decreases-kept
decreases-kept l = 2 * height (raw_term l.raw.now)

abbrev pub decreases-all_kept : goal.decreases-all_kept
decreases-all_kept l = 2 * highest (raw_terms l.args.now) + 1

abbrev pub invariant-all_kept-loop-rest : goal.invariant-all_kept-loop-rest
invariant-all_kept-loop-rest l = highest (raw_terms l.rest) ≤ highest (raw_terms l.args)

abbrev pub decreases-all_kept-loop-rest : goal.decreases-all_kept-loop-rest
decreases-all_kept-loop-rest l = length l.rest
