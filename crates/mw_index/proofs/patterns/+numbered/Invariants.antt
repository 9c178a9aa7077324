use Rattle.std.proofs.Common.{◌+◌, ◌*◌, drop}
use Rattle.mw_logic.specs.NormalForm.{height, highest}
use Rattle.mw_pattern.specs.Clean.{clean, clean_all}
use Rattle.mw_index.proofs.Walking.{Numbers}
use Rattle.mw_index.proofs.patterns.+numbered.Given as goal

abbrev pub decreases-numbered : goal.decreases-numbered
decreases-numbered l = 2 * height (clean l.pattern.now)

abbrev pub decreases-all_numbered : goal.decreases-all_numbered
decreases-all_numbered l = 2 * highest l.patterns.now + 1

abbrev pub invariant-all_numbered-loop-pattern : goal.invariant-all_numbered-loop-pattern
invariant-all_numbered-loop-pattern l = Numbers l.before (clean_all l.list) l.count (clean_all (drop l.pattern-index l.list))
