use Rattle.std.proofs.Common.{◌≡◌, ◌*◌, ◌+◌, ◌≤◌, ◌++◌, length, map}
use Rattle.mw_logic.specs.NormalForm.{height, highest}
use Rattle.mw_term.specs.Raws.{raw_term, raw_terms}
use Rattle.mw_omod.proofs.copying.+copied.Given as goal

abbrev pub decreases-copied : goal.decreases-copied
decreases-copied l = 2 * height (raw_term l.term.now)

abbrev pub decreases-all_copied : goal.decreases-all_copied
decreases-all_copied l = 2 * highest (raw_terms l.terms.now) + 1

abbrev pub invariant-all_copied-loop-rest : goal.invariant-all_copied-loop-rest
invariant-all_copied-loop-rest l = record {
  terms : map raw_term l.found.items ++ map raw_term l.rest ≡ map raw_term l.fn.terms;
  high : highest (raw_terms l.rest) ≤ highest (raw_terms l.fn.terms);
}

abbrev pub decreases-all_copied-loop-rest : goal.decreases-all_copied-loop-rest
decreases-all_copied-loop-rest l = length l.rest
