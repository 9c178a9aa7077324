use Rattle.std.proofs.Common.{◌≡◌, ◌↔◌, ◌≤◌, ◌*◌, ◌+◌, length}
use Rattle.mw_logic.specs.NormalForm.{height, highest}
use Rattle.mw_term.specs.Raws.{raw_term, raw_terms}
use Rattle.mw_alike.proofs.raws.+raws.Given as goal

abbrev pub decreases-same_raw : goal.decreases-same_raw
decreases-same_raw l = 2 * height (raw_term l.one.now)

abbrev pub decreases-same_raws : goal.decreases-same_raws
decreases-same_raws l = 2 * highest (raw_terms l.ones.now) + 1

abbrev pub invariant-same_raws-loop-rest : goal.invariant-same_raws-loop-rest
invariant-same_raws-loop-rest l = record {
  left : (raw_terms l.ones ≡ raw_terms l.others) ↔ (raw_terms l.rest ≡ raw_terms l.left);
  low : highest (raw_terms l.rest) ≤ highest (raw_terms l.ones);
}

abbrev pub decreases-same_raws-loop-rest : goal.decreases-same_raws-loop-rest
decreases-same_raws-loop-rest l = length l.rest
