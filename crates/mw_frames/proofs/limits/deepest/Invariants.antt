use Rattle.std.proofs.Common.{◌≡◌, ◌-◌, ◌^◌, ◌≤◌, min, max, drop}
use Rattle.mw_logic.specs.Terms.{terms_of}
use Rattle.mw_logic.specs.NormalForm.{highest}
use Rattle.mw_frames.proofs.limits.deepest.Given as goal

abbrev pub invariant-loop-term : goal.invariant-loop-term
invariant-loop-term l =
    (min (max l.most (highest (terms_of (drop l.term-index l.terms)))) (2 ^ 16 - 1) ≡ min (highest (terms_of l.terms)) (2 ^ 16 - 1)) × (l.most ≤ 2 ^ 16 - 1)
