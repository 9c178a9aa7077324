use Rattle.std.proofs.Common.{◌≡◌, ◌++◌, ℕ, take}
use Rattle.std.specs.Prelude.{map}
use Rattle.mw_poset.proofs.direct.both_ways.Given as goal

abbrev pub invariant-loop-lower : goal.invariant-loop-lower
invariant-loop-lower l = l.both.items ≡ l.pairs ++ map (λ (p : ℕ × ℕ). (p.1, p.0)) (take l.lower-index l.pairs)
