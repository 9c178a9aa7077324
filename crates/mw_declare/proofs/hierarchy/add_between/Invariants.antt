use Rattle.std.proofs.Common.{◌≡◌, ◌++◌, ℕ, drop, map}
use Rattle.mw_declare.specs.Hierarchy.{pairs_between}
use Rattle.mw_declare.proofs.hierarchy.add_between.Given as goal

abbrev pub invariant-loop-lower : goal.invariant-loop-lower
invariant-loop-lower l = l.pairs.items ++ pairs_between (drop l.lower-index l.lowers) l.uppers ≡ l.fn.pairs.items ++ pairs_between l.lowers l.uppers

abbrev pub invariant-loop-upper : goal.invariant-loop-upper
invariant-loop-upper l = l.pairs.items ++ map (λ (T : ℕ). (l.lower, T)) (drop l.upper-index l.uppers) ≡ l.initial.pairs.items ++ map (λ (T : ℕ). (l.lower, T)) l.uppers
