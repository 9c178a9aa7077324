use Rattle.std.proofs.Common.{◌≡◌, ◌&&◌, ℕ, nat_eq, drop}
use Rattle.std.specs.List.{list_any}
use Rattle.mw_declare.proofs.built.is_pair.Given as goal

abbrev pub invariant-loop-pair : goal.invariant-loop-pair
invariant-loop-pair l = list_any (λ (p : ℕ × ℕ). nat_eq p.0 l.lower && nat_eq p.1 l.upper) (drop l.pair-index l.pairs) ≡ list_any (λ (p : ℕ × ℕ). nat_eq p.0 l.lower && nat_eq p.1 l.upper) l.pairs
