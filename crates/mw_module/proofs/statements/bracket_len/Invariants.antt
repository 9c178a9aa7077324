use Rattle.std.proofs.Common.{◌≡◌, ◌+◌, ◌≤◌, length, reverse, option_map}
use Rattle.mw_module.specs.Statements.{bracket_len}
use Rattle.mw_module.proofs.statements.bracket_len.Given as goal

abbrev pub invariant-loop-rest : goal.invariant-loop-rest
invariant-loop-rest l = record {
  len : option_map (λ k. l.len + k) (bracket_len l.depth (reverse l.rest)) ≡ bracket_len 0 (reverse l.tokens);
  size : l.len + length l.rest ≡ length l.tokens;
  few : l.depth ≤ l.len;
}

abbrev pub decreases-loop-rest : goal.decreases-loop-rest
decreases-loop-rest l = length l.rest
