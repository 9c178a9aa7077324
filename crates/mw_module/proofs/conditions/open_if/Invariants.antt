use Rattle.std.proofs.Common.{◌≡◌, ◌++◌, ◌+◌, ◌≤◌, min, length, drop}
use Rattle.mw_module.specs.Conditions.{closing, count_open, before_open}
use Rattle.mw_module.proofs.conditions.open_if.Given as goal

-- what is found among the tokens behind those that are left
abbrev pub invariant-loop-rest : goal.invariant-loop-rest
invariant-loop-rest l =
    let behind = drop (length l.rest) l.tokens in
    record {
      whole : l.rest ++ behind ≡ l.tokens;
      closing : l.closing ≡ closing behind;
      unclosed : l.unclosed ≡ count_open behind;
      at : l.at ≡ length l.rest + before_open behind;
      few : l.closing + length l.rest ≤ length l.tokens;
      fewer : l.unclosed + length l.rest ≤ length l.tokens;
      inside : l.at + min l.unclosed 1 ≤ length l.tokens;
    }

abbrev pub decreases-loop-rest : goal.decreases-loop-rest
decreases-loop-rest l = length l.rest
