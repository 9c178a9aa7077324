use Rattle.std.proofs.Common.{◌≡◌, map, length}
use Rattle.mw_text.specs.Mentions.{seen_key, missing_in}
use Rattle.mw_text.proofs.variables.Variables.missing_in.Given as goal

abbrev pub invariant-loop-rest : goal.invariant-loop-rest
invariant-loop-rest l = missing_in l.others (map seen_key l.rest) ≡ missing_in l.others l.self

abbrev pub decreases-loop-rest : goal.decreases-loop-rest
decreases-loop-rest l = length l.rest
