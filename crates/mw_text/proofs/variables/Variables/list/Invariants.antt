use Rattle.std.proofs.Common.{◌≡◌, ◌++◌, map, length}
use Rattle.mw_text.specs.Mentions.{seen_key}
use Rattle.mw_text.proofs.variables.Variables.list.Given as goal

abbrev pub invariant-loop-rest : goal.invariant-loop-rest
invariant-loop-rest l = l.variables.items ++ map seen_key l.rest ≡ l.self

abbrev pub decreases-loop-rest : goal.decreases-loop-rest
decreases-loop-rest l = length l.rest
