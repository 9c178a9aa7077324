use Rattle.std.specs.Prelude.{◌≡◌, drop}
use Rattle.mw_prefix.specs.Forms.{token_texts}
use Rattle.mw_prefix.specs.Reading as spec
use Rattle.mw_prefix.specs.States.{state_of}
use Rattle.mw_prefix.proofs.reading.read.Given as goal

abbrev pub invariant-loop-token : goal.invariant-loop-token
invariant-loop-token l = spec.run l.facts (state_of l.levels.items l.last) (token_texts (drop l.token-index l.tokens)) ≡ spec.read l.facts (token_texts l.tokens)
