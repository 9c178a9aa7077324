use Rattle.std.proofs.Common.{◌≡◌, drop}
use Rattle.mw_store.specs.Hashes.{mix_all}
use Rattle.mw_store.proofs.hash.hash_with_all.Given as goal

abbrev pub invariant-loop-number : goal.invariant-loop-number
invariant-loop-number l = mix_all l.hash (drop l.number-index l.numbers) ≡ mix_all l.fn.hash l.numbers
