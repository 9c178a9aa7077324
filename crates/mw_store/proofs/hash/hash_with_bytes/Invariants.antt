use Rattle.std.proofs.Common.{◌≡◌, drop}
use Rattle.mw_store.specs.Hashes.{mix_all}
use Rattle.mw_store.proofs.hash.hash_with_bytes.Given as goal

abbrev pub invariant-loop-byte : goal.invariant-loop-byte
invariant-loop-byte l = mix_all l.hash (drop l.byte-index l.bytes) ≡ mix_all l.fn.hash l.bytes
