use Rattle.std.proofs.Common.{◌≡◌, drop}
use Rattle.mw_logic.specs.Accepted.{is_member}
use Rattle.mw_declare.specs.Freezing.{places_in}
use Rattle.mw_declare.proofs.freezing.is_listed.Given as goal

abbrev pub invariant-loop-word : goal.invariant-loop-word
invariant-loop-word l = is_member l.place (places_in l.arity (drop l.word-index l.words)) ≡ is_member l.place (places_in l.arity l.words)
