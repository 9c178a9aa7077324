use Rattle.std.proofs.Common.{◌≡◌, ◌<◌, ◌^◌, length}
use Rattle.mw_text.specs.Numerals.{number_in}
use Rattle.mw_text.proofs.Numbers.{number_behind}
use Rattle.mw_text.proofs.numerals.number.Given as goal

abbrev pub invariant-loop-rest : goal.invariant-loop-rest
invariant-loop-rest l = record {
  behind : number_behind l.number l.rest ≡ number_in l.text;
  within : l.number < 2 ^ 128;
}

abbrev pub decreases-loop-rest : goal.decreases-loop-rest
decreases-loop-rest l = length l.rest
