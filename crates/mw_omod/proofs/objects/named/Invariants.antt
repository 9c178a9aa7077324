use Rattle.std.proofs.Common.{◌≡◌, ◌+◌, length, drop}
use Rattle.mw_omod.specs.Seen.{OneHas}
use Rattle.mw_omod.proofs.objects.named.Given as goal

abbrev pub invariant-loop-rest : goal.invariant-loop-rest
invariant-loop-rest l = record {
  behind : l.rest ≡ drop l.index l.fn.elements;
  length : l.index + length l.rest ≡ length l.fn.elements;
  has : OneHas (λ w. w.form ≡ l.form) l.fn.elements → OneHas (λ w. w.form ≡ l.form) l.rest;
}

abbrev pub decreases-loop-rest : goal.decreases-loop-rest
decreases-loop-rest l = length l.rest
