use Rattle.std.proofs.Common.{◌≡◌, ℕ, true}
use Rattle.mw_matching.specs.Found.{is_among}
use Rattle.mw_compile.specs.Singles.{IsOne}
use Rattle.mw_compile.proofs.singles.Singles.over.Given as goal

abbrev pub invariant-loop-joining : goal.invariant-loop-joining
invariant-loop-joining l = (f : ℕ) → is_among f l.found.items ≡ true → IsOne l.self f l.sort
