use Rattle.std.proofs.Common.{◌≡◌, ◌≤◌, length, drop}
use Rattle.mw_logic.specs.Terms.{terms_of}
use Rattle.mw_term.specs.Hashes.{hash_sum as sum_of}
use Rattle.mw_term.proofs.hash.hash_sum.Given as goal

abbrev pub invariant-loop-at : goal.invariant-loop-at
invariant-loop-at l = record {
  inside : l.at ≤ length l.terms;
  sum : l.sum ≡ sum_of (terms_of (drop l.at l.terms));
}

abbrev pub decreases-loop-at : goal.decreases-loop-at
decreases-loop-at l = l.at
