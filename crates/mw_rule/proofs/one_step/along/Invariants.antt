use Rattle.std.specs.Prelude.{slice_get}
use Rattle.std.proofs.Common.{◌≡◌, ◌+◌, ◌++◌, ℕ, List, Some, true, length, drop}
use Rattle.mw_logic.specs.Term.{RawTerm}
use Rattle.mw_logic.specs.Signature.{Signature}
use Rattle.mw_redex.specs.Paths.{at_path}
use Rattle.mw_redex.specs.Replaced.{IsOpenWay}
use Rattle.mw_redexes.specs.Spots.{AreWays}
use Rattle.mw_redexes.specs.declared.spots.Spot.{Spot}
use Rattle.mw_rule.proofs.one_step.along.Given as goal

-- so far the way was gone, and this is left of it
abbrev pub invariant-loop-i : goal.invariant-loop-i
invariant-loop-i l =
    (length l.spots.items ≡ l.i + 1)
    × ((sig : Signature) (end : RawTerm) (rest : List ℕ) → at_path l.term l.path ≡ Some end → IsOpenWay sig true (l.path ++ rest) l.term
    → AreWays sig l.term l.spots.items × ((s : Spot) × (slice_get l.spots.items l.i ≡ Some s) × (s.term.now ≡ l.here)) × (at_path l.here (drop l.i l.path) ≡ Some end) × IsOpenWay sig true (drop l.i l.path ++ rest) l.here)
