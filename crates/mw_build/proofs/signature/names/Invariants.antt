use Rattle.std.proofs.Common.{◌≡◌, ◌++◌, map, length}
use Rattle.mw_print.specs.Sorts.{sorted_name}
use Rattle.mw_term.specs.Signatures.{sorted_of}
use Rattle.mw_build.specs.SignatureFaults.{AreThere}
use Rattle.mw_build.proofs.signature.names.Given as goal

abbrev pub invariant-loop-rest : goal.invariant-loop-rest
invariant-loop-rest l = AreThere l.signature (map sorted_of l.rest)
    × (l.names.items ++ map (sorted_name l.signature) (map sorted_of l.rest) ≡ map (sorted_name l.signature) (map sorted_of l.sorts))

abbrev pub decreases-loop-rest : goal.decreases-loop-rest
decreases-loop-rest l = length l.rest
