use Rattle.std.proofs.Common.{◌≡◌, ◌++◌, List, take, drop, length}
use Rattle.mw_logic.specs.Term.{RawTerm, join}
use Rattle.mw_logic.specs.Terms.{terms_of}
use Rattle.mw_frames.specs.Jobs.{rest}
use Rattle.mw_frames.proofs.whole.put_rest.Given as goal

abbrev pub invariant-loop-job : goal.invariant-loop-job
invariant-loop-job l =
    (take l.waits l.jobs.items ≡ take l.waits l.fn.jobs.items)
    × ((ws : List RawTerm) × (l.done.items ≡ l.fn.done.items ++ ws) × (join (terms_of ws) (rest l.facts l.values (drop l.waits l.jobs.items)) ≡ rest l.facts l.values (drop l.waits l.fn.jobs.items)))

abbrev pub decreases-loop-job : goal.decreases-loop-job
decreases-loop-job l = length l.jobs.items
