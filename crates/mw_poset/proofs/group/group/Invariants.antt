use Rattle.mw_poset.specs.Groups.{AreGroups}
use Rattle.mw_poset.proofs.group.group.Given as goal

abbrev pub invariant-loop-k : goal.invariant-loop-k
invariant-loop-k l = AreGroups l.k l.kinds l.members.items l.places.items
