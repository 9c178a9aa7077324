use Rattle.mw_sorts.specs.Sorting.{ArePlacesOf}
use Rattle.mw_sorts.proofs.sorting.Sorting.of.Given as goal

abbrev pub invariant-loop-index : goal.invariant-loop-index
invariant-loop-index l = ArePlacesOf l.signature l.index l.places.items l.members.items
