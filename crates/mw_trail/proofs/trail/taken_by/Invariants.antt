use Rattle.std.proofs.Common.{◌≡◌, ◌+◌, drop}
use Rattle.mw_trail.specs.Tracks.{needed, counted}
use Rattle.mw_trail.proofs.trail.taken_by.Given as goal

abbrev pub invariant-loop-item : goal.invariant-loop-item
invariant-loop-item l = (l.values + needed (drop l.item-index l.items) ≡ needed l.items) × (l.numbers + counted (drop l.item-index l.items) ≡ counted l.items)
