use Rattle.std.proofs.Common.{◌≡◌, map, take}
use Rattle.mw_text.proofs.interned.Names.list.Given as goal

abbrev pub invariant-loop-name : goal.invariant-loop-name
invariant-loop-name l = l.list.items ≡ map (λ n. n.items) (take l.name-index l.name-items)
