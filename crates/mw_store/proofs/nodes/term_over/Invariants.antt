use Rattle.std.proofs.Common.{◌≡◌, take}
use Rattle.mw_store.specs.Numbers.{terms_at}
use Rattle.mw_store.specs.Tables.{terms_in}
use Rattle.mw_store.proofs.nodes.term_over.Given as goal

abbrev pub invariant-loop-number : goal.invariant-loop-number
invariant-loop-number l = l.spare.items ≡ terms_at (terms_in l.kept) (take l.number-index l.arguments)
