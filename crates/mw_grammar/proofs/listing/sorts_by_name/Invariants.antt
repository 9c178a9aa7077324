use Rattle.std.proofs.Common.{take}
use Rattle.mw_grammar.specs.Compiled.{Extends}
use Rattle.mw_grammar.specs.Leaves.{IsNamed}
use Rattle.mw_grammar.specs.Listing.{Lists}
use Rattle.mw_grammar.proofs.listing.sorts_by_name.Given as goal

-- the sorts so far are listed by their names
pub record AreListed (l : goal.Live-loop-i) : Type 0 where
  pub names : Extends l.initial.names l.names
  pub listed : Lists l.names l.lists.items (IsNamed (take l.i l.sorts))

abbrev pub invariant-loop-i : goal.invariant-loop-i
invariant-loop-i l = AreListed l
