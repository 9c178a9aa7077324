use Rattle.std.proofs.Common.{take}
use Rattle.mw_logic.specs.Term.{Variable}
use Rattle.mw_logic.specs.Signature.{Member}
use Rattle.mw_grammar.specs.Compiled.{Extends}
use Rattle.mw_grammar.specs.Listing.{Lists}
use Rattle.mw_grammar.proofs.listing.variables_by_name.Given as goal

-- the variables so far are listed by their names
pub record AreListed (l : goal.Live-loop-variable) : Type 0 where
  pub names : Extends l.initial.names l.names
  pub listed : Lists l.names l.lists.items (λ n S. Member {X = Variable} (record { name = n; sort = S }) (take l.variable-index l.variables))

abbrev pub invariant-loop-variable : goal.invariant-loop-variable
invariant-loop-variable l = AreListed l
