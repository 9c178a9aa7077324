use Rattle.std.proofs.Common.{drop}
use Rattle.mw_logic.specs.Terms.{terms_of}
use Rattle.mw_match.proofs.Taking.{IsLeaving}
use Rattle.mw_match.proofs.takes.without.Given as goal

abbrev pub invariant-loop-arg : goal.invariant-loop-arg
invariant-loop-arg l = IsLeaving (terms_of l.gone) (terms_of l.args) l.left.items (terms_of l.rest) (terms_of (drop l.arg-index l.args))
