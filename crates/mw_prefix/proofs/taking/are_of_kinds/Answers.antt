use Rattle.std.proofs.Common.{arith}
use Rattle.mw_prefix.proofs.Listed.{other_length, member_at}
use Rattle.mw_prefix.proofs.taking.are_of_kinds.Goals as goal

pub returns-then-wanted-terms : goal.returns-then-wanted-terms
returns-then-wanted-terms c = other_length c.args.facts.now c.args.wanted.now c.args.terms.now c.if-wanted-terms.true

pub is_of_kind-requires-clause-kind : goal.is_of_kind-requires-clause-kind
is_of_kind-requires-clause-kind c = c.requires.wanted _ (member_at c.args.wanted.now c.loop-index.index (omega arith))
