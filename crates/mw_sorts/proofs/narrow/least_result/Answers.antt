use Rattle.std.proofs.Common.{get_or}
use Rattle.mw_term.specs.Signatures.{sorted_of}
use Rattle.std.proofs.lemmas.Bool.{iff_false}
use Rattle.mw_poset.proofs.Members.{member-at}
use Rattle.mw_sorts.specs.States.{ways}
use Rattle.mw_sorts.proofs.Choosing.{alive-there, among-kind, none_least}
use Rattle.mw_sorts.proofs.narrow.least_result.Goals as goal

pub result_of-requires : goal.result_of-requires
result_of-requires c = alive-there (ways c.args.operator.now) c.args.alive.now 0 c.requires.alive c.in-len1-up.len_at_least

pub candidate-least-requires-clause-first : goal.candidate-least-requires-clause-first
candidate-least-requires-clause-first c = let r = c.result_of.ensures in (get_or c.args.alive.now 0 0, r.0, member-at c.args.alive.now 0 0 c.in-len1-up.len_at_least, r.1, r.2)

pub is_below_all-requires-clause-kind : goal.is_below_all-requires-clause-kind
is_below_all-requires-clause-kind c = (among-kind c.args.sorting.now.signature c.args.operator.now c.args.alive.now (sorted_of c.candidate-least.result) c.requires.operator c.candidate-least.ensures.among).0

pub returns-else-is_below_all : goal.returns-else-is_below_all
returns-else-is_below_all c =
    none_least c.args.sorting.now.signature (ways c.args.operator.now) c.args.operator.now.result c.args.alive.now (sorted_of c.candidate-least.result) c.candidate-least.ensures.among c.candidate-least.ensures.only
    (iff_false c.is_below_all.ensures c.if-is_below_all.false)
