use Rattle.std.proofs.Common.{sym}
use Rattle.mw_search.proofs.Elements.{no_identity_by}
use Rattle.mw_search.proofs.positions.identity.Goals as goal

pub returns-in_default : goal.returns-in_default
returns-in_default c = sym (no_identity_by c.args.facts.now c.args.operator c.axioms.result c.in_default.not-Associative c.shows.ensures c.axioms.ensures)
