use Rattle.mw_search.proofs.Elements.{no_identity}
use Rattle.mw_index.proofs.Staying.{not_both, is_not_there}
use Rattle.mw_index.proofs.index.stays.Goals as goal

pub returns-in-Plain : goal.returns-in-Plain
returns-in-Plain c = λ h. (no_identity c.args.facts.now c.args.operator c.shows.ensures c.in-Plain.ensures.0, c.in-Plain.ensures.2)

pub returns-in-Commutative : goal.returns-in-Commutative
returns-in-Commutative c = λ h. (no_identity c.args.facts.now c.args.operator c.shows.ensures c.in-Commutative.ensures.0, c.in-Commutative.ensures.2)

pub returns-in-Associative : goal.returns-in-Associative
returns-in-Associative c = λ h. (
  is_not_there _ _ _ c.in-Associative.ensures.2 c.is_none.ensures h,
  not_both c.args.facts.now c.shows.ensures c.args.operator c.in-Associative.ensures.0,
)
