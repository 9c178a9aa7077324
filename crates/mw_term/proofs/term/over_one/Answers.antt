use Rattle.std.proofs.Common.{◌∙◌, ap, refl}
use Rattle.mw_logic.specs.Term.{nil, cons}
use Rattle.mw_term.specs.Facts.{facts_above}
use Rattle.mw_term.specs.Hashes.{hash_above as hash_over}
use Rattle.mw_term.proofs.KeptFacts.{facts_above-is, facts_of_one}
use Rattle.mw_term.proofs.term.over_one.Goals as goal

pub made-requires : goal.made-requires
made-requires c = (
  c.under-remainders.ensures ∙ ap (facts_above c.args.operator 1) (c.facts.ensures ∙ facts_of_one c.args.only) ∙ facts_above-is c.args.operator 1 (cons c.args.only nil) refl,
  c.hash_above-hash.ensures ∙ ap (hash_over c.args.operator) c.with_first.ensures,
  tt,
)
