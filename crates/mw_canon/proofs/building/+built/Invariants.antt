use Rattle.std.proofs.Common.{◌≡◌, ◌+◌, ◌*◌, drop}
use Rattle.std.specs.Prelude.{◌||◌, option_map}
use Rattle.mw_logic.specs.Term.{join}
use Rattle.mw_logic.specs.Terms.{terms_of}
use Rattle.mw_logic.specs.NormalForm.{flattened, some_largest}
use Rattle.mw_term.specs.Raws.{raw_term, raw_terms}
use Rattle.mw_term.specs.Signatures.{identity_of as identity_named}
use Rattle.mw_canon.specs.Made.{all_made, seen_terms}
use Rattle.mw_canon.proofs.Waiting.{weight, weights}
use Rattle.mw_canon.proofs.building.+built.Given as goal

abbrev pub decreases-built : goal.decreases-built
decreases-built l = 2 * weight (raw_term l.raw.now)

abbrev pub decreases-applied : goal.decreases-applied
decreases-applied l = 2 * weights (raw_terms l.args.now) + 2

abbrev pub decreases-all_built : goal.decreases-all_built
decreases-all_built l = 2 * weights (raw_terms l.args.now) + 1

abbrev pub decreases-gathered : goal.decreases-gathered
decreases-gathered l = 2 * weights (seen_terms l.terms.now) + 1

abbrev pub invariant-all_built-loop-arg : goal.invariant-all_built-loop-arg
invariant-all_built-loop-arg l = record {
  told : join (terms_of l.made.items) (all_made l.facts l.values (raw_terms (drop l.arg-index l.args))) ≡ all_made l.facts l.values (raw_terms l.args);
  large : l.large ≡ (l.fn.large || some_largest l.facts (terms_of l.made.items));
}

abbrev pub invariant-gathered-loop-raw : goal.invariant-gathered-loop-raw
invariant-gathered-loop-raw l = record {
  told : join (terms_of l.found.items) (flattened (option_map identity_named l.identity) l.operator (all_made l.facts l.values (seen_terms (drop l.raw-index l.terms))))
      ≡ flattened (option_map identity_named l.identity) l.operator (all_made l.facts l.values (seen_terms l.terms));
  large : l.large ≡ (l.fn.large || some_largest l.facts (terms_of l.found.items));
}
