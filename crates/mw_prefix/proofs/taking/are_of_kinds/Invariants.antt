use Rattle.std.proofs.Common.{◌≡◌, drop}
use Rattle.mw_term.specs.Raws.{raw_terms}
use Rattle.mw_prefix.specs.Taking as spec
use Rattle.mw_prefix.proofs.taking.are_of_kinds.Given as goal

abbrev pub invariant-loop-index : goal.invariant-loop-index
invariant-loop-index l = spec.are_of_kinds l.facts (drop l.index l.wanted) (raw_terms (drop l.index l.terms)) ≡ spec.are_of_kinds l.facts l.wanted (raw_terms l.terms)
