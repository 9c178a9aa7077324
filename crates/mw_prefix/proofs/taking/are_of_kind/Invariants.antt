use Rattle.std.proofs.Common.{◌≡◌, drop}
use Rattle.mw_term.specs.Raws.{raw_terms}
use Rattle.mw_prefix.specs.Taking as spec
use Rattle.mw_prefix.proofs.taking.are_of_kind.Given as goal

abbrev pub invariant-loop-term : goal.invariant-loop-term
invariant-loop-term l = spec.are_of_kind l.facts l.kind (raw_terms (drop l.term-index l.terms)) ≡ spec.are_of_kind l.facts l.kind (raw_terms l.terms)
