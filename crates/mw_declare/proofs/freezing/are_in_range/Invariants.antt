use Rattle.std.proofs.Common.{◌≡◌, drop, is_some}
use Rattle.std.specs.List.{list_all}
use Rattle.mw_declare.specs.Meaning.{Name}
use Rattle.mw_declare.specs.Freezing.{place_in, are_in_range}
use Rattle.mw_module.specs.Attributes.{seen_attributes}
use Rattle.mw_declare.proofs.freezing.are_in_range.Given as goal

abbrev pub invariant-loop-word : goal.invariant-loop-word
invariant-loop-word l = list_all (λ (text : Name). is_some (place_in l.arity text)) (drop l.word-index l.said.frozen.items) ≡ are_in_range l.arity (seen_attributes l.said)
