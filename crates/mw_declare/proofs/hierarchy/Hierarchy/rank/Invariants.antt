use Rattle.std.proofs.Common.{◌≡◌, ◌++◌, None, drop, map}
use Rattle.mw_term.specs.Signatures.{sorted_of}
use Rattle.mw_module.specs.Sortings.{seen_sorting, seen_sortings}
use Rattle.mw_declare.specs.Hierarchy.{kind_in, sorted_in}
use Rattle.mw_declare.specs.Faults.{unknown_among, mentioned_by}
use Rattle.mw_declare.proofs.hierarchy.Hierarchy.rank.Given as goal

abbrev pub invariant-loop-arg : goal.invariant-loop-arg
invariant-loop-arg l = let rest = seen_sortings (drop l.arg-index l.args) in record {
  sorts : map sorted_of l.sorts.items ++ map (sorted_in l.self) rest ≡ map (sorted_in l.self) (seen_sortings l.args);
  kinds : l.kinds.items ++ map (kind_in l.self) rest ≡ map (kind_in l.self) (seen_sortings l.args);
  known : unknown_among l.self.names (mentioned_by rest (seen_sorting l.value)) ≡ None;
}
