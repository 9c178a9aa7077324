use Rattle.std.proofs.Common.{◌≡◌, ◌++◌, map, option_map}
use Rattle.mw_term.specs.Signatures.{identity_of}
use Rattle.mw_declare.specs.Operators.{identity_in, operator_of}
use Rattle.mw_declare.proofs.Tables.{operators_held}
use Rattle.mw_declare.proofs.operators.DeclaredOperators.list.Given as goal

abbrev pub invariant-loop-profile : goal.invariant-loop-profile
invariant-loop-profile l = record {
  same : l.operators.items ++ map (operator_of l.built l.fn.self) (operators_held l.profile-iterator) ≡ map (operator_of l.built l.fn.self) l.fn.self;
  left : map (option_map identity_of) l.rest ≡ map (identity_in l.built l.fn.self) (operators_held l.profile-iterator);
}
