use Rattle.std.proofs.Common.{map, option_map}
use Rattle.mw_term.specs.Signatures.{identity_of}
use Rattle.mw_declare.proofs.Tables.{operators_held}
use Rattle.mw_declare.proofs.Wrong.{IsLeft}
use Rattle.mw_declare.proofs.operators.DeclaredOperators.identities.Given as goal

abbrev pub invariant-loop-profile : goal.invariant-loop-profile
invariant-loop-profile l = IsLeft l.built l.self (operators_held l.profile-iterator) (map (option_map identity_of) l.identities.items)
