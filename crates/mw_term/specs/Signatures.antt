-- Sorts, identities and holes as the logic has them.
use Rattle.mw_logic.specs.Signature as logic
use Rattle.mw_term.specs.declared.signature.Sorted.{Sorted}
use Rattle.mw_term.specs.declared.signature.Sorted.TheVariants.{Sort, Kind}
use Rattle.mw_term.specs.declared.signature.Identity.{Identity}
use Rattle.mw_term.specs.declared.signature.Identity.TheVariants.{Constant, Nat}
use Rattle.mw_term.specs.declared.signature.Gather.{Gather}
use Rattle.mw_term.specs.declared.signature.Gather.TheVariants.{Less, Most, Any}

abbrev pub sorted_of : Sorted → logic.Sorted
sorted_of (Sort s) = logic.sort s
sorted_of (Kind k) = logic.kind k

abbrev pub identity_of : Identity → logic.Identity
identity_of (Constant c) = logic.constant_of c
identity_of (Nat n) = logic.numeral_of n

abbrev pub gather_of : Gather → logic.Gather
gather_of Less = logic.less
gather_of Most = logic.most
gather_of Any = logic.any
