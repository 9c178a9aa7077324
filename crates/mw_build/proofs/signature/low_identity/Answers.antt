use Rattle.std.proofs.Common.{◌∙◌, ap}
use Rattle.mw_term.specs.Signatures.{sorted_of}
use Rattle.mw_module.specs.declared.faults.FaultKind.TheVariants.{LowIdentity}
use Rattle.mw_build.specs.SignatureFaults.{identity}
use Rattle.mw_build.proofs.Naming.{entry_there}
use Rattle.mw_build.proofs.signature.low_identity.Goals as goal

pub operator_name-requires : goal.operator_name-requires
operator_name-requires c = (c.requires.first.operator, c.requires.first.is_there)

pub name-requires-clause-there : goal.name-requires-clause-there
name-requires-clause-there c = let f = c.requires.first in entry_there c.args.signature.now c.requires.numbers c.args.operator f.operator f.is_there _ f.left.entry

pub returns : goal.returns
returns c = λ line.
    let first = c.requires.first in
    identity c.args.operator (sorted_of c.args.sort) first c.requires.preregular c.requires.associative
    (ap (λ n. record { line = line; kind = LowIdentity n c.in_ok-sort.sort }) (c.in_ok-operator.ensures first.operator first.is_there) ∙ ap (λ n. record { line = line; kind = LowIdentity first.operator.spelling n }) c.in_ok-sort.ensures)
