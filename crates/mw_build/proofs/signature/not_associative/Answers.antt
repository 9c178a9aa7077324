use Rattle.std.proofs.Common.{◌∙◌, ap, map}
use Rattle.mw_term.specs.Signatures.{sorted_of}
use Rattle.mw_module.specs.declared.faults.FaultKind.TheVariants.{NotAssociative}
use Rattle.mw_build.specs.SignatureFaults.{groupings}
use Rattle.mw_build.proofs.Naming.{results_there}
use Rattle.mw_build.proofs.signature.not_associative.Goals as goal

pub operator_name-requires : goal.operator_name-requires
operator_name-requires c = (c.requires.first.operator, c.requires.first.is_there)

pub names-requires-clause-there : goal.names-requires-clause-there
names-requires-clause-there c = let f = c.requires.first in results_there c.args.signature.now c.requires.numbers c.args.operator f.operator f.is_there _ f.grouping.entries

pub returns : goal.returns
returns c = λ line.
    let first = c.requires.first in
    groupings c.args.operator (map sorted_of c.args.sorts.now) first c.requires.preregular
    (ap (λ n. record { line = line; kind = NotAssociative n c.in_ok-sorts.sorts }) (c.in_ok-operator.ensures first.operator first.is_there) ∙ ap (λ ns. record { line = line; kind = NotAssociative first.operator.spelling ns }) c.in_ok-sorts.ensures)
