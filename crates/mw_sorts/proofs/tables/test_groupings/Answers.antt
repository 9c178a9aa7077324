use Rattle.std.proofs.Common.{subst}
use Rattle.mw_sorts.specs.Groupings.{IsGroupingFaultIf}
use Rattle.mw_sorts.proofs.Tabling.{diagrams-preregular}
use Rattle.mw_sorts.proofs.tables.test_groupings.Goals as goal

pub returns-in-Some-clause-fault : goal.returns-in-Some-clause-fault
returns-in-Some-clause-fault c =
    let sig = c.args.signature.now in
    (diagrams-preregular sig c.args.sorting.now.places c.args.diagrams.now c.requires.diagrams, subst (IsGroupingFaultIf sig) c.in-Some.is c.in_ok-operator.ensures)
