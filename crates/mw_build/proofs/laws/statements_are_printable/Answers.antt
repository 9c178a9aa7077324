use Rattle.mw_build.proofs.Printing.{statements_are_printable}
use Rattle.mw_build.proofs.laws.statements_are_printable.Goals as goal

pub returns : goal.returns
returns c = statements_are_printable
