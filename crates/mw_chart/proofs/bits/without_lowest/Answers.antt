use Rattle.std.proofs.Common.{rules}
use Rattle.mw_chart.proofs.Sets.{cleared}
use Rattle.mw_chart.proofs.bits.without_lowest.Goals as goal

pub returns-clause-less : goal.returns-clause-less
returns-clause-less c = (cleared c.args.word c.requires (search rules)).0

pub returns-clause-rest : goal.returns-clause-rest
returns-clause-rest c = (cleared c.args.word c.requires (search rules)).1
