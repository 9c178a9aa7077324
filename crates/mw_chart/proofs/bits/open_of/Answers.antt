use Rattle.mw_chart.proofs.Sets.{open_bits}
use Rattle.mw_chart.proofs.bits.open_of.Goals as goal

pub returns : goal.returns
returns c = open_bits c.args.word c.args.full
