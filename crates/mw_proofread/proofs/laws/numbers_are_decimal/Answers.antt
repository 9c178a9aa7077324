use Rattle.mw_proofread.proofs.Decimals.{numbers_decimal}
use Rattle.mw_proofread.proofs.laws.numbers_are_decimal.Goals as goal

pub returns : goal.returns
returns c = numbers_decimal
