use Rattle.std.proofs.Common.{arith}
use Rattle.mw_tests.proofs.Numbers.{numeral_term}
use Rattle.mw_tests.proofs.numerals.shows_numeral.Goals as goal

pub returns : goal.returns
returns c = numeral_term c.args.number (omega (arith, c.ranges.number.fits))
