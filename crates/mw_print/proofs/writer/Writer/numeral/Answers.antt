use Rattle.std.proofs.Common.{false, refl, arith}
use Rattle.std.specs.Fmt.{decimal}
use Rattle.mw_print.specs.declared.writer.Writer.{Writer}
use Rattle.mw_print.specs.declared.writer.End.TheVariants.{Plain}
use Rattle.mw_print.proofs.Numbers.{decimal_inside, wrote_inside}
use Rattle.mw_print.proofs.writer.Writer.numeral.Goals as goal

pub returns : goal.returns
returns c =
    let new : Writer = record { text = c.push_decimal.new.text; end = Plain } in
    let fits = c.ranges.number.fits in
    wrote_inside c.args.self.now new (decimal c.args.number) false (decimal_inside c.args.number (omega (arith, fits))) (rw (c.in_ok-push_decimal.ensures, c.in_ok-space.ensures) refl) refl
