use Rattle.std.proofs.Common.{◌∙◌, ◌++◌, sym, ap, arith, append_assoc}
use Rattle.std.proofs.lemmas.Fmt.{decimal_step_wide, decimal_digit}
use Rattle.mw_print.proofs.writer.+push_decimal.Goals as goal

pub returns : goal.returns
returns t c =
    let old = c.args.text.now.items in
    rw (c.in_ok-push-2.ensures.items, c.in_ok-push_decimal.ensures, decimal_step_wide c.args.number c.if-number-lt10.false (let fits = c.ranges.number.fits in omega (arith, fits))) (append_assoc old _ _)

pub returns-then-number-lt10 : goal.returns-then-number-lt10
returns-then-number-lt10 t c = c.in_ok-push.ensures.items ∙ ap (λ x. c.args.text.now.items ++ x) (sym (decimal_digit c.args.number c.if-number-lt10.true))
