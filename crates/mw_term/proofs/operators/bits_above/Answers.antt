use Rattle.std.proofs.Common.{◌≡◌, ◌∙◌, ◌^◌, leb, false, ap, sym, arith}
use Rattle.std.specs.Prelude.{cond}
use Rattle.std.specs.Int.Bits.{bit_or, or_zero_r}
use Rattle.mw_term.specs.OperatorSets.{operator_bit}
use Rattle.mw_term.proofs.operators.bits_above.Goals as goal

pub returns-else-count-ge-LONG : goal.returns-else-count-ge-LONG
returns-else-count-ge-LONG c =
    let e : leb 8 c.args.count ≡ false = grind (arith, c.if-count-ge-LONG.false) in
    c.remainder_bit-else-count-ge-LONG.ensures ∙ sym (ap (λ l. bit_or (operator_bit c.args.operator) (cond l (2 ^ 31) 0)) e ∙ or_zero_r (operator_bit c.args.operator))
