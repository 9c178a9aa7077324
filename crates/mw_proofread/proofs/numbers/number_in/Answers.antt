use Rattle.std.proofs.Common.{refl}
use Rattle.std.proofs.lemmas.Bool.{both_ways}
use Rattle.mw_proofread.proofs.Digits.{found_number, not_leading}
use Rattle.mw_proofread.proofs.numbers.number_in.Goals as goal

pub returns-then-is_leading : goal.returns-then-is_leading
returns-then-is_leading c = found_number c.args.text.now c.digits.result (c.if-is_leading.ensures.0 refl) c.digits.ensures

pub returns-else-is_leading : goal.returns-else-is_leading
returns-else-is_leading c = not_leading c.args.text.now (λ h. both_ways c.is_leading.result c.if-is_leading.false (c.is_leading.ensures.1 h))
