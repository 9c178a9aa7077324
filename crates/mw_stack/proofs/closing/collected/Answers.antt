use Rattle.std.proofs.Common.{◌<◌, ◌∙◌, length, drop, sym, arith}
use Rattle.std.proofs.lemmas.List.{length-drop}
use Rattle.std.proofs.lemmas.Result.{IfOk-weaker}
use Rattle.mw_canon.proofs.Listing.{rebuilt_several}
use Rattle.mw_stack.proofs.closing.collected.Goals as goal

pub returns-then-count-gt1-clause-is : goal.returns-then-count-gt1-clause-is
returns-then-count-gt1-clause-is c =
    let several : 1 < length (drop c.args.from c.args.done.now.items) = omega (arith, length-drop c.args.from c.args.done.now.items, c.args.done.now.ok.0, c.len.ensures, c.saturating_sub-count.ensures, c.if-count-gt1.true) in
    IfOk-weaker c.apply_behind.result _ _ (λ t e. e ∙ sym (rebuilt_several _ c.args.operator _ several)) c.apply_behind.ensures.is
