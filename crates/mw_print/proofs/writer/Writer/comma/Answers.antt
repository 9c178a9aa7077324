use Rattle.std.proofs.Common.{refl}
use Rattle.mw_print.specs.Tokens.{comma}
use Rattle.mw_print.specs.declared.writer.Writer.{Writer}
use Rattle.mw_print.specs.declared.writer.End.TheVariants.{Apart}
use Rattle.mw_print.proofs.Behind.{wrote}
use Rattle.mw_print.proofs.writer.Writer.comma.Goals as goal

pub returns : goal.returns
returns c =
    let new : Writer = record { text = c.push.new.self; end = Apart } in
    wrote c.args.self.now new comma (rw (c.in_ok-push.ensures.items, c.in_ok-space.ensures) refl) refl
