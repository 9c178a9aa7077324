use Rattle.std.proofs.Common.{refl}
use Rattle.mw_print.specs.Tokens.{opening}
use Rattle.mw_print.specs.declared.writer.Writer.{Writer}
use Rattle.mw_print.specs.declared.writer.End.TheVariants.{Opened}
use Rattle.mw_print.proofs.Behind.{wrote}
use Rattle.mw_print.proofs.writer.Writer.open.Goals as goal

pub returns : goal.returns
returns c =
    let new : Writer = record { text = c.push.new.self; end = Opened } in
    wrote c.args.self.now new opening (rw (c.in_ok-push.ensures.items, c.in_ok-space.ensures) refl) refl
