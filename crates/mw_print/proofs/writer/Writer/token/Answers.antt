use Rattle.std.proofs.Common.{refl}
use Rattle.mw_print.specs.Tokens.{token}
use Rattle.mw_print.specs.declared.writer.Writer.{Writer}
use Rattle.mw_print.proofs.Behind.{wrote}
use Rattle.mw_print.proofs.writer.Writer.token.Goals as goal

pub returns : goal.returns
returns c =
    let new : Writer = record { text = c.extend_from_slice.new.self; end = c.end_of-self.result } in
    wrote c.args.self.now new (token c.args.token.now) (rw (c.in_ok-extend_from_slice.ensures.items, c.in_ok-space.ensures, c.closes.ensures) refl) c.end_of-self.ensures
