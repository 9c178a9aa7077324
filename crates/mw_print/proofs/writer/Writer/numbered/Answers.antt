use Rattle.std.proofs.Common.{[], ◌∷◌, ◌++◌, append_assoc, arith}
use Rattle.std.specs.Fmt.{decimal}
use Rattle.mw_print.specs.Tokens.{ends_in_backquote}
use Rattle.mw_print.specs.declared.writer.Writer.{Writer}
use Rattle.mw_print.proofs.Numbers.{numbered_inside, wrote_inside}
use Rattle.mw_print.proofs.writer.Writer.numbered.Goals as goal

pub returns : goal.returns
returns c =
    let new : Writer = record { text = c.extend_from_slice.new.self; end = c.end_of_name-self.result } in
    let fits = c.ranges.number.fits in
    let name = c.args.name.now in
    wrote_inside c.args.self.now new ((decimal c.args.number ++ 64 ∷ []) ++ name) (ends_in_backquote name) (numbered_inside c.args.number name (omega (arith, fits)))
    (rw (c.in_ok-extend_from_slice.ensures.items, c.in_ok-push.ensures.items, c.in_ok-push_decimal.ensures, c.in_ok-space.ensures) (simp append_assoc)) c.end_of_name-self.ensures
