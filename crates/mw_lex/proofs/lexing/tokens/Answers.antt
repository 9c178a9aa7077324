use Rattle.std.proofs.Common.{◌≡◌, ◌∙◌, arith, take, ap}
use Rattle.mw_lex.specs.Lexing.{line_behind}
use Rattle.mw_lex.proofs.Order.{kept_more}
use Rattle.mw_lex.proofs.lexing.tokens.Goals as goal

pub loop-rest-preserved : goal.loop-rest-preserved
loop-rest-preserved c =
    let line : c.line_behind-line.result ≡ line_behind (take c.in_ok-len.len c.loop-rest.rest.now) c.loop-rest.line
    = c.line_behind-line.ensures.line ∙ ap (λ s. line_behind s c.loop-rest.line) c.split_at.ensures.front in
    record {
      all = rw (c.split_at.ensures.back, line) (c.in_ok-len.ensures.gone ∙ c.loop-rest.invariant.all);
      place = omega (arith, c.in_ok-len.ensures.within, c.split_at.ensures.back_len);
      lines = omega (arith, c.in_ok-len.ensures.within, c.split_at.ensures.front_len);
      kept = rw c.split_at.ensures.back (kept_more _ _ _ _ _ _ _ _ c.loop-rest.invariant.kept c.in_ok-len.ensures.adds c.in_ok-len.ensures.some c.in_ok-len.ensures.within line);
    }
