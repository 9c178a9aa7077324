use Rattle.std.proofs.Common.{◌≡◌, ◌-◌, ◌==◌, ◌≤◌, ℕ, List, [], ◌∷◌, length, get_or, arith}
use Rattle.mw_print.specs.Tokens.{ends_in_backquote}
use Rattle.mw_print.proofs.Behind.{last_backquote}
use Rattle.mw_print.proofs.writer.ends_in_backquote.Goals as goal

last : (x : List ℕ) → 1 ≤ length x → (get_or x (length x - 1) 0 == 96) ≡ ends_in_backquote x
last [] h = absurd (omega arith)
last (b ∷ x) h = last_backquote b x

pub returns-in-len1-up : goal.returns-in-len1-up
returns-in-len1-up c = last c.args.token.now c.in-len1-up.len_at_least
