use Rattle.mw_lex.proofs.Texts as law
use Rattle.mw_lex.proofs.lexing.lexed_are_tokens.Goals as goal

-- src/lexing.rt:99:1
pub returns : goal.returns
returns c = law.lexed_are_tokens
