-- What is read before a source: the modules of the prelude that it needs.
use Rattle.std.specs.Prelude.{ℕ, List, ◌++◌, Result, Ok, Err}
use Rattle.mw_lex.specs.declared.token.LexFault.{LexFault}
use Rattle.mw_lex.specs.declared.token.Token.{Token}
use Rattle.mw_lex.specs.Lexing.{tokens_of}
use Rattle.mw_module.specs.Words.{texts}
use Rattle.mw_prelude.specs.Mentions.{prelude_for}

-- these tokens, and then a source's own
abbrev pub before_own : Result (List Token) LexFault → List Token → Result (List Token) LexFault
before_own (Err f) own = Err f
before_own (Ok first) own = Ok (first ++ own)

-- a source's own tokens, behind those of the modules that they need
abbrev pub with_prelude : Result (List Token) LexFault → Result (List Token) LexFault
with_prelude (Err f) = Err f
with_prelude (Ok own) = before_own (tokens_of (prelude_for (texts own))) own

-- The tokens that are read for the bytes of a source: those of the modules of the prelude that it needs, and then its own.
abbrev pub source_tokens : List ℕ → Result (List Token) LexFault
source_tokens bytes = with_prelude (tokens_of bytes)
