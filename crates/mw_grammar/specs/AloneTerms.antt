-- What a term that a token is by itself stands for.
use Rattle.mw_logic.specs.Term.{RawTerm, numeral, quoted, variable}
use Rattle.mw_grammar.specs.declared.alone.Alone.{Alone}
use Rattle.mw_grammar.specs.declared.alone.Alone.TheVariants as token

abbrev pub alone_term : Alone → RawTerm
alone_term (token.Number n) = numeral n
alone_term (token.Identifier q) = quoted q.items
alone_term (token.Variable name sort) = variable (record { name = name.items; sort = sort })
