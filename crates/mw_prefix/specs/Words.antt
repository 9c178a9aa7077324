-- What a token is in a form, by computing.
use Rattle.std.specs.Prelude.{ℕ, ◌+◌, List, [], ◌∷◌, length, take, drop, Bool, true, ◌==◌, ◌&&◌, not, position, Option, Some, None, if◌then◌else◌}
use Rattle.std.specs.Str.{bytes_eq}
use Rattle.mw_lex.specs.Pieces.{run_len}
use Rattle.mw_logic.specs.Term.{RawTerm, numeral, quoted}
use Rattle.mw_logic.specs.Signature.{Signature, Operator, at_number}
use Rattle.mw_text.specs.Numerals.{number_in}
use Rattle.mw_term.specs.Raws.{raw_term}
use Rattle.mw_prefix.specs.declared.words.Word as code
use Rattle.mw_prefix.specs.declared.words.Word.TheVariants as variant

-- a parenthesis or a comma; a term that one token is; an operator, by its number; or none of these
pub data Word : Type 0 where
  opening : Word
  closing : Word
  comma : Word
  leaf : RawTerm → Word
  numbered : ℕ → Word
  other : Word

-- no zero stands before other digits
abbrev pub is_plain : List ℕ → Bool
is_plain [] = true
is_plain (b ∷ []) = true
is_plain (b ∷ c ∷ bs) = not (b == 48)

-- the number that is written in plain decimal, below 2^128
abbrev pub plain_number : List ℕ → Option ℕ
plain_number text = if is_plain text then number_in text else None

abbrev pub as_numeral : Option ℕ → Word
as_numeral None = other
as_numeral (Some n) = leaf (numeral n)

abbrev pub numeral_word : Signature → List ℕ → Word
numeral_word sig text = if sig.nat then as_numeral (plain_number text) else other

-- the operator of this number, where it has this spelling
abbrev pub spelled : ℕ → List ℕ → Option Operator → Word
spelled f spelling None = other
spelled f spelling (Some o) = if bytes_eq o.spelling spelling then numbered f else other

abbrev pub as_operator : Signature → List ℕ → Option ℕ → Word
as_operator sig spelling None = other
as_operator sig spelling (Some f) = spelled f spelling (at_number sig.operators f)

abbrev pub operator_word : Signature → List ℕ → List ℕ → Word
operator_word sig digits spelling = as_operator sig spelling (plain_number digits)

-- with an `@` at this place, or without one
abbrev pub number_at : Signature → List ℕ → Option ℕ → Word
number_at sig text None = numeral_word sig text
number_at sig text (Some i) = operator_word sig (take i text) (drop (i + 1) text)

abbrev pub number_word : Signature → List ℕ → Word
number_word sig text = number_at sig text (position (λ b. b == 64) text)

-- a quoted identifier, where it is a run that is read to its end
abbrev pub identifier_word : Signature → List ℕ → Word
identifier_word sig text = if sig.qid && run_len text == length text then leaf (quoted text) else other

-- of one byte; of more
abbrev pub short_word : Signature → ℕ → Word
short_word sig b = if b == 40 then opening else if b == 41 then closing else if b == 44 then comma else number_word sig (b ∷ [])

abbrev pub long_word : Signature → ℕ → List ℕ → Word
long_word sig b bs = if b == 39 then identifier_word sig (b ∷ bs) else number_word sig (b ∷ bs)

abbrev pub word_of : Signature → List ℕ → Word
word_of sig [] = other
word_of sig (b ∷ []) = short_word sig b
word_of sig (b ∷ c ∷ bs) = long_word sig b (c ∷ bs)

-- what a value of the program stands for
abbrev pub word : code.Word → Word
word variant.Opening = opening
word variant.Closing = closing
word variant.Comma = comma
word (variant.Leaf t) = leaf (raw_term t)
word (variant.Operator f) = numbered f
word variant.Other = other
