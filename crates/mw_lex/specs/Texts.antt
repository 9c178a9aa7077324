-- Texts that are cut out as tokens.
use Rattle.std.specs.Prelude.{◌≡◌, ◌≢◌, ◌⊎◌, ℕ, List, [], ◌∷◌, length, All, Ok, IsTrue, IsFalse}
use Rattle.mw_lex.specs.declared.token.Token.{Token}
use Rattle.mw_lex.specs.Bytes.{is_punctuation}
use Rattle.mw_lex.specs.Pieces.{run_len, opens_comment}
use Rattle.mw_lex.specs.Lexing.{tokens_of}

-- one of ( ) [ ] { } and the comma
abbrev pub IsMark : List ℕ → Type 0
IsMark [] = ⊥
IsMark (b ∷ []) = IsTrue (is_punctuation b)
IsMark (b ∷ c ∷ x) = ⊥

-- a run that is read to its end, where no string and no comment begins
abbrev pub IsRun : List ℕ → Type 0
IsRun [] = ⊥
IsRun (b ∷ x) = (run_len (b ∷ x) ≡ length (b ∷ x)) × (b ≢ 34) × IsFalse (opens_comment (b ∷ x))

-- a text that is one token wherever it stands alone
abbrev pub IsProper : List ℕ → Type 0
IsProper x = IsMark x ⊎ IsRun x

-- a string, or a run that begins with a quotation mark which nothing closes
abbrev pub IsQuoted : List ℕ → Type 0
IsQuoted [] = ⊥
IsQuoted (b ∷ x) = b ≡ 34

abbrev pub IsTokenText : List ℕ → Type 0
IsTokenText x = IsProper x ⊎ IsQuoted x

abbrev pub AreTokens : List Token → Type 0
AreTokens = All (λ (t : Token). IsTokenText t.text)

-- What a text is cut into are tokens.
abbrev pub LexedAreTokens : Type 0
LexedAreTokens = (text : List ℕ) (tokens : List Token) → tokens_of text ≡ Ok tokens → AreTokens tokens
