-- Where the tokens of a text lie in it.
use Rattle.std.specs.Prelude.{◌≡◌, ◌<◌, ◌≤◌, ◌+◌, ◌==◌, ◌⊎◌, ℕ, List, [], ◌∷◌, ◌++◌, length, take, count_by, All, AllPairs, slice_range}
use Rattle.mw_lex.specs.declared.token.Token.{Token}
use Rattle.mw_lex.specs.Lexing.{token_at}

-- how many line feeds a text has
abbrev pub line_feeds : List ℕ → ℕ
line_feeds text = count_by (λ b. b == 10) text

-- a token is a part of the text that isn't empty, copied, and its line is one more than the line feeds before it
pub record IsPlaced (text : List ℕ) (t : Token) : Type 0 where
  pub some : t.from < t.to
  pub within : t.to ≤ length text
  pub copied : t.text ≡ slice_range text t.from t.to
  pub line : t.line ≡ 1 + line_feeds (take t.from text)

-- the first token ends before the other begins
abbrev pub IsBefore : Token → Token → Type 0
IsBefore t u = t.to ≤ u.from

-- tokens of a text, in the order in which they stand there
pub record AreInOrder (text : List ℕ) (tokens : List Token) : Type 0 where
  pub placed : All (IsPlaced text) tokens
  pub ordered : AllPairs IsBefore tokens

-- at most one token came to the others: the first `len` bytes of what is left, at this place and line
abbrev pub Adds : List Token → List Token → ℕ → ℕ → ℕ → List ℕ → Type 0
Adds old new at line len rest = (new ≡ old) ⊎ ((t : Token) × (new ≡ old ++ t ∷ []) × (t ≡ token_at len at line rest))
