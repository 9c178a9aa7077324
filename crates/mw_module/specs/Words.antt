-- What single tokens say.
use Rattle.std.specs.Prelude.{ℕ, Bool, List, [], ◌∷◌, ◌+◌, ◌-◌, ◌==◌, ◌&&◌, ◌||◌, not, nat_le, map, length, slice_index, true, false, Option, None, Some, if◌then◌else◌}
use Rattle.std.specs.Borrow.{Bor}
use Rattle.std.specs.Str.{bytes_eq}
use Rattle.mw_lex.specs.Bytes.{is_punctuation}
use Rattle.mw_lex.specs.declared.token.Token.{Token}

-- the token has this text
abbrev pub is : List ℕ → Token → Bool
is word t = bytes_eq t.text word

-- the first token has this text
abbrev pub begins : List ℕ → List Token → Bool
begins word [] = false
begins word (t ∷ rest) = is word t

-- the texts of tokens
abbrev pub texts : List Token → List (List ℕ)
texts ts = map (λ (t : Token). t.text) ts

-- the text of the first token
abbrev pub first_text : List Token → Option (List ℕ)
first_text [] = None
first_text (t ∷ rest) = Some t.text

-- how many tokens come before the first with this text: all where none has it
abbrev pub count_before : List ℕ → List Token → ℕ
count_before word [] = 0
count_before word (t ∷ rest) = if is word t then 0 else 1 + count_before word rest

-- a parenthesis, bracket, brace or comma
abbrev pub is_punctuation_word : List ℕ → Bool
is_punctuation_word (b ∷ []) = is_punctuation b
is_punctuation_word _ = false

-- a text that begins with a quotation mark
abbrev pub is_quoted : List ℕ → Bool
is_quoted [] = false
is_quoted (b ∷ rest) = b == 34

-- a text that is no piece of an operator's name: an empty text, a full stop alone, or one that begins with a quotation
-- mark, three stars or three dashes
abbrev pub is_no_piece : List ℕ → Bool
is_no_piece [] = true
is_no_piece (a ∷ []) = a == 46 || a == 34
is_no_piece (a ∷ b ∷ []) = a == 34
is_no_piece (a ∷ b ∷ c ∷ rest) = a == 34 || (a == 42 && b == 42 && c == 42) || (a == 45 && b == 45 && c == 45)

-- a string up to its end: it begins and ends with a quotation mark, and no backslash precedes the one at the end
abbrev pub is_whole_string : List ℕ → Bool
is_whole_string text = nat_le 2 (length text) && slice_index text 0 == 34 && slice_index text (length text - 1) == 34 && not (slice_index text (length text - 2) == 92)

-- slices of tokens as lists
abbrev pub seen_lists : List (Bor (List Token)) → List (List Token)
seen_lists = map (λ (ts : Bor (List Token)). ts.now)

-- two slices of tokens as lists
abbrev pub seen_halves : Bor (List Token) × Bor (List Token) → List Token × List Token
seen_halves p = (p.0.now, p.1.now)
