-- Tokens, and the text that they are written as.
use Rattle.std.specs.Prelude.{ℕ, List, [], ◌∷◌, ◌++◌, map, codes, Bool, false, true, ◌==◌, ◌||◌, if◌then◌else◌}

-- A token; the parenthesis of a prefix form, which stands right behind the form's head; or the comma between two arguments of a prefix form, behind which
-- there is always a space.
pub data Token : Type 0 where
  token : List ℕ → Token
  opening : Token
  comma : Token

abbrev pub text_of : Token → List ℕ
text_of (token x) = x
text_of opening = codes "("
text_of comma = codes ","

abbrev pub texts : List Token → List (List ℕ)
texts = map text_of

-- it is one of ( [ {
abbrev pub opens : List ℕ → Bool
opens [] = false
opens (b ∷ []) = b == 40 || b == 91 || b == 123
opens (b ∷ c ∷ x) = false

-- it is one of , ) ] }
abbrev pub closes : List ℕ → Bool
closes [] = false
closes (b ∷ []) = b == 44 || b == 41 || b == 93 || b == 125
closes (b ∷ c ∷ x) = false

-- its last byte is a backquote, which would take one of the seven behind it into the token
abbrev pub ends_in_backquote : List ℕ → Bool
ends_in_backquote [] = false
ends_in_backquote (b ∷ []) = b == 96
ends_in_backquote (b ∷ c ∷ x) = ends_in_backquote (c ∷ x)

-- it stands right behind the token before it
abbrev pub is_near : Token → Bool
is_near (token x) = closes x
is_near opening = true
is_near comma = true

-- behind it there is always a space
abbrev pub is_apart : Token → Bool
is_apart (token x) = ends_in_backquote x
is_apart opening = false
is_apart comma = true

-- What stands between a token and the next: nothing behind one that opens and before one that is near, and else a space.
abbrev pub gap : Token → Token → List ℕ
gap x y = if is_apart x then codes " " else if opens (text_of x) || is_near y then [] else codes " "

-- the tokens as a text
abbrev pub spaced : List Token → List ℕ
spaced [] = []
spaced (x ∷ []) = text_of x
spaced (x ∷ y ∷ ts) = text_of x ++ gap x y ++ spaced (y ∷ ts)
