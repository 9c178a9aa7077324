-- A text to which tokens are written one after another.
use Rattle.std.specs.Prelude.{◌≡◌, List, [], ◌∷◌, ◌++◌, ℕ, Bool, codes, if◌then◌else◌}
use Rattle.mw_print.specs.Tokens.{Token, text_of, is_near, is_apart, opens, spaced}
use Rattle.mw_print.specs.declared.writer.End.{End}
use Rattle.mw_print.specs.declared.writer.End.TheVariants.{Empty, Opened, Apart, Plain}
use Rattle.mw_print.specs.declared.writer.Writer.{Writer}

-- how a text ends whose last token this is
abbrev pub end_of : Token → End
end_of x = if is_apart x then Apart else if opens (text_of x) then Opened else Plain

-- the space between a text that ends so and the next token, which may be near
abbrev pub space : End → Bool → List ℕ
space Empty near = []
space Opened near = []
space Apart near = codes " "
space Plain near = if near then [] else codes " "

abbrev pub behind : End → List Token → List ℕ
behind end [] = []
behind end (y ∷ ts) = space end (is_near y) ++ spaced (y ∷ ts)

-- the text with these tokens behind it
abbrev pub written : Writer → List Token → List ℕ
written w ts = w.text.items ++ behind w.end ts

-- these tokens were written
abbrev pub Writes : Writer → Writer → List Token → Type 0
Writes old new tokens = (ts : List Token) → written new ts ≡ written old (tokens ++ ts)
