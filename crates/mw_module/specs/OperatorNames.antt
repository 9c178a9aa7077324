-- The names of operators.
use Rattle.std.specs.Prelude.{ℕ, Bool, true, false, List, ◌==◌, ◌&&◌, ◌||◌, not, nat_le}
use Rattle.std.specs.List.{list_any, list_all}
use Rattle.mw_lex.specs.declared.token.Token.{Token}
use Rattle.mw_text.specs.Names.{NameItem, piece, hole, items_of, items_of_tokens, count_holes}
use Rattle.mw_module.specs.Words.{texts, is_no_piece}

-- the pieces and holes of a name
abbrev pub items_in : List Token → List NameItem
items_in name = items_of_tokens (texts name)

abbrev pub is_piece : NameItem → Bool
is_piece (piece text) = true
is_piece hole = false

-- a hole, or a text that may stand as a piece
abbrev pub is_fine : NameItem → Bool
is_fine (piece text) = not (is_no_piece text)
is_fine hole = true

-- a name has one piece or two holes, at least, and its pieces are such as may stand in a name
abbrev pub is_name : List NameItem → Bool
is_name items = list_all is_fine items && (list_any is_piece items || nat_le 2 (count_holes items))

-- a text is a name without holes
abbrev pub is_plain_name : List ℕ → Bool
is_plain_name text = is_name (items_of text) && count_holes (items_of text) == 0

-- a name with holes has one for each argument
abbrev pub fits : ℕ → List NameItem → Bool
fits arity items = count_holes items == 0 || count_holes items == arity

abbrev pub all_fit : ℕ → List (List Token) → Bool
all_fit arity names = list_all (λ name. fits arity (items_in name)) names
