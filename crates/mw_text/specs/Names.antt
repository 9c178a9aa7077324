-- Names of operators as pieces and holes. (Maude Manual, chapter 3, "Operator declarations"; the backquote in front of a piece as there.)
use Rattle.std.specs.Prelude.{◌≡◌, ℕ, suc, List, [], ◌∷◌, ◌++◌, Bool, false, true, ◌==◌, ◌||◌, not, if◌then◌else◌}
use Rattle.mw_lex.specs.Bytes.{is_punctuation}

-- a piece, which stands as one token, or a hole, where an argument stands
pub data NameItem : Type 0 where
  piece : List ℕ → NameItem
  hole : NameItem

-- the piece that is being read ends here, if there is one
abbrev pub ended : List ℕ → List NameItem → List NameItem
ended [] items = items
ended (b ∷ run) items = piece (b ∷ run) ∷ items

-- The items of a name's token, behind the run that is being read. An underscore is a hole; each of the punctuation bytes is a piece; a backquote
-- is dropped, and ends the piece before it; every other run is a piece.
abbrev pub items_from : List ℕ → List ℕ → List NameItem
items_from run [] = ended run []
items_from run (b ∷ rest) = if b == 95 then ended run (hole ∷ items_from [] rest)
    else if b == 96 then ended run (items_from [] rest)
    else if is_punctuation b then ended run (piece (b ∷ []) ∷ items_from [] rest)
    else items_from (run ++ b ∷ []) rest

-- the items of a name, from its spelling as one token
abbrev pub items_of : List ℕ → List NameItem
items_of spelling = items_from [] spelling

abbrev pub has_hole : List NameItem → Bool
has_hole [] = false
has_hole (piece x ∷ items) = has_hole items
has_hole (hole ∷ items) = true

-- the pieces of a name, as tokens
abbrev pub pieces : List NameItem → List (List ℕ)
pieces [] = []
pieces (piece x ∷ items) = x ∷ pieces items
pieces (hole ∷ items) = pieces items

-- the items of a name's tokens, one after another: two tokens are two pieces
abbrev pub items_of_tokens : List (List ℕ) → List NameItem
items_of_tokens [] = []
items_of_tokens (t ∷ ts) = items_of t ++ items_of_tokens ts

abbrev pub count_holes : List NameItem → ℕ
count_holes [] = 0
count_holes (piece x ∷ items) = count_holes items
count_holes (hole ∷ items) = suc (count_holes items)

-- a piece that is one of the punctuation bytes
abbrev pub is_mark : List ℕ → Bool
is_mark [] = false
is_mark (b ∷ []) = is_punctuation b
is_mark (b ∷ c ∷ rest) = false

-- The spelling of items as one token; `touching` where a piece of other bytes stands directly before them. Such a piece and the next one are
-- parted by a backquote, and one stands before each of the punctuation bytes.
abbrev pub spelled_behind : Bool → List NameItem → List ℕ
spelled_behind touching [] = []
spelled_behind touching (hole ∷ items) = 95 ∷ spelled_behind false items
spelled_behind touching (piece x ∷ items) = (if touching || is_mark x then 96 ∷ x else x) ++ spelled_behind (not (is_mark x)) items

-- the prefix spelling of a name, which is one token
abbrev pub spelling_of : List NameItem → List ℕ
spelling_of items = spelled_behind false items

-- the spelling of a name that is given by its tokens
abbrev pub name_of_tokens : List (List ℕ) → List ℕ
name_of_tokens ts = spelling_of (items_of_tokens ts)

-- The prefix spelling of a name has the items of its tokens.
abbrev pub SpellingsRead : Type 0
SpellingsRead = (ts : List (List ℕ)) → items_of (name_of_tokens ts) ≡ items_of_tokens ts
