-- How the mixfix form of an operator groups: by the precedence and the marks that its attributes say, or else by its name. (Maude Manual, chapter 3,
-- "Precedence and gathering".)
use Rattle.std.specs.Prelude.{ℕ, List, [], ◌∷◌, map, Bool, true, false, ◌||◌, ◌&&◌, ◌==◌, Option, None, Some, unwrap_or, bytes_eq, if◌then◌else◌, codes}
use Rattle.mw_logic.specs.Signature.{Gather, less, most, any}
use Rattle.mw_text.specs.Names.{NameItem, piece, hole, has_hole, count_holes}

abbrev pub begins_open : List NameItem → Bool
begins_open [] = false
begins_open (piece x ∷ items) = false
begins_open (hole ∷ items) = true

-- the last of these is a hole; where there is none, what stands before them was
abbrev pub ends_open_behind : Bool → List NameItem → Bool
ends_open_behind before [] = before
ends_open_behind before (piece x ∷ items) = ends_open_behind false items
ends_open_behind before (hole ∷ items) = ends_open_behind true items

abbrev pub ends_open : List NameItem → Bool
ends_open items = ends_open_behind false items

-- 0 where a piece stands at both ends, and so where there are no holes; 15 for one hole, which stands at an end, and 41 for more
abbrev pub default_precedence : List NameItem → ℕ
default_precedence items = if begins_open items || ends_open items then (if count_holes items == 1 then 15 else 41) else 0

abbrev pub is_end : List NameItem → Bool
is_end [] = true
is_end (i ∷ items) = false

-- a hole at the beginning or the end takes the operator's precedence at most, others take any; `first` where nothing stands before
abbrev pub gather_behind : Bool → List NameItem → List Gather
gather_behind first [] = []
gather_behind first (piece x ∷ items) = gather_behind false items
gather_behind first (hole ∷ items) = (if first || is_end items then most else any) ∷ gather_behind false items

-- the name begins and ends with a hole, and has no others
abbrev pub is_infix : List NameItem → Bool
is_infix items = begins_open items && (ends_open items && count_holes items == 2)

-- An associative operator between two arguments groups to the right: f(a, f(b, c)) needs no parentheses.
abbrev pub default_gather : Bool → List NameItem → List Gather
default_gather assoc items = if assoc && is_infix items then less ∷ most ∷ [] else gather_behind true items

-- what a mark of `gather` means
abbrev pub gather_of_mark : List ℕ → Gather
gather_of_mark mark = if bytes_eq mark (codes "e") then less else if bytes_eq mark (codes "E") then most else any

abbrev pub precedence_of : Option ℕ → List NameItem → ℕ
precedence_of said items = unwrap_or said (default_precedence items)

-- a mark for each hole, so none for a name without holes, whatever is said
abbrev pub gather_of : Option (List (List ℕ)) → Bool → List NameItem → List Gather
gather_of None assoc items = default_gather assoc items
gather_of (Some marks) assoc items = if has_hole items then map gather_of_mark marks else []
