-- Sorts and kinds as they are printed: a sort by its name, a kind by the names of its maximal sorts.
use Rattle.std.specs.Prelude.{ℕ, List, [], ◌++◌, map, if◌then◌else◌, length, codes, Bool, ◌&&◌, not, nat_eq, ⊤}
use Rattle.std.specs.List.{filter, join_with_byte, list_any, range_with_len}
use Rattle.mw_logic.specs.Signature.{Signature, Sorted, sort, kind}
use Rattle.mw_logic.specs.Accepted.{is_same_kind}
use Rattle.mw_logic.specs.Preregular.{IsSortOf}
use Rattle.mw_print.specs.Tokens.{ends_in_backquote}
use Rattle.mw_print.specs.Printing.{sort_name}

-- a pair has T below another sort
abbrev pub is_below_another : List (ℕ × ℕ) → ℕ → Bool
is_below_another pairs T = list_any (λ (p : ℕ × ℕ). nat_eq p.0 T && not (nat_eq p.1 T)) pairs

-- T is of K's kind, and below no other sort
abbrev pub is_maximal_in : Signature → ℕ → ℕ → Bool
is_maximal_in sig K T = is_same_kind sig K T && not (is_below_another sig.pairs T)

-- the maximal sorts of K's kind, in order of number
abbrev pub maximal_sorts : Signature → ℕ → List ℕ
maximal_sorts sig K = filter (is_maximal_in sig K) (range_with_len 1 (length sig.sorts))

-- the name of a sort as it stands before a comma or a bracket, which a backquote at its end would take into the name
abbrev pub name_in_kind : Signature → ℕ → List ℕ
name_in_kind sig S = sort_name sig S ++ (if ends_in_backquote (sort_name sig S) then codes " " else [])

-- the names of a kind's maximal sorts in brackets, with commas between (44 is the comma)
abbrev pub kind_name : Signature → ℕ → List ℕ
kind_name sig K = codes "[" ++ join_with_byte 44 (map (name_in_kind sig) (maximal_sorts sig K)) ++ codes "]"

abbrev pub sorted_name : Signature → Sorted → List ℕ
sorted_name sig (sort S) = sort_name sig S
sorted_name sig (kind K) = kind_name sig K

-- where it is a kind, it is named by the number of a sort
abbrev pub IsKindThere : Signature → Sorted → Type 0
IsKindThere sig (sort S) = ⊤
IsKindThere sig (kind K) = IsSortOf sig K
