-- The parts of equations and rules: a label in front, two sides, and attributes at the end.
use Rattle.std.specs.Prelude.{ℕ, Bool, false, List, [], ◌∷◌, ◌+◌, ◌-◌, ◌==◌, ◌&&◌, ◌||◌, length, take, drop, reverse, Option, None, Some, if◌then◌else◌, codes}
use Rattle.mw_lex.specs.declared.token.Token.{Token}
use Rattle.mw_lex.specs.Pieces.{one_more}
use Rattle.mw_module.specs.Words.{is}

-- a label in front: one token in brackets, and a colon
abbrev pub has_label : List Token → Bool
has_label [] = false
has_label (a ∷ []) = false
has_label (a ∷ b ∷ []) = false
has_label (a ∷ b ∷ c ∷ []) = false
has_label (a ∷ b ∷ c ∷ d ∷ rest) = is (codes "[") a && is (codes "]") c && is (codes ":") d

-- what stands behind the label, or all where there is none
abbrev pub unlabelled : List Token → List Token
unlabelled ts = if has_label ts then drop 4 ts else ts

-- how many tokens has the group that the bracket at the end closes, where it is opened and `depth` are open; the
-- tokens come from the last to the first
abbrev pub bracket_len : ℕ → List Token → Option ℕ
bracket_len depth [] = None
bracket_len depth (t ∷ before) = if is (codes "]") t then one_more (bracket_len (depth + 1) before)
    else if depth == 0 then None
    else if is (codes "[") t then (if depth == 1 then Some 1 else one_more (bracket_len (depth - 1) before))
    else one_more (bracket_len depth before)

-- a group that begins with a word of attributes
abbrev pub begins_attributes : List Token → Bool
begins_attributes [] = false
begins_attributes (a ∷ []) = false
begins_attributes (a ∷ b ∷ rest) = is (codes "label") b || is (codes "metadata") b || is (codes "nonexec") b || is (codes "owise") b

-- the length of a group at the end, if it is one of attributes
abbrev pub attributes_among : List Token → Option ℕ → ℕ
attributes_among ts None = 0
attributes_among ts (Some n) = if begins_attributes (drop (length ts - n) ts) then n else 0

-- how many tokens the attributes at the end have, with their brackets
abbrev pub attributes_len : List Token → ℕ
attributes_len ts = attributes_among ts (bracket_len 0 (reverse ts))

-- the tokens of a group of this length at the end, without its brackets
abbrev pub group_at_end : ℕ → List Token → List Token
group_at_end n ts = take (n - 2) (drop (length ts - n + 1) ts)
