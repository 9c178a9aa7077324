-- The bytes of a piece that is no punctuation.
use Rattle.std.specs.Prelude.{ℕ, List, [], ◌∷◌, Bool, ◌==◌, ◌||◌, suc, not, if◌then◌else◌}
use Rattle.mw_lex.specs.Bytes.{is_punctuation}

abbrev pub is_plain : ℕ → Bool
is_plain b = not (b == 95 || (b == 96 || is_punctuation b))

-- how many bytes of the front are such
abbrev pub run_len : List ℕ → ℕ
run_len [] = 0
run_len (b ∷ rest) = if is_plain b then suc (run_len rest) else 0
