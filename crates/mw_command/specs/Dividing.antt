-- The two sides of a match.
use Rattle.std.specs.Prelude.{ℕ, Bool, List, [], ◌∷◌, ◌+◌, ◌-◌, ◌==◌, ◌&&◌, ◌||◌, length, take, drop, Option, None, Some, if◌then◌else◌, codes}
use Rattle.mw_lex.specs.declared.token.Token.{Token}
use Rattle.mw_module.specs.Words.{is}

-- a token opens a level, or closes one: a bracket, `if` or `fi`
abbrev pub opens : Token → Bool
opens t = is (codes "(") t || is (codes "[") t || is (codes "{") t || is (codes "if") t

abbrev pub closes : Token → Bool
closes t = is (codes ")") t || is (codes "]") t || is (codes "}") t || is (codes "fi") t

-- how many levels are open behind a token; what closes none counts for nothing
abbrev pub behind_token : ℕ → Token → ℕ
behind_token depth t = if opens t then depth + 1 else if closes t then depth - 1 else depth

-- how many tokens stand before the first arrow outside of all levels, where so many are open; all, where there is none
abbrev pub before_arrow : ℕ → List Token → ℕ
before_arrow depth [] = 0
before_arrow depth (t ∷ rest) = if (depth == 0) && is (codes "<=?") t then 0 else 1 + before_arrow (behind_token depth t) rest

-- what stands before the arrow, and behind it, where there is one
abbrev pub pattern_of : List Token → List Token
pattern_of ts = take (before_arrow 0 ts) ts

abbrev pub subject_of : List Token → Option (List Token)
subject_of ts = if before_arrow 0 ts == length ts then None else Some (drop (before_arrow 0 ts + 1) ts)
