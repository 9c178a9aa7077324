-- A number for each tree, the same wherever trees are the same.
use Rattle.std.specs.Prelude.{ℕ, ◌*◌, ◌%◌, ◌^◌, bit_xor}
use Rattle.mw_chart.specs.Tree.{Tree, leaf, head, app}

-- two numbers as one, below 2 ^ 64
abbrev pub mixed : ℕ → ℕ → ℕ
mixed a b = bit_xor (a * 11400714819323198485 % 2 ^ 64) b * 14029467366897019727 % 2 ^ 64

abbrev pub hash_of : Tree → ℕ
hash_of (leaf x) = mixed 1 x
hash_of (head f) = mixed 2 f
hash_of (app t u) = mixed (hash_of t) (hash_of u)
