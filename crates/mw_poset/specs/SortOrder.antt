use Rattle.std.specs.Prelude.{ℕ, List, length}
use Rattle.mw_logic.specs.Signature.{Signature}

-- So many sorts, numbered from 1, and the subsort pairs: each is a sort and one directly above it.
pub record SortOrder : Type 0 where
  pub sorts : ℕ
  pub pairs : List (ℕ × ℕ)

-- those of a signature
abbrev pub order_of : Signature → SortOrder
order_of sig = record { sorts = length sig.sorts; pairs = sig.pairs }
