-- The sorts of numerals as a table with a cycle: behind its last entry comes that of number `back` again.
use Rattle.std.specs.Prelude.{◌≡◌, ◌<◌, ◌+◌, ◌-◌, ◌%◌, ℕ, suc, [], ◌∷◌, cond, nat_eq, nat_lt, codes}
use Rattle.mw_logic.specs.Signature.{Signature, Sorted, sort, IsSortNamed, IsSuccessor}
use Rattle.mw_sorting.specs.ComputedSorts.{IsResultOn}

-- the number of the entry behind number i
abbrev pub entry_behind : ℕ → ℕ → ℕ → ℕ
entry_behind size back i = cond (nat_eq (suc i) size) back (suc i)

-- the number of the entry of the numeral n
abbrev pub entry_of : ℕ → ℕ → ℕ → ℕ
entry_of size back n = cond (nat_lt n back) n (back + (n - back) % (size - back))

-- The first entry is Zero; `s_` leads from each entry to the one behind it.
pub record IsNumberTable (sig : Signature) (size back : ℕ) (entry : ℕ → Sorted) : Type 0 where
  pub cycle : back < size
  pub zero : ℕ
  pub named : IsSortNamed sig zero (codes "Zero")
  pub first : entry 0 ≡ sort zero
  pub successor : ℕ
  pub is : IsSuccessor sig successor
  pub leads : (i : ℕ) → i < size → IsResultOn sig is.operator (entry i ∷ []) (entry (entry_behind size back i))
