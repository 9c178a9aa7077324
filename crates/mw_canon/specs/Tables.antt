-- A table of the values of a substitution, by name and sort.
use Rattle.std.specs.Prelude.{ℕ, ◌≡◌, List, option_map, Bool, ◌&&◌, bytes_eq, nat_eq}
use denote.Ref.{Bor}
use Rattle.std.specs.HashMap.{HashMap, get}
use Rattle.mw_logic.specs.Term.{Variable, RawTerm}
use Rattle.mw_logic.specs.Substitution.{Substitution, value}
use Rattle.mw_term.specs.declared.subst.Binding.{Binding}

-- a name and a sort
abbrev pub Key : Type 0
Key = Bor (List ℕ) × ℕ

abbrev pub same_key : Key → Key → Bool
same_key x y = bytes_eq x.0.now y.0.now && nat_eq x.1 y.1

abbrev pub variable_of : Key → Variable
variable_of q = record { name = q.0.now; sort = q.1 }

abbrev pub pair_of : Binding → Variable × RawTerm
pair_of b = (b.variable, b.value)

-- each variable is found with its value
abbrev pub HasValues : {S : Type 0} → Substitution → HashMap Key (Bor RawTerm) S → Type 0
HasValues s m = (q : Key) → option_map (λ t. t.now) (get same_key m q) ≡ value s (variable_of q)
