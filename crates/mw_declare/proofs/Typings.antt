-- Variables with their sorts that a table holds.
use Rattle.std.proofs.Common.{◌≡◌, ◌∙◌, ℕ, List, [], ◌∷◌, map, Bool, true, false, cond, Option, Some, None, option_map, option_copied, bytes_eq, Bor, refl, ap}
use Rattle.std.specs.Map.{lookup}
use Rattle.std.specs.Global.{Vec}
use Rattle.mw_declare.specs.Meaning.{Name}
use Rattle.mw_declare.specs.Faults.{Typing, sort_in}

abbrev pub typing_held : List (Vec ℕ × Vec ℕ) → Typing
typing_held es = map (λ (e : Vec ℕ × Vec ℕ). (e.0.items, e.1.items)) es

-- a sort's name by its bytes
abbrev pub bytes_held : Option (Vec ℕ) → Option Name
bytes_held o = option_map (λ (v : Vec ℕ). v.items) o

found : (b : Bool) (v : Vec ℕ) (o : Option (Vec ℕ)) → bytes_held (cond b (Some v) o) ≡ cond b (Some v.items) (bytes_held o)
found true v o = refl
found false v o = refl

-- a look-up in the table is one among the variables
pub sort_held : (es : List (Vec ℕ × Vec ℕ)) (n : Name) → bytes_held (lookup (λ k. bytes_eq n k.items) es) ≡ sort_in (typing_held es) n
sort_held [] n = refl
sort_held (e ∷ es) n = found (bytes_eq n e.0.items) e.1 (lookup (λ k. bytes_eq n k.items) es) ∙ ap (cond (bytes_eq n e.0.items) (Some e.1.items)) (sort_held es n)

-- what is lent, by its bytes
pub lent_bytes : (o : Option (Bor (Vec ℕ))) → option_map (λ (s : Bor (Vec ℕ)). s.now.items) o ≡ bytes_held (option_copied o)
lent_bytes None = refl
lent_bytes (Some s) = refl

-- a variable of which no sort is known isn't in the table
pub none_held : (o : Option (Vec ℕ)) → bytes_held o ≡ None → o ≡ None
none_held None h = refl
none_held (Some v) h = cc
