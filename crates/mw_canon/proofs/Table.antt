-- Tables of values.
use Rattle.std.specs.Prelude.{◌≡◌, ◌<◌, ◌+◌, ℕ, List, ◌∷◌, map, drop, length, get_or, Bool, true, false, cond, Option, Some, None, option_map, refl}
use Rattle.std.proofs.Common.{ap, sym, ◌∙◌, drop-cons, add-one}
use denote.Ref.{Bor}
use Rattle.mw_logic.specs.Term.{RawTerm}
use Rattle.mw_logic.specs.Substitution.{value, same_variable}
use Rattle.mw_term.specs.declared.subst.Binding.{Binding}
use Rattle.mw_canon.specs.Tables.{Key, same_key, variable_of, pair_of}

-- one more pair in front, in the list and in the table
pub put_in_front : (bs : List Binding) (i : ℕ) (b : Binding) (k : Key) (t : Bor RawTerm) → i < length bs → b ≡ get_or bs i b → variable_of k ≡ b.variable → t.now ≡ b.value
    → (old new : Key → Option (Bor RawTerm)) → ((q : Key) → new q ≡ cond (same_key k q) (Some t) (old q))
    → ((q : Key) → option_map (λ u. u.now) (old q) ≡ value (map pair_of (drop (i + 1) bs)) (variable_of q))
    → (q : Key) → option_map (λ u. u.now) (new q) ≡ value (map pair_of (drop i bs)) (variable_of q)
put_in_front bs i b k t h e v w old new u o q =
    ap (option_map (λ u. u.now)) (u q) ∙ of (same_key k q) refl ∙ sym (ap (λ s. value (map pair_of s) (variable_of q)) front)
  where
    front : drop i bs ≡ b ∷ drop (i + 1) bs
    front = drop-cons bs i b h ∙ rw (← e, add-one) refl

    of : (c : Bool) → same_key k q ≡ c → option_map (λ u. u.now) (cond c (Some t) (old q)) ≡ value (map pair_of (b ∷ drop (i + 1) bs)) (variable_of q)
    of c s =
        let same : same_variable b.variable (variable_of q) ≡ c = ap (λ y. same_variable y (variable_of q)) (sym v) ∙ s in
        rw same (by_case c)
      where
        by_case : (c : Bool) → option_map (λ u. u.now) (cond c (Some t) (old q)) ≡ cond c (Some b.value) (value (map pair_of (drop (i + 1) bs)) (variable_of q))
        by_case true = ap Some w
        by_case false = o q

-- what a table's answer says
pub found_in : (m : Option (Bor RawTerm)) (x : Option RawTerm) (t : Bor RawTerm) → option_map (λ u. u.now) m ≡ x → Some t ≡ m → x ≡ Some t.now
found_in m x t h e = sym h ∙ ap (option_map (λ u. u.now)) (sym e)

pub none_in : (m : Option (Bor RawTerm)) (x : Option RawTerm) → option_map (λ u. u.now) m ≡ x → None ≡ m → x ≡ None
none_in m x h e = sym h ∙ ap (option_map (λ u. u.now)) (sym e)
