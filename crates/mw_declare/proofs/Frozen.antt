-- Numbers of frozen arguments.
use Rattle.std.proofs.Common.{◌≡◌, ◌<◌, ◌+◌, ◌-◌, ◌∙◌, ℕ, zero, suc, not, nat_eq, List, ◌∷◌, refl, sym, ap, arith}
use Rattle.std.proofs.lemmas.Bool.{ne_eqb}
use Rattle.mw_logic.specs.Accepted.{agree, is_member}
use Rattle.mw_declare.specs.Freezing.{counted}

-- where all arguments are frozen, the first two are alike but for an operator of one argument
pub all_are_alike : (arity : ℕ) → agree (is_member 1 (counted arity 1)) (is_member 2 (counted arity 1)) ≡ not (nat_eq arity 1)
all_are_alike zero = refl
all_are_alike (suc zero) = refl
all_are_alike (suc (suc n)) = ap not (sym (ne_eqb (suc (suc n)) 1 (λ e. omega (arith, e))))

-- one number, and the others
pub counted_from : (last place : ℕ) → place < last → counted (last - place) (place + 1) ≡ (place + 1) ∷ counted (last - (place + 1)) (place + 1 + 1)
counted_from last place low =
    let n = last - (place + 1) in
    let more : last - place ≡ suc n = omega arith in
    let next : suc (place + 1) ≡ place + 1 + 1 = omega arith in
    ap (λ m. counted m (place + 1)) more ∙ ap (λ m. (place + 1) ∷ counted n m) next
