-- Statements by numbers as far as 64 bits tell them.
use Rattle.std.proofs.Common.{◌≡◌, ◌∙◌, ◌<◌, ◌^◌, ℕ, zero, suc, List, length, None, ⊎_elim, ap, sym, arith}
use Rattle.std.proofs.lemmas.Bool.{cases_lt}
use Rattle.std.proofs.lemmas.Option.{slice_get_past}
use Rattle.mw_logic.specs.Signature.{at_number}
use Rattle.mw_proofread.specs.Numbers.{saturated}

pub same_at : {X : Type 0} (xs : List X) (k n : ℕ) → length xs < 2 ^ 63 → n ≡ saturated k → at_number xs n ≡ at_number xs k
same_at xs k n l e = ⊎_elim (λ h. let same : n ≡ k = omega (arith, h, e) in ap (at_number xs) same) (λ h. past n (omega (arith, h, e, l)) ∙ sym (past k (omega (arith, h, l)))) (cases_lt k (2 ^ 64))
  where
    past : (i : ℕ) → length xs < i → at_number xs i ≡ None
    past zero h = absurd (omega (arith, h))
    past (suc i) h = slice_get_past xs i (omega (arith, h))
