-- Arguments one by one.
use Rattle.std.proofs.Common.{◌≡◌, ℕ, zero, suc, ◌<◌, List, [], ◌∷◌, length, get_or, true, false, arith, ap, refl}
use Rattle.std.specs.Prelude.{Bool, ◌&&◌, nat_le, Some}
use Rattle.std.proofs.Common.{inl, inr}
use Rattle.mw_logic.specs.Signature.{Signature, Operator, Member}
use Rattle.mw_logic.specs.Parts.{number_of_terms}
use Rattle.mw_term.specs.declared.raw.Raw.{Raw}
use Rattle.mw_term.specs.Raws.{raw_term, raw_terms}
use Rattle.mw_prefix.specs.Taking.{is_of_kind, are_of_kind, are_of_kinds, operator_takes}

-- lists of other lengths aren't of these kinds
pub other_length : (sig : Signature) (Ks : List ℕ) (ts : List Raw) → (length Ks ≡ length ts → ⊥) → false ≡ are_of_kinds sig Ks (raw_terms ts)
other_length sig [] [] d = absurd (d refl)
other_length sig [] (t ∷ ts) d = refl
other_length sig (K ∷ Ks) [] d = refl
other_length sig (K ∷ Ks) (t ∷ ts) d = by_test (is_of_kind sig K (raw_term t)) (other_length sig Ks ts (λ e. d (ap suc e)))
  where
    by_test : (b : Bool) → false ≡ are_of_kinds sig Ks (raw_terms ts) → false ≡ (b && are_of_kinds sig Ks (raw_terms ts))
    by_test true h = h
    by_test false h = refl

-- an element is a member
pub member_at : (Ks : List ℕ) (i : ℕ) → i < length Ks → Member (get_or Ks i 0) Ks
member_at [] i h = absurd (omega arith)
member_at (K ∷ Ks) zero h = inl refl
member_at (K ∷ Ks) (suc i) h = inr (member_at Ks i (omega arith))

pub raws_number : (ts : List Raw) → number_of_terms (raw_terms ts) ≡ length ts
raws_number [] = refl
raws_number (t ∷ ts) = ap suc (raws_number ts)

-- what an operator takes, by whether it is associative
pub associative_takes : (sig : Signature) (o : Operator) (ts : List Raw) → o.assoc ≡ true → operator_takes sig (Some o) (raw_terms ts) ≡ (nat_le 2 (length ts) && are_of_kind sig o.result (raw_terms ts))
associative_takes sig o ts h = rw (h, raws_number ts) refl
