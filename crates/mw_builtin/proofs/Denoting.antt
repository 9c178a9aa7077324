-- What two numbers give, in a signature with its truth values.
use Rattle.std.specs.Prelude.{◌≡◌, ◌⊎◌, ℕ, zero, suc, ◌+◌, ◌≤◌, ◌<◌, List, [], ◌∷◌, length, get_or, Bool, true, false, ◌==◌, Option, Some, None, unwrap_or, MatchOption}
use Rattle.std.proofs.Common.{inl, inr, arith, ap, sym, subst, ◌∙◌}
use Rattle.std.proofs.lemmas.Bool.{both_ways, cases_lt}
use Rattle.std.proofs.lemmas.Option.{slice_get_past, unwrap_or-slice_get}
use Rattle.mw_logic.specs.Term.{RawTerm, numeral, apply, nil, constant}
use Rattle.mw_logic.specs.Terms.{terms_of}
use Rattle.mw_logic.specs.Signature.{Signature, at_number}
use Rattle.mw_logic.specs.Module.{BuiltIn, Result, truth, plus, times, result_of, IsBuiltIn}
use Rattle.mw_builtin.specs.Results.{IsBarren, AreBarren, DoGive, IsFoundOrBarren, IsFoundInEither}
use Rattle.mw_builtin.specs.Schemata.{IsConstantFor, AreSchemas, IsSchemaOf, Computes, IsNamedTruth, on_numbers, of_sum}
use Rattle.mw_builtin.specs.declared.pairs.Found.{Found}
use Rattle.mw_builtin.specs.declared.schema.Schema.{Schema}
use Rattle.mw_builtin.specs.declared.schema.Schema.TheVariants.{Nothing, Number, Truth}
use Rattle.mw_builtin.specs.declared.schema.BuiltIn.{BuiltIn as OnNumbers}
use Rattle.mw_builtin.specs.declared.schema.BuiltIn.TheVariants.{Plus, Times}
use Rattle.mw_builtin.specs.declared.table.Sum.{Sum}

-- without a constant a truth value is nothing
pub no_constant : (sig : Signature) (b : Bool) → IsConstantFor sig b None → IsBarren sig (truth b)
no_constant sig b h = record { no_term = λ t d. h d.0 d.2; not_big = λ e. cc }

-- where the first order gives nothing, the second tells
pub by_second : (sig : Signature) (r s : Result) (c : Bool) (x : Option Found) → c ≡ true → IsBarren sig r → IsFoundOrBarren sig s x → IsFoundInEither sig r s c x
by_second sig r s c None e h k = (h, λ _. k)
by_second sig r s c (Some found) e h k = inr (e, k)

same_number : {m n : ℕ} → numeral m ≡ numeral n → m ≡ n
same_number e = cc

-- numbers speak for their numerals
pub of_numerals : (sig : Signature) (b : BuiltIn) (c : Bool) (t u : RawTerm) (m n : ℕ) (x : Option Found) → t ≡ numeral m → u ≡ numeral n → IsFoundInEither sig (result_of b m n) (result_of b n m) c x
    → MatchOption x (AreBarren sig b c t u) (DoGive sig b c t u)
of_numerals sig b c t u m n None e f h = λ p q g k.
    let a : m ≡ p = same_number (sym e ∙ g) in
    let d : n ≡ q = same_number (sym f ∙ k) in
    subst (λ i. IsBarren sig (result_of b i q) × ((c ≡ true) → IsBarren sig (result_of b q i))) a (subst (λ j. IsBarren sig (result_of b m j) × ((c ≡ true) → IsBarren sig (result_of b j m))) d h)
of_numerals sig b c t u m n (Some found) e f h = record { m = m; n = n; first = e; second = f; gives = h }

-- a row tells of a constant
pub row_names : (sig : Signature) (rows : List Schema) (b : Bool) (i : ℕ) → AreSchemas sig rows → i < length rows → get_or rows i Nothing ≡ Truth b → IsNamedTruth sig b (i + 1)
row_names sig rows b i all h e =
    let one : suc i ≡ i + 1 = omega arith in
    let row : unwrap_or (at_number rows (suc i)) Nothing ≡ Truth b = unwrap_or-slice_get rows i Nothing ∙ e in
    subst (IsNamedTruth sig b) one (by_row (all (suc i)).computes row)
  where
    by_row : {s : Schema} → (s ≡ Nothing) ⊎ Computes sig (suc i) s → s ≡ Truth b → IsNamedTruth sig b (suc i)
    by_row (inl n) q = cc
    by_row (inr k) q = subst (Computes sig (suc i)) q k

pub row_passed : (rows : List Schema) (b : Bool) (i : ℕ) → (get_or rows i Nothing ≡ Truth b → ⊥) → ((f : ℕ) → f ≤ i → unwrap_or (at_number rows f) Nothing ≡ Truth b → ⊥) → (f : ℕ) → f ≤ i + 1 → unwrap_or (at_number rows f) Nothing ≡ Truth b → ⊥
row_passed rows b i differs h zero l = h zero (omega arith)
row_passed rows b i differs h (suc j) l = by_case (cases_lt j i)
  where
    by_case : (j < i) ⊎ (i ≤ j) → unwrap_or (at_number rows (suc j)) Nothing ≡ Truth b → ⊥
    by_case (inl k) e = h (suc j) (omega arith) e
    by_case (inr k) e = let same : j ≡ i = omega (arith, l) in differs (subst (λ k. get_or rows k Nothing ≡ Truth b) same (sym (unwrap_or-slice_get rows j Nothing) ∙ e))

pub none_names : (sig : Signature) (rows : List Schema) (b : Bool) (n : ℕ) → AreSchemas sig rows → length rows ≤ n → ((f : ℕ) → f ≤ n → unwrap_or (at_number rows f) Nothing ≡ Truth b → ⊥) → (c : ℕ) → IsNamedTruth sig b c → ⊥
none_names sig rows b n all l h c named = by_place c (sym ((all c).only (Truth b) named))
  where
    nothing_there : (x : Option Schema) → x ≡ None → unwrap_or x Nothing ≡ Truth b → ⊥
    nothing_there x e k = cc

    by_place : (c : ℕ) → unwrap_or (at_number rows c) Nothing ≡ Truth b → ⊥
    by_place zero e = h zero (omega arith) e
    by_place (suc j) e = by_case (cases_lt j n)
      where
        by_case : (j < n) ⊎ (n ≤ j) → ⊥
        by_case (inl k) = h (suc j) (omega arith) e
        by_case (inr k) = nothing_there (at_number rows (suc j)) (slice_get_past rows j (omega (arith, l))) e

-- an operator on arguments that is a constant
pub same_constant : {f c : ℕ} (ts : List RawTerm) → apply f (terms_of ts) ≡ constant c → (f ≡ c) × (terms_of ts ≡ nil)
same_constant ts e = (cc, cc)

pub has_none : {X : Type 0} (ts : List RawTerm) (b : Bool) → b ≡ (length ts == 0) → b ≡ false → terms_of ts ≡ nil → X
has_none [] b h k e = absurd (both_ways _ k h)
has_none (t ∷ ts) b h k e = cc

number_inj : {a b : OnNumbers} → Number a ≡ Number b → a ≡ b
number_inj e = cc

-- a sum or product by its schema, and without one
pub sums : (sig : Signature) (f : ℕ) (b : OnNumbers) (x : Option Sum) → IsSchemaOf sig f (Number b) → MatchOption x ((on_numbers b ≡ plus → ⊥) × (on_numbers b ≡ times → ⊥)) (λ s. on_numbers b ≡ of_sum s)
    → MatchOption x ((IsBuiltIn sig f plus → ⊥) × (IsBuiltIn sig f times → ⊥)) (λ s. IsBuiltIn sig f (of_sum s))
sums sig f b None h k = (λ p. k.0 (sym (ap on_numbers (number_inj (h.only (Number Plus) p)))), λ p. k.1 (sym (ap on_numbers (number_inj (h.only (Number Times) p)))))
sums sig f b (Some s) h k = by_schema h.computes
  where
    by_schema : (Number b ≡ Nothing) ⊎ Computes sig f (Number b) → IsBuiltIn sig f (of_sum s)
    by_schema (inl e) = cc
    by_schema (inr p) = subst (IsBuiltIn sig f) k p

pub no_sums : (sig : Signature) (f : ℕ) (s : Schema) → IsSchemaOf sig f s → ((b : OnNumbers) → s ≡ Number b → ⊥) → (IsBuiltIn sig f plus → ⊥) × (IsBuiltIn sig f times → ⊥)
no_sums sig f s h differs = (λ p. differs Plus (sym (h.only (Number Plus) p)), λ p. differs Times (sym (h.only (Number Times) p)))
