-- Sets of numbers as words.
use Rattle.std.proofs.Common.{◌≡◌, ◌∙◌, ◌*◌, ◌^◌, ◌/◌, ◌%◌, ◌<◌, ◌⊎◌, ◌↔◌, ℕ, zero, suc, List, [], ◌∷◌, ◌++◌, subst, length, get_or, refl, sym, ap, inl, inr, arith, w64}
use Rattle.std.proofs.Math.ListN.{set}
use Rattle.std.proofs.lemmas.Bool.{cases_eq}
use Rattle.std.proofs.lemmas.Nat.{and_le_l}
use Rattle.std.proofs.lemmas.Nat.Bits.{bit_at_or, bit_at_and, bit_at_xor, bit_at-lt, bit_at-pow_same, bit_at-pow_other, bit_at-trailing_zeros, bit_at_clear_same, bit_at_clear_other, bit_at_above}
use Rattle.std.specs.Prelude.{bit_and, bit_or, bit_xor, slice_index}
use Rattle.std.specs.Int.{bit_at, bit_not, trailing_zeros}
use Rattle.mw_chart.specs.Bits.{IsSet}
use Rattle.mw_chart.proofs.Lists.{eq_or}
use Rattle.mw_chart.proofs.Begins.{le_or}

index_set : (xs : List ℕ) (k x : ℕ) → k < length xs → slice_index (set xs k x) k ≡ x
index_set [] k x h = absurd (omega arith)
index_set (y ∷ ys) zero x h = refl
index_set (y ∷ ys) (suc k) x h = index_set ys k x (omega arith)

index_other : (xs : List ℕ) (j k x : ℕ) → (j ≡ k → ⊥) → slice_index (set xs k x) j ≡ slice_index xs j
index_other [] j k x h = refl
index_other (y ∷ ys) zero zero x h = absurd (h refl)
index_other (y ∷ ys) zero (suc k) x h = refl
index_other (y ∷ ys) (suc j) zero x h = refl
index_other (y ∷ ys) (suc j) (suc k) x h = index_other ys j k x (λ e. h (ap suc e))

-- a word without bits more changes none
index_zero : (xs : List ℕ) (j : ℕ) → slice_index (xs ++ 0 ∷ []) j ≡ slice_index xs j
index_zero [] zero = refl
index_zero [] (suc j) = refl
index_zero (x ∷ xs) zero = refl
index_zero (x ∷ xs) (suc j) = index_zero xs j

pub set_zero : (xs : List ℕ) (y : ℕ) → IsSet (xs ++ 0 ∷ []) y ↔ IsSet xs y
set_zero xs y = (
  λ h. subst (λ (w : ℕ). bit_at w (y % 64) ≡ 1) (index_zero xs (y / 64)) h,
  λ h. subst (λ (w : ℕ). bit_at w (y % 64) ≡ 1) (sym (index_zero xs (y / 64))) h,
)

-- a bit is set
pub set_insert : (xs old : List ℕ) (x word : ℕ) → x / 64 < length xs → ((y : ℕ) → IsSet xs y ↔ IsSet old y) → word ≡ bit_or (slice_index xs (x / 64)) (2 ^ (x % 64))
    → (y : ℕ) → IsSet (set xs (x / 64) word) y ↔ (IsSet old y ⊎ (y ≡ x))
set_insert xs old x word low same is y =
    elim (eq_or (y / 64) (x / 64)) [
      | inl here ↦
          let at : slice_index (set xs (x / 64) word) (y / 64) ≡ word = ap (λ j. slice_index (set xs (x / 64) word) j) here ∙ index_set xs (x / 64) word low in
          let was : slice_index xs (y / 64) ≡ slice_index xs (x / 64) = ap (λ j. slice_index xs j) here in
          let bit = bit_at_or (slice_index xs (x / 64)) (2 ^ (x % 64)) (y % 64) in
          let now : bit_at (slice_index (set xs (x / 64) word) (y / 64)) (y % 64) ≡ bit_at (bit_or (slice_index xs (x / 64)) (2 ^ (x % 64))) (y % 64) = ap (λ w. bit_at w (y % 64)) (at ∙ is) in
          let before : bit_at (slice_index xs (y / 64)) (y % 64) ≡ bit_at (slice_index xs (x / 64)) (y % 64) = ap (λ w. bit_at w (y % 64)) was in
          elim (eq_or (y % 64) (x % 64)) [
            | inl e ↦
                let one : bit_at (2 ^ (x % 64)) (y % 64) ≡ 1 = ap (λ i. bit_at (2 ^ (x % 64)) i) e ∙ bit_at-pow_same (x % 64) in
                let small = bit_at-lt (slice_index xs (x / 64)) (y % 64) in
                (λ h. inr (omega (arith, here, e)), λ h. omega (arith, now, bit, one, small))
            | inr n ↦
                let none = bit_at-pow_other (x % 64) (y % 64) n in (
                  λ h. inl ((same y).0 (omega (arith, now, bit, none, h, before))),
                  λ h. elim h [
                    | inl o ↦ let p = (same y).1 o in omega (arith, now, bit, none, p, before)
                    | inr e ↦ absurd (n (ap (λ m. m % 64) e))
                  ],
                )
          ]
      | inr n ↦
          let at : slice_index (set xs (x / 64) word) (y / 64) ≡ slice_index xs (y / 64) = index_other xs (y / 64) (x / 64) word n in
          let e : bit_at (slice_index (set xs (x / 64) word) (y / 64)) (y % 64) ≡ bit_at (slice_index xs (y / 64)) (y % 64) = ap (λ w. bit_at w (y % 64)) at in (
            λ h. inl ((same y).0 (sym e ∙ h)),
            λ h. elim h [
              | inl o ↦ e ∙ (same y).1 o
              | inr eq ↦ absurd (n (ap (λ m. m / 64) eq))
            ],
          )
    ]

-- in the first and not in the second
pub open_bits : (word full i : ℕ) → bit_at word i ≡ 1 → (bit_at (bit_and word (bit_xor word full)) i ≡ 1) ⊎ (bit_at full i ≡ 1)
open_bits word full i set =
    let a = bit_at_and word (bit_xor word full) i in
    let x = bit_at_xor word full i in
    let small = bit_at-lt full i in
    elim (eq_or (bit_at full i) 1) [
      | inl f ↦ inr f
      | inr f ↦ inl (omega (arith, a, x, small, set, f))
    ]

-- a word has 64 bits
below_width : (word j : ℕ) → word < 2 ^ 64 → bit_at word j ≡ 1 → j < 64
below_width word j fits set = elim (le_or j 64) [ inl h ↦ h | inr h ↦ let z = bit_at_above word 64 j fits h in absurd (omega (arith, z, set)) ]

-- the lowest bit is cleared
pub cleared : (word : ℕ) → 0 < word → word < 2 ^ 64
    → let left = bit_and word (bit_not w64 (1 * 2 ^ trailing_zeros w64 word % 2 ^ 64)) in
    (left < word) × ((j : ℕ) → bit_at word j ≡ 1 → (bit_at left j ≡ 1) ⊎ (j ≡ trailing_zeros w64 word))
cleared word some fits =
    let k = trailing_zeros w64 word in
    let lowest = bit_at-trailing_zeros w64 word some fits in
    let left : ℕ = bit_and word (bit_not w64 (1 * 2 ^ k % 2 ^ 64)) in
    let gone : bit_at left k ≡ 0 = bit_at_clear_same w64 word k lowest.0 in (
      elim (cases_eq left word) [
        | inl same ↦ absurd (let both : bit_at left k ≡ bit_at word k = ap (λ x. bit_at x k) same in let one = lowest.1 in omega (arith, both, gone, one))
        | inr other ↦ omega (arith, and_le_l word (bit_not w64 (1 * 2 ^ k % 2 ^ 64)), other)
      ],
      λ j set. elim (eq_or j k) [
        | inl same ↦ inr same
        | inr other ↦ elim (eq_or (bit_at left j) 1) [
          | inl held ↦ inl held
          | inr lost ↦ absurd (let small : j < 64 = below_width word j fits set in lost (bit_at_clear_other w64 word k lowest.0 j small other ∙ set))
        ]
      ],
    )

pub index_is : (xs : List ℕ) (k d : ℕ) → k < length xs → get_or xs k d ≡ slice_index xs k
index_is [] k d h = absurd (omega arith)
index_is (x ∷ xs) zero d h = refl
index_is (x ∷ xs) (suc k) d h = index_is xs k d (omega arith)
