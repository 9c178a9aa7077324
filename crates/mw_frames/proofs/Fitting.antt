-- How many levels a right side has where it comes, by what is told of it.
use Rattle.std.specs.Prelude.{◌≡◌, ◌↔◌, ◌&&◌, ◌≤◌, ◌-◌, ◌+◌, ◌^◌, min, ℕ, zero, suc, List, [], ◌∷◌, unwrap_or, slice_get, Bool, true, false, cond, nat_eq, Option, Some, None, option_to_list, IsTrue, refl}
use Rattle.std.proofs.Common.{sym, subst, ap, ◌∙◌, arith}
use Rattle.std.proofs.lemmas.Bool.{both_ways, and_parts, eqb-true}
use Rattle.mw_logic.specs.Term.{Variable, RawTerm, RawTerms, numeral, quoted, variable, apply, nil, cons}
use Rattle.mw_logic.specs.Signature.{Signature}
use Rattle.mw_logic.specs.Parts.{is_assoc}
use Rattle.mw_logic.specs.NormalForm.{applied_in, height, highest}
use Rattle.mw_logic.specs.Terms.{terms_of}
use Rattle.mw_canon.specs.Axioms.{HasAxioms}
use Rattle.mw_canon.specs.declared.axioms.Axioms.TheVariants.{Plain}
use Rattle.mw_canon.proofs.Ordered.{uncounted}
use Rattle.mw_position.specs.Positions.{fill, fill_all}
use Rattle.mw_matching.specs.Matches.{evaluated, evaluated_all}
use Rattle.mw_frames.specs.declared.job.Frame.{Frame}
use Rattle.mw_canon.specs.Free.{IsFree, AreFree}
use Rattle.mw_frames.specs.Redex.{hole_level}

-- an operator without axioms stands on its arguments
pub plain_applied : (sig : Signature) (g : ℕ) (ts : RawTerms) → HasAxioms sig g Plain → applied_in sig g ts ≡ apply g ts
plain_applied sig g ts h = rw (h.0, h.1, h.2) (uncounted g ts)

module _ (sig : Signature) (vs : List RawTerm) where
  -- where no operator has an axiom the canonical instance is the instance
  mutual
    pub evaluated_free : (p : RawTerm) → IsFree sig p → evaluated sig vs p ≡ fill vs p
    evaluated_free (numeral n) h = refl
    evaluated_free (quoted q) h = refl
    evaluated_free (variable x) h = refl
    evaluated_free (apply f ts) h = plain_applied sig f (evaluated_all sig vs ts) h.0 ∙ ap (apply f) (all_evaluated_free ts h.1)

    all_evaluated_free : (ts : RawTerms) → AreFree sig ts → evaluated_all sig vs ts ≡ fill_all vs ts
    all_evaluated_free nil h = refl
    all_evaluated_free (cons t ts) h = rw (evaluated_free t h.0, all_evaluated_free ts h.1) refl

-- an operator that isn't associative adds a level to what stands on top of it
plain_level : (sig : Signature) (g f : ℕ) → is_assoc sig f ≡ false → cond {A = ℕ} (nat_eq g f && is_assoc sig g) 0 1 ≡ 1
plain_level sig g f h = by_test (nat_eq g f && is_assoc sig g) refl
  where
    by_test : (b : Bool) → (nat_eq g f && is_assoc sig g) ≡ b → cond {A = ℕ} b 0 1 ≡ 1
    by_test false e = refl
    by_test true e = let p = and_parts _ _ e in absurd (both_ways _ h (ap (is_assoc sig) (sym (eqb-true g f p.0)) ∙ p.1))

-- so many stand above a term with such an operator on top
abbrev pub hole_level_plain : Option Frame → ℕ
hole_level_plain None = 0
hole_level_plain (Some f) = 1 + f.level

pub plain_hole : (sig : Signature) (hole : Option Frame) (f : ℕ) (ts : RawTerms) → is_assoc sig f ≡ false → hole_level sig (option_to_list hole) (apply f ts) ≡ hole_level_plain hole
plain_hole sig None f ts h = refl
plain_hole sig (Some frame) f ts h = ap (λ n. n + frame.level) (plain_level sig frame.op f h)

-- told by a depth that is cut off far above
pub fits_told : (b : Bool) (above d level h : ℕ) → (IsTrue b ↔ (above + d ≤ 1000)) → d ≡ min h (2 ^ 16 - 1) → ((above + h ≤ 1000) ↔ (level + h ≤ 1000)) → IsTrue b ↔ (level + h ≤ 1000)
fits_told b above d level h t e l =
    (λ x. let a = t.0 x in l.0 (omega (arith, a, e)), λ x. let a = l.1 x in t.1 (omega (arith, a, e)))

-- the same of a pattern without axioms, by the depth of its instance
pub plain_told : (sig : Signature) (vs : List RawTerm) (p : RawTerm) (f : ℕ) (ts : RawTerms) (hole : Option Frame) (b : Bool) (above d : ℕ) → p ≡ apply f ts → IsFree sig p → (IsTrue b ↔ (above + d ≤ 1000))
    → d ≡ min (height (fill vs p)) (2 ^ 16 - 1) → ((us : RawTerms) (h : ℕ) → is_assoc sig f ≡ false → (above + h ≤ 1000) ↔ (hole_level sig (option_to_list hole) (apply f us) + h ≤ 1000))
    → IsTrue b ↔ (hole_level sig (option_to_list hole) (evaluated sig vs p) + height (evaluated sig vs p) ≤ 1000)
plain_told sig vs p f ts hole b above d e q t ed l =
    let g : IsFree sig (apply f ts) = subst (IsFree sig) e q in
    let k : evaluated sig vs p ≡ apply f (fill_all vs ts) = evaluated_free sig vs p q ∙ ap (fill vs) e in
    let m : height (fill vs p) ≡ height (evaluated sig vs p) = ap height (sym (evaluated_free sig vs p q)) in
    let P : RawTerm → Type 0 = λ v. IsTrue b ↔ (hole_level sig (option_to_list hole) v + height v ≤ 1000) in
    subst P (sym k) (fits_told b above d (hole_level sig (option_to_list hole) (apply f (fill_all vs ts))) (height (apply f (fill_all vs ts))) t (ed ∙ ap (λ h. min h (2 ^ 16 - 1)) (m ∙ ap height k)) (l (fill_all vs ts) (height (apply f (fill_all vs ts))) g.0.0))

-- a value is no deeper than the deepest one
value_low : (vs : List RawTerm) (i : ℕ) (x : Variable) → height (unwrap_or (slice_get vs i) (variable x)) ≤ 1 + highest (terms_of vs)
value_low [] i x = omega arith
value_low (v ∷ vs) zero x = omega arith
value_low (v ∷ vs) (suc i) x = let h = value_low vs i x in omega (arith, h)

-- An instance has no more levels than the pattern and the deepest value have together.
module _ (vs : List RawTerm) where
  mutual
    pub filled_low : (p : RawTerm) → height (fill vs p) ≤ height (fill [] p) + highest (terms_of vs)
    filled_low (numeral n) = omega arith
    filled_low (quoted q) = omega arith
    filled_low (variable x) = value_low vs x.sort x
    filled_low (apply f ts) = let h = all_filled_low ts in omega (arith, h)

    all_filled_low : (ts : RawTerms) → highest (fill_all vs ts) ≤ highest (fill_all [] ts) + highest (terms_of vs)
    all_filled_low nil = omega arith
    all_filled_low (cons t ts) = let h = filled_low t in let k = all_filled_low ts in omega (arith, h, k)

-- so it fits where these come to no more than a term may have
pub surely_low : (vs : List RawTerm) (p : RawTerm) (above levels most : ℕ) → levels ≡ min (height (fill [] p)) (2 ^ 16 - 1) → most ≡ min (highest (terms_of vs)) (2 ^ 16 - 1)
    → above + levels + most ≤ 1000 → above + height (fill vs p) ≤ 1000
surely_low vs p above levels most e d h = let l = filled_low vs p in omega (arith, e, d, h, l)
