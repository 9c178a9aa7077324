-- An instance is no deeper than its pattern and its deepest value together.
use Rattle.std.specs.Prelude.{◌≡◌, ◌≤◌, ◌+◌, ℕ, zero, suc, pred, max, List, [], ◌∷◌, map, Bool, true, false, cond, Some, unwrap_or}
use Rattle.std.specs.List.{zip}
use Rattle.std.proofs.Common.{arith}
use Rattle.mw_logic.specs.Term.{Variable, RawTerm, numeral, quoted, variable, apply, RawTerms, nil, cons}
use Rattle.mw_logic.specs.Terms.{terms_of}
use Rattle.mw_logic.specs.Signature.{Signature}
use Rattle.mw_logic.specs.Accepted.{IsAccepted}
use Rattle.mw_logic.specs.Substitution.{Substitution, same_variable, value, instance, instances}
use Rattle.mw_logic.specs.Parts.{depth, deepest, continues, nested}
use Rattle.mw_logic.specs.NormalForm.{height, highest}
use Rattle.mw_deduction.specs.Replay.{AreAllCanonical}
use Rattle.mw_deduction.proofs.Heights.{canonical_depth}

module _ (sig : Signature) (s : Substitution) (most : ℕ) (low : (x : Variable) → depth sig (instance s (variable x)) ≤ 1 + most) where
  beside_top : (b : Bool) (d e : ℕ) → d ≤ e + most → cond b (pred d) d ≤ cond b (pred e) e + most
  beside_top true d e h = lower d e h
    where
      lower : (d e : ℕ) → d ≤ e + most → pred d ≤ pred e + most
      lower zero e h = omega arith
      lower (suc d) zero h = omega (arith, h)
      lower (suc d) (suc e) h = omega (arith, h)
  beside_top false d e h = h

  no_more : (b : Bool) (d e : ℕ) → d ≤ e → cond b (pred d) d ≤ e
  no_more true zero e h = omega arith
  no_more true (suc d) e h = omega (arith, h)
  no_more false d e h = h

  mutual
    pub instance_depth : (p : RawTerm) → depth sig (instance s p) ≤ depth sig p + most
    instance_depth (numeral n) = omega arith
    instance_depth (quoted q) = omega arith
    instance_depth (variable x) = low x
    instance_depth (apply f ts) = let h = instances_depth f ts in omega (arith, h)

    instances_depth : (f : ℕ) (ts : RawTerms) → deepest sig f (instances s ts) ≤ deepest sig f ts + most
    instances_depth f nil = omega arith
    instances_depth f (cons t ts) = both (cond (continues sig f (instance s t)) (pred (depth sig (instance s t))) (depth sig (instance s t))) (deepest sig f (instances s ts)) (cond (continues sig f t) (pred (depth sig t)) (depth sig t)) (deepest sig f ts) (first t (instance_depth t)) (instances_depth f ts)
      where
        both : (a b c d : ℕ) → a ≤ c + most → b ≤ d + most → max a b ≤ max c d + most
        both a b c d h k = omega (arith, h, k)

        first : (t : RawTerm) → depth sig (instance s t) ≤ depth sig t + most → cond (continues sig f (instance s t)) (pred (depth sig (instance s t))) (depth sig (instance s t)) ≤ cond (continues sig f t) (pred (depth sig t)) (depth sig t) + most
        first (numeral n) h = omega arith
        first (quoted q) h = omega arith
        first (variable x) h = no_more (continues sig f (instance s (variable x))) (depth sig (instance s (variable x))) (1 + most) h
        first (apply g us) h = beside_top (continues sig f (apply g us)) (depth sig (apply g (instances s us))) (depth sig (apply g us)) h

module _ (sig : Signature) (ok : IsAccepted sig) where
  value_low : (most : ℕ) (xs : List Variable) (vs : List RawTerm) (x : Variable) → AreAllCanonical sig vs → highest (terms_of vs) ≤ most → depth sig (unwrap_or (value (zip xs (map (nested sig) vs)) x) (variable x)) ≤ 1 + most
  value_low most [] vs x k h = omega arith
  value_low most (y ∷ xs) [] x k h = omega arith
  value_low most (y ∷ xs) (v ∷ vs) x k h = by_test (same_variable y x) (value_low most xs vs x k.1 (omega (arith, h)))
    where
      first : depth sig (nested sig v) ≡ height v
      first = canonical_depth sig ok v k.0.0 k.0.1

      by_test : (b : Bool) → depth sig (unwrap_or (value (zip xs (map (nested sig) vs)) x) (variable x)) ≤ 1 + most
          → depth sig (unwrap_or (cond b (Some (nested sig v)) (value (zip xs (map (nested sig) vs)) x)) (variable x)) ≤ 1 + most
      by_test true r = omega (arith, first, h)
      by_test false r = r

  pub instance_low : (xs : List Variable) (vs : List RawTerm) (p : RawTerm) → AreAllCanonical sig vs → depth sig (instance (zip xs (map (nested sig) vs)) p) ≤ depth sig p + highest (terms_of vs)
  instance_low xs vs p k = instance_depth sig (zip xs (map (nested sig) vs)) (highest (terms_of vs)) (λ x. value_low (highest (terms_of vs)) xs vs x k (omega arith)) p
