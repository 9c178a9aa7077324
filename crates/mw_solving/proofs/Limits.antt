-- Values are within the limits on terms where the term is: not too deep, and no successor of the largest numeral stands in them.
use Rattle.std.specs.Prelude.{◌≡◌, ◌≤◌, ℕ, suc, List, Bool, true, false, Option, Some, None, IsTrue, refl, slice_get}
use Rattle.std.proofs.Common.{sym, ap, subst, ◌∙◌, ⊎_elim, arith}
use Rattle.std.proofs.lemmas.Bool.{both_ways, and_right, or_from, or_parts, or_cases}
use Rattle.mw_logic.specs.Term.{Variable, RawTerm, numeral, quoted, variable, apply, RawTerms, nil, cons}
use Rattle.mw_logic.specs.Signature.{Signature, Identity, constant_of, numeral_of}
use Rattle.mw_logic.specs.Accepted.{IsAccepted}
use Rattle.mw_logic.specs.CanonicalPart.{AreSeveral}
use Rattle.mw_logic.specs.Kinds.{is_successor}
use Rattle.mw_logic.specs.Parts.{is_assoc}
use Rattle.mw_logic.specs.NormalForm.{is_comm, identity_of, identity_or_empty, elements, flattened, rebuilt, arranged, counted, applied_in, height, highest, has_largest, some_largest}
use Rattle.mw_logic.specs.Substitution.{occurs, occurs_in}
use Rattle.mw_logic.proofs.Canonical.{Each, Each-arranged, arranged-one, arranged-nil, IsCanonical, AreCanonical}
use Rattle.mw_logic.proofs.Holes.{Each-parts, Each-unarranged}
use Rattle.mw_logic.proofs.Invariance.{elements_kept}
use Rattle.mw_logic.proofs.SameConditions.{same_variable-is}
use Rattle.mw_logic.proofs.Soundness.{several-arranged, rebuilt-several}
use Rattle.mw_position.specs.Variables.{placed, all_placed}
use Rattle.mw_matching.specs.Matches.{evaluated, evaluated_all}
use Rattle.mw_solving.proofs.RawArguments.{IsFew, few_parts}
use Rattle.mw_solving.proofs.RawValues.{all_evaluated_canonical}

-- as deep as n at most
abbrev pub IsWithinDepth : Signature → ℕ → RawTerm → Type 0
IsWithinDepth sig n t = (height t ≤ n) × (has_largest sig t ≡ false)

module _ (sig : Signature) (ok : IsAccepted sig) where
  each_within : (n : ℕ) (ts : RawTerms) → highest ts ≤ n → some_largest sig ts ≡ false → Each (IsWithinDepth sig n) ts
  each_within n nil h l = tt
  each_within n (cons t ts) h l = let (a, b) = or_parts _ _ l in ((omega (arith, h), a), each_within n ts (omega (arith, h)) b)

  within_each : (n : ℕ) (ts : RawTerms) → Each (IsWithinDepth sig n) ts → (highest ts ≤ n) × (some_largest sig ts ≡ false)
  within_each n nil h = (omega arith, refl)
  within_each n (cons t ts) h = let (a, b) = within_each n ts h.1 in let c = h.0.0 in (omega (arith, a, c), or_from _ _ h.0.1 b)

  -- the arguments of an operator on top have one level less
  arguments_within : (n f : ℕ) (ts : RawTerms) → IsWithinDepth sig (suc n) (apply f ts) → Each (IsWithinDepth sig n) ts
  arguments_within n f ts h = let d = h.0 in each_within n ts (omega (arith, d)) (or_parts _ _ h.1).1

  deeper : (n : ℕ) (ts : RawTerms) → Each (IsWithinDepth sig n) ts → Each (IsWithinDepth sig (suc n)) ts
  deeper n nil h = tt
  deeper n (cons t ts) h = let d = h.0.0 in ((omega (arith, d), h.0.1), deeper n ts h.1)

  named_within : (n : ℕ) (e : Option Identity) (f : ℕ) → IsWithinDepth sig (suc n) (identity_or_empty e f)
  named_within n None f = (omega arith, or_from _ _ (and_right (is_successor sig f) false refl) refl)
  named_within n (Some (constant_of c)) f = (omega arith, or_from _ _ (and_right (is_successor sig c) false refl) refl)
  named_within n (Some (numeral_of m)) f = (omega arith, refl)

  several_within : (n f : ℕ) (ts : RawTerms) → AreSeveral ts → Each (IsWithinDepth sig n) ts → IsWithinDepth sig (suc n) (apply f ts)
  several_within n f nil s h = absurd s
  several_within n f (cons t nil) s h = absurd s
  several_within n f (cons t (cons u us)) s h =
      let (a, b) = within_each n (cons t (cons u us)) h in (omega (arith, a), or_from _ _ (and_right (is_successor sig f) false refl) b)

  module _ (n : ℕ) (f : ℕ) where
    abbrev e : Option Identity
    e = identity_of sig f

    abbrev c : Bool
    c = is_comm sig f

    few_within : (zs : RawTerms) → IsFew zs → Each (IsWithinDepth sig (suc n)) zs → IsWithinDepth sig (suc n) (rebuilt e f (arranged c zs))
    few_within nil q h = subst (λ zs. IsWithinDepth sig (suc n) (rebuilt e f zs)) (sym (arranged-nil c)) (named_within n e f)
    few_within (cons z nil) q h = subst (λ zs. IsWithinDepth sig (suc n) (rebuilt e f zs)) (sym (arranged-one c z)) h.0
    few_within (cons z (cons y zs)) q h = absurd q

    all_within : (zs : RawTerms) → Each (IsWithinDepth sig n) zs → IsWithinDepth sig (suc n) (rebuilt e f (arranged c zs))
    all_within nil h = few_within nil tt tt
    all_within (cons z nil) h = few_within (cons z nil) tt (deeper n (cons z nil) h)
    all_within (cons z (cons y zs)) h =
        let ts : RawTerms = arranged c (cons z (cons y zs)) in
        let s : AreSeveral ts = several-arranged c (cons z (cons y zs)) tt in
        subst (IsWithinDepth sig (suc n)) (sym (rebuilt-several e f ts s)) (several_within n f ts s (Each-arranged (IsWithinDepth sig n) c (cons z (cons y zs)) h))

    module _ (h : is_assoc sig f ≡ true) where
      each_few : (vs : RawTerms) → AreCanonical sig vs → IsFew (flattened e f vs) → Each (IsWithinDepth sig (suc n)) (flattened e f vs) → Each (IsWithinDepth sig (suc n)) vs
      each_few nil k q p = tt
      each_few (cons v vs) k q p =
          let (a, b) = few_parts (elements e f v) (flattened e f vs) q in
          let (r, s) = Each-parts (IsWithinDepth sig (suc n)) (elements e f v) (flattened e f vs) p in
          (subst (IsWithinDepth sig (suc n)) (elements_kept sig ok f h v k.0) (few_within (elements e f v) a r), each_few vs k.1 b s)

      each_part : (vs : RawTerms) → AreCanonical sig vs → Each (IsWithinDepth sig n) (flattened e f vs) → Each (IsWithinDepth sig (suc n)) vs
      each_part nil k p = tt
      each_part (cons v vs) k p =
          let (r, s) = Each-parts (IsWithinDepth sig n) (elements e f v) (flattened e f vs) p in
          (subst (IsWithinDepth sig (suc n)) (elements_kept sig ok f h v k.0) (all_within (elements e f v) r), each_part vs k.1 s)

      flat_arguments : (vs : RawTerms) → AreCanonical sig vs → IsWithinDepth sig (suc n) (rebuilt e f (arranged c (flattened e f vs))) → Each (IsWithinDepth sig (suc n)) vs
      flat_arguments vs k p = by_number (flattened e f vs) refl
        where
          by_number : (zs : RawTerms) → flattened e f vs ≡ zs → Each (IsWithinDepth sig (suc n)) vs
          by_number nil w = each_few vs k (subst IsFew (sym w) tt) (subst (Each (IsWithinDepth sig (suc n))) (sym w) tt)
          by_number (cons z nil) w =
              let is_z : rebuilt e f (arranged c (flattened e f vs)) ≡ z = ap (λ zs. rebuilt e f (arranged c zs)) w ∙ ap (rebuilt e f) (arranged-one c z) in
              each_few vs k (subst IsFew (sym w) tt) (subst (Each (IsWithinDepth sig (suc n))) (sym w) (subst (IsWithinDepth sig (suc n)) is_z p, tt))
          by_number (cons z (cons y zs)) w =
              let ts : RawTerms = arranged c (cons z (cons y zs)) in
              let is_f : rebuilt e f (arranged c (flattened e f vs)) ≡ apply f ts = ap (λ zs. rebuilt e f (arranged c zs)) w ∙ rebuilt-several e f ts (several-arranged c (cons z (cons y zs)) tt) in
              let q : Each (IsWithinDepth sig n) ts = arguments_within n f ts (subst (IsWithinDepth sig (suc n)) is_f p) in
              each_part vs k (subst (Each (IsWithinDepth sig n)) (sym w) (Each-unarranged (IsWithinDepth sig n) c (cons z (cons y zs)) q))

    plain_arguments : (s : Bool) (zs : RawTerms) → IsWithinDepth sig (suc n) (counted s f zs) → Each (IsWithinDepth sig (suc n)) zs
    plain_arguments s nil p = tt
    plain_arguments s (cons (numeral m) nil) p = ((omega arith, refl), tt)
    plain_arguments s (cons (quoted q) nil) p = deeper n (cons (quoted q) nil) (arguments_within n f (cons (quoted q) nil) p)
    plain_arguments s (cons (variable x) nil) p = deeper n (cons (variable x) nil) (arguments_within n f (cons (variable x) nil) p)
    plain_arguments s (cons (apply g us) nil) p = deeper n (cons (apply g us) nil) (arguments_within n f (cons (apply g us) nil) p)
    plain_arguments s (cons t (cons u us)) p = deeper n (cons t (cons u us)) (arguments_within n f (cons t (cons u us)) p)

    pub arguments_of_applied : (vs : RawTerms) → AreCanonical sig vs → IsWithinDepth sig (suc n) (applied_in sig f vs) → Each (IsWithinDepth sig (suc n)) vs
    arguments_of_applied vs k p = by_assoc (is_assoc sig f) refl
      where
        by_assoc : (b : Bool) → is_assoc sig f ≡ b → Each (IsWithinDepth sig (suc n)) vs
        by_assoc true h = flat_arguments h vs k (rw h at p)
        by_assoc false h = Each-unarranged (IsWithinDepth sig (suc n)) c vs (plain_arguments (is_successor sig f) (arranged c vs) (rw h at p))

  -- a value that stands in an instance within the limits is within them
  module _ (n : ℕ) (xs : List Variable) (us : List RawTerm) (good : (i : ℕ) (u : RawTerm) → slice_get us i ≡ Some u → IsCanonical sig u) where
    mutual
      pub value_within : (p : RawTerm) → IsWithinDepth sig (suc n) (evaluated sig us (placed xs p)) → (x : Variable) → IsTrue (occurs x p) → IsWithinDepth sig (suc n) (evaluated sig us (placed xs (variable x)))
      value_within (numeral m) s x o = absurd (both_ways _ refl o)
      value_within (quoted q) s x o = absurd (both_ways _ refl o)
      value_within (variable y) s x o = subst (λ z. IsWithinDepth sig (suc n) (evaluated sig us (placed xs (variable z)))) (same_variable-is y x o) s
      value_within (apply f ps) s x o = values_within ps (arguments_of_applied n f (evaluated_all sig us (all_placed xs ps)) (all_evaluated_canonical sig ok us good (all_placed xs ps)) s) x o

      values_within : (ps : RawTerms) → Each (IsWithinDepth sig (suc n)) (evaluated_all sig us (all_placed xs ps)) → (x : Variable) → IsTrue (occurs_in x ps) → IsWithinDepth sig (suc n) (evaluated sig us (placed xs (variable x)))
      values_within nil s x o = absurd (both_ways _ refl o)
      values_within (cons p ps) s x o = ⊎_elim (λ k. value_within p s.0 x k) (λ k. values_within ps s.1 x k) (or_cases (occurs x p) (occurs_in x ps) o)
