-- Forms in forms, written one after another.
use Rattle.std.proofs.Common.{◌≡◌, ◌∙◌, ◌≤◌, ℕ, zero, suc, true, List, [], ◌∷◌, ◌++◌, length, Some, ap, sym, append_assoc, arith}
use Rattle.mw_logic.specs.Term.{RawTerm, apply}
use Rattle.mw_logic.specs.Signature.{Signature, Operator, at_number}
use Rattle.mw_logic.specs.Terms.{terms_of}
use Rattle.mw_text.specs.Names.{items_of}
use Rattle.mw_print.specs.Tokens.{Token}
use Rattle.mw_print.specs.Printing.{is_mixfix, in_holes, shown, all_shown}
use Rattle.mw_print.specs.Chains.{front, back}
use Rattle.mw_print.specs.declared.writer.Writer.{Writer}
use Rattle.mw_print.specs.Writing.{written, Writes}
use Rattle.mw_print.proofs.Shown.{chain_two, chain_step}

-- what stands behind so many forms
abbrev pub backs : Operator → ℕ → List Token
backs o zero = []
backs o (suc n) = back o o.gather ++ backs o n

-- the arguments that are left, and what stands behind the forms that are open, complete what was to be written of `all`
abbrev pub IsOpen : Signature → ℕ → Operator → Writer → Writer → List RawTerm → ℕ → List RawTerm → Type 0
IsOpen sig f o u w rest n all = (ts : List Token)
    → written w ((shown sig (apply f (terms_of rest))).tokens ++ (backs o n ++ ts)) ≡ written u ((shown sig (apply f (terms_of all))).tokens ++ ts)

-- of the forms that are open so many are left to be ended
abbrev pub IsEnding : Signature → ℕ → Operator → Writer → Writer → ℕ → List RawTerm → Type 0
IsEnding sig f o u w n all = (ts : List Token) → written w (backs o n ++ ts) ≡ written u ((shown sig (apply f (terms_of all))).tokens ++ ts)

module _ (sig : Signature) (f : ℕ) (o : Operator) (u : Writer) (all : List RawTerm) where
  module _ (there : Some o ≡ at_number sig.operators f) (assoc : o.assoc ≡ true) (m : is_mixfix o 2 ≡ true) where
    pub past_front : (w v : Writer) (rest behind : List RawTerm) (t : RawTerm) (n : ℕ) → rest ≡ t ∷ behind → 2 ≤ length behind → IsOpen sig f o u w rest n all
        → Writes w v (front o o.gather (shown sig t)) → IsOpen sig f o u v behind (suc n) all
    past_front w v rest [] t n is two at h ts = absurd (omega (arith, two))
    past_front w v rest (x ∷ []) t n is two at h ts = absurd (omega (arith, two))
    past_front w v rest (x ∷ y ∷ ys) t n is two at h ts =
        let inner = (shown sig (apply f (terms_of (x ∷ y ∷ ys)))).tokens in
        let step : (shown sig (apply f (terms_of rest))).tokens ≡ front o o.gather (shown sig t) ++ (inner ++ back o o.gather)
        = ap (λ xs. (shown sig (apply f (terms_of xs))).tokens) is ∙ chain_step sig f o there assoc m t x y ys in
        let both : front o o.gather (shown sig t) ++ (inner ++ ((back o o.gather ++ backs o n) ++ ts)) ≡ (front o o.gather (shown sig t) ++ (inner ++ back o o.gather)) ++ (backs o n ++ ts) = simp append_assoc in
        h (inner ++ (backs o (suc n) ++ ts)) ∙ ap (written w) (both ∙ ap (λ xs. xs ++ (backs o n ++ ts)) (sym step)) ∙ at ts

    pub past_last : (w v : Writer) (rest : List RawTerm) (n : ℕ) → length rest ≡ 2 → IsOpen sig f o u w rest n all
        → Writes w v (in_holes o.prec (items_of o.spelling) o.gather (all_shown sig rest)) → IsEnding sig f o u v n all
    past_last w v [] n two at h ts = absurd (omega (arith, two))
    past_last w v (x ∷ []) n two at h ts = absurd (omega (arith, two))
    past_last w v (x ∷ y ∷ []) n two at h ts = h (backs o n ++ ts) ∙ ap (λ xs. written w (xs ++ (backs o n ++ ts))) (chain_two sig f o there assoc m x y) ∙ at ts
    past_last w v (x ∷ y ∷ z ∷ zs) n two at h ts = absurd (omega (arith, two))

  pub past_back : (w v : Writer) (n : ℕ) → IsEnding sig f o u w (suc n) all → Writes w v (back o o.gather) → IsEnding sig f o u v n all
  past_back w v n at h ts = h (backs o n ++ ts) ∙ ap (written w) (sym (append_assoc (back o o.gather) (backs o n) ts)) ∙ at ts
