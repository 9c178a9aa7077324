-- A flattened term has the variables of what it means, in the same order; and with positions for variables it means the
-- same with positions.
use Rattle.std.specs.Prelude.{◌≡◌, ℕ, List, Bool, true, false, ◌||◌, IsTrue, refl}
use Rattle.std.proofs.Common.{sym, ap, ◌∙◌}
use Rattle.std.proofs.lemmas.Bool.{or_left, or_right}
use Rattle.mw_logic.specs.Term.{Variable, RawTerm, numeral, quoted, variable, apply, RawTerms, nil, cons}
use Rattle.mw_logic.specs.Signature.{Signature}
use Rattle.mw_logic.specs.Parts.{is_assoc, nested, all_nested, nest, chain}
use Rattle.mw_logic.specs.Substitution.{Substitution, instance, instances, occurs, occurs_in}
use Rattle.mw_logic.proofs.SameConditions.{same_variable-refl}
use Rattle.mw_position.specs.Positions.{fill, fill_all}
use Rattle.mw_position.specs.Variables.{is_in, placed, all_placed}
use Rattle.mw_position.proofs.Meeting.{or_none}
use Rattle.mw_position.proofs.Placing.{values_of, at_place}

module _ (sig : Signature) where
  chain_occurs : (x : Variable) (f : ℕ) (t : RawTerm) (ts : RawTerms) → occurs x (chain f t ts) ≡ occurs_in x (cons t ts)
  chain_occurs x f t nil = sym (or_none (occurs x t))
  chain_occurs x f t (cons u us) = ap (λ b. occurs x t || b) (or_none (occurs x (chain f u us)) ∙ chain_occurs x f u us)

  nest_occurs : (x : Variable) (b : Bool) (f : ℕ) (ts : RawTerms) → occurs x (nest b f ts) ≡ occurs_in x ts
  nest_occurs x false f ts = refl
  nest_occurs x true f nil = refl
  nest_occurs x true f (cons t ts) = chain_occurs x f t ts

  mutual
    pub nested_occurs : (x : Variable) (t : RawTerm) → occurs x (nested sig t) ≡ occurs x t
    nested_occurs x (numeral n) = refl
    nested_occurs x (quoted q) = refl
    nested_occurs x (variable y) = refl
    nested_occurs x (apply f ts) = nest_occurs x (is_assoc sig f) f (all_nested sig ts) ∙ all_nested_occurs x ts

    all_nested_occurs : (x : Variable) (ts : RawTerms) → occurs_in x (all_nested sig ts) ≡ occurs_in x ts
    all_nested_occurs x nil = refl
    all_nested_occurs x (cons t ts) = rw (nested_occurs x t, all_nested_occurs x ts) refl

  placed_chain : (xs : List Variable) (f : ℕ) (t : RawTerm) (ts : RawTerms) → placed xs (chain f t ts) ≡ chain f (placed xs t) (all_placed xs ts)
  placed_chain xs f t nil = refl
  placed_chain xs f t (cons u us) = ap (λ w. apply f (cons (placed xs t) (cons w nil))) (placed_chain xs f u us)

  placed_nest : (xs : List Variable) (b : Bool) (f : ℕ) (ts : RawTerms) → placed xs (nest b f ts) ≡ nest b f (all_placed xs ts)
  placed_nest xs false f ts = refl
  placed_nest xs true f nil = refl
  placed_nest xs true f (cons t ts) = placed_chain xs f t ts

  mutual
    pub nested_placed : (xs : List Variable) (t : RawTerm) → nested sig (placed xs t) ≡ placed xs (nested sig t)
    nested_placed xs (numeral n) = refl
    nested_placed xs (quoted q) = refl
    nested_placed xs (variable x) = refl
    nested_placed xs (apply f ts) = ap (nest (is_assoc sig f) f) (all_nested_placed xs ts) ∙ sym (placed_nest xs (is_assoc sig f) f (all_nested sig ts))

    all_nested_placed : (xs : List Variable) (ts : RawTerms) → all_nested sig (all_placed xs ts) ≡ all_placed xs (all_nested sig ts)
    all_nested_placed xs nil = refl
    all_nested_placed xs (cons t ts) = rw (nested_placed xs t, all_nested_placed xs ts) refl

-- the instance by position is that by a statement's own variables, where each of them has a place
mutual
  pub filled : (s : Substitution) (xs : List Variable) (t : RawTerm) → ((x : Variable) → IsTrue (occurs x t) → IsTrue (is_in x xs)) → fill (values_of s xs) (placed xs t) ≡ instance s t
  filled s xs (numeral n) h = refl
  filled s xs (quoted q) h = refl
  filled s xs (variable x) h = rw (at_place s xs x (h x (same_variable-refl x))) refl
  filled s xs (apply f ts) h = ap (apply f) (all_filled s xs ts h)

  all_filled : (s : Substitution) (xs : List Variable) (ts : RawTerms) → ((x : Variable) → IsTrue (occurs_in x ts) → IsTrue (is_in x xs)) → fill_all (values_of s xs) (all_placed xs ts) ≡ instances s ts
  all_filled s xs nil h = refl
  all_filled s xs (cons t ts) h =
      rw (filled s xs t (λ x o. h x (or_left (occurs x t) (occurs_in x ts) o)), all_filled s xs ts (λ x o. h x (or_right (occurs x t) (occurs_in x ts) o))) refl
