-- A term is ground where its normal form is; and a value in a ground instance is ground.
use Rattle.std.specs.Prelude.{◌≡◌, ℕ, List, Bool, true, false, ◌&&◌, cond, nat_eq, nat_lt, suc, ◌^◌, Option, Some, None, IsTrue, refl}
use Rattle.std.proofs.Common.{sym, ap, subst, ◌∙◌, ⊎_elim}
use Rattle.std.proofs.lemmas.Bool.{both_ways, and_parts, or_cases}
use Rattle.mw_logic.specs.Term.{Variable, RawTerm, numeral, quoted, variable, apply, RawTerms, nil, cons, join, is_ground, are_ground}
use Rattle.mw_logic.specs.Signature.{Signature, Identity, constant_of, numeral_of}
use Rattle.mw_logic.specs.Kinds.{is_successor}
use Rattle.mw_logic.specs.Parts.{is_assoc, nested, all_nested, nest, chain}
use Rattle.mw_logic.specs.TermOrder.{stands_after, insert_term, sorted_terms}
use Rattle.mw_logic.specs.NormalForm.{is_comm, identity_of, is_identity, own_arguments, elements, flattened, identity_or_empty, rebuilt, arranged, counted, applied}
use Rattle.mw_logic.specs.Substitution.{occurs, occurs_in}
use Rattle.mw_logic.proofs.Canonical.{named}
use Rattle.mw_logic.proofs.SameConditions.{same_variable-is}
use Rattle.mw_position.specs.Variables.{placed, all_placed}
use Rattle.mw_matching.specs.Matches.{evaluated, evaluated_all}

and_true : (a : Bool) → (a && true) ≡ a
and_true true = refl
and_true false = refl

and_assoc : (a b c : Bool) → ((a && b) && c) ≡ (a && (b && c))
and_assoc true b c = refl
and_assoc false b c = refl

and_exchanged : (a b c : Bool) → (a && (b && c)) ≡ (b && (a && c))
and_exchanged true b c = refl
and_exchanged false true c = refl
and_exchanged false false c = refl

join_ground : (ts us : RawTerms) → are_ground (join ts us) ≡ (are_ground ts && are_ground us)
join_ground nil us = refl
join_ground (cons t ts) us = ap (λ b. is_ground t && b) (join_ground ts us) ∙ sym (and_assoc (is_ground t) (are_ground ts) (are_ground us))

insert_ground : (t : RawTerm) (us : RawTerms) → are_ground (insert_term t us) ≡ (is_ground t && are_ground us)
insert_ground t nil = refl
insert_ground t (cons u us) = by_test (stands_after t u) (insert_ground t us)
  where
    by_test : (b : Bool) → are_ground (insert_term t us) ≡ (is_ground t && are_ground us) → are_ground (cond b (cons u (insert_term t us)) (cons t (cons u us))) ≡ (is_ground t && (is_ground u && are_ground us))
    by_test true r = ap (λ b. is_ground u && b) r ∙ and_exchanged (is_ground u) (is_ground t) (are_ground us)
    by_test false r = refl

sorted_ground : (ts : RawTerms) → are_ground (sorted_terms ts) ≡ are_ground ts
sorted_ground nil = refl
sorted_ground (cons t ts) = insert_ground t (sorted_terms ts) ∙ ap (λ b. is_ground t && b) (sorted_ground ts)

arranged_ground : (c : Bool) (ts : RawTerms) → are_ground (arranged c ts) ≡ are_ground ts
arranged_ground true ts = sorted_ground ts
arranged_ground false ts = refl

named_ground : (e : Option Identity) (f : ℕ) → is_ground (identity_or_empty e f) ≡ true
named_ground None f = refl
named_ground (Some (constant_of c)) f = refl
named_ground (Some (numeral_of n)) f = refl

own_ground : (f : ℕ) (t : RawTerm) → are_ground (own_arguments f t) ≡ is_ground t
own_ground f (numeral n) = refl
own_ground f (quoted q) = refl
own_ground f (variable x) = refl
own_ground f (apply g nil) = refl
own_ground f (apply g (cons t ts)) = by_test (nat_eq f g)
  where
    by_test : (b : Bool) → are_ground (cond b (cons t ts) (cons (apply g (cons t ts)) nil)) ≡ (is_ground t && are_ground ts)
    by_test true = refl
    by_test false = and_true (is_ground t && are_ground ts)

elements_ground : (e : Option Identity) (f : ℕ) (t : RawTerm) → are_ground (elements e f t) ≡ is_ground t
elements_ground e f t = by_test (is_identity e t) refl
  where
    by_test : (b : Bool) → is_identity e t ≡ b → are_ground (cond b nil (own_arguments f t)) ≡ is_ground t
    by_test true h = sym (ap is_ground (named e f t h) ∙ named_ground e f)
    by_test false h = own_ground f t

flattened_ground : (e : Option Identity) (f : ℕ) (ts : RawTerms) → are_ground (flattened e f ts) ≡ are_ground ts
flattened_ground e f nil = refl
flattened_ground e f (cons t ts) = join_ground (elements e f t) (flattened e f ts) ∙ rw (elements_ground e f t, flattened_ground e f ts) refl

rebuilt_ground : (e : Option Identity) (f : ℕ) (ts : RawTerms) → is_ground (rebuilt e f ts) ≡ are_ground ts
rebuilt_ground e f nil = named_ground e f
rebuilt_ground e f (cons t nil) = sym (and_true (is_ground t))
rebuilt_ground e f (cons t (cons u us)) = refl

counted_ground : (s : Bool) (f : ℕ) (ts : RawTerms) → is_ground (counted s f ts) ≡ are_ground ts
counted_ground s f nil = refl
counted_ground s f (cons (numeral n) nil) = by_test (s && nat_lt (suc n) (2 ^ 128))
  where
    by_test : (b : Bool) → is_ground (cond b (numeral (suc n)) (apply f (cons (numeral n) nil))) ≡ true
    by_test true = refl
    by_test false = refl
counted_ground s f (cons (quoted q) nil) = refl
counted_ground s f (cons (variable x) nil) = refl
counted_ground s f (cons (apply g us) nil) = refl
counted_ground s f (cons t (cons u us)) = refl

applied_ground : (a c s : Bool) (e : Option Identity) (f : ℕ) (ts : RawTerms) → is_ground (applied a c s e f ts) ≡ are_ground ts
applied_ground true c s e f ts = rebuilt_ground e f (arranged c (flattened e f ts)) ∙ arranged_ground c (flattened e f ts) ∙ flattened_ground e f ts
applied_ground false c s e f ts = counted_ground s f (arranged c ts) ∙ arranged_ground c ts

module _ (sig : Signature) where
  chain_ground : (f : ℕ) (t : RawTerm) (ts : RawTerms) → is_ground (chain f t ts) ≡ are_ground (cons t ts)
  chain_ground f t nil = sym (and_true (is_ground t))
  chain_ground f t (cons u us) = ap (λ b. is_ground t && b) (and_true (is_ground (chain f u us)) ∙ chain_ground f u us)

  nest_ground : (b : Bool) (f : ℕ) (ts : RawTerms) → is_ground (nest b f ts) ≡ are_ground ts
  nest_ground false f ts = refl
  nest_ground true f nil = refl
  nest_ground true f (cons t ts) = chain_ground f t ts

  -- what a flattened term means is ground with it
  mutual
    pub nested_ground : (t : RawTerm) → is_ground (nested sig t) ≡ is_ground t
    nested_ground (numeral n) = refl
    nested_ground (quoted q) = refl
    nested_ground (variable x) = refl
    nested_ground (apply f ts) = nest_ground (is_assoc sig f) f (all_nested sig ts) ∙ all_nested_ground ts

    all_nested_ground : (ts : RawTerms) → are_ground (all_nested sig ts) ≡ are_ground ts
    all_nested_ground nil = refl
    all_nested_ground (cons t ts) = rw (nested_ground t, all_nested_ground ts) refl

  -- a value that stands in a ground instance is ground
  module _ (us : List RawTerm) (xs : List Variable) where
    mutual
      pub value_ground : (p : RawTerm) → IsTrue (is_ground (evaluated sig us (placed xs p))) → (x : Variable) → IsTrue (occurs x p) → IsTrue (is_ground (evaluated sig us (placed xs (variable x))))
      value_ground (numeral n) g x o = absurd (both_ways _ refl o)
      value_ground (quoted q) g x o = absurd (both_ways _ refl o)
      value_ground (variable y) g x o = subst (λ z. IsTrue (is_ground (evaluated sig us (placed xs (variable z))))) (same_variable-is y x o) g
      value_ground (apply f ps) g x o = values_ground ps (sym (applied_ground (is_assoc sig f) (is_comm sig f) (is_successor sig f) (identity_of sig f) f (evaluated_all sig us (all_placed xs ps))) ∙ g) x o

      values_ground : (ps : RawTerms) → IsTrue (are_ground (evaluated_all sig us (all_placed xs ps))) → (x : Variable) → IsTrue (occurs_in x ps) → IsTrue (is_ground (evaluated sig us (placed xs (variable x))))
      values_ground nil g x o = absurd (both_ways _ refl o)
      values_ground (cons p ps) g x o =
          let h = and_parts _ _ g in
          ⊎_elim (λ k. value_ground p h.0 x k) (λ k. values_ground ps h.1 x k) (or_cases (occurs x p) (occurs_in x ps) o)
