-- Numbers: the table of the built-in operators, sums that are too big, the successor on numerals, and `==`.
use Rattle.std.specs.Prelude.{◌≡◌, ℕ, zero, suc, ◌-◌, ◌^◌, true, false, [], ◌∷◌, Some, None, codes, refl}
use Rattle.std.proofs.Common.{arith, subst}
use Rattle.std.proofs.lemmas.Bool.{false≢true}
use Rattle.mw_logic.specs.Term.{RawTerm, numeral, variable, apply, nil, cons, constant, binary, unary}
use Rattle.mw_logic.specs.Signature.{Signature, sort, same, of_numeral, IsRawTerm, a_numeral, an_operator, AreRawTerms as arguments, numeral_of}
use Rattle.mw_logic.specs.Accepted.{IsAccepted}
use Rattle.mw_logic.specs.Axioms.{EqualModulo, done}
use Rattle.mw_logic.specs.Kinds.{is_successor}
use Rattle.mw_logic.specs.TermOrder.{stands_after}
use Rattle.mw_logic.specs.NormalForm.{normal_form}
use Rattle.mw_logic.specs.Parts.{IsPart, IsClean, IsTooLarge, IsAdmitted}
use Rattle.mw_logic.specs.Module.{result_of, BuiltIn, Result, Module, Row, IsBuiltIn, IsTooBigPair, IsTruth, IsPolymorphic}
use Rattle.mw_logic.specs.Judgements.{IsNormal, judgements_with}
use Rattle.mw_logic.proofs.RowsKit as kit
use Rattle.mw_logic.proofs.AcceptedTest.{is_accepted-sound}
use Rattle.mw_logic.proofs.Admitted.{too_large-iff}
use Rattle.mw_logic.proofs.CanonicalTerms.{clean_form}
use Rattle.mw_logic.proofs.Invariance.{normal_form-kept}

-- The table computes, up to 2^128 - 1.
three : result_of BuiltIn.plus 1 2 ≡ Result.number 3
three = refl

greatest_number : result_of BuiltIn.plus (2 ^ 128 - 2) 1 ≡ Result.number (2 ^ 128 - 1)
greatest_number = refl

too_big_sum : result_of BuiltIn.plus (2 ^ 128 - 1) 1 ≡ Result.too_big
too_big_sum = refl

by_zero : result_of BuiltIn.quotient 5 0 ≡ Result.nothing
by_zero = refl

difference : result_of BuiltIn.difference 3 5 ≡ Result.number 2
difference = refl

comparison : result_of BuiltIn.at_most 8 2 ≡ Result.truth false
comparison = refl

-- Nat with s_ and _+_, and an associative and commutative operator whose identity is the numeral 1.
abbrev numbers : Signature
numbers = record {
  sorts = codes "Nat" ∷ codes "Zero" ∷ codes "NzNat" ∷ [];
  pairs = (2, 1) ∷ (3, 1) ∷ [];
  operators =
      kit.an_operator (codes "s_") (sort 1 ∷ []) (sort 3) ∷ kit.with_axioms true (Some (numeral_of 1)) (kit.an_operator (codes "_*_") (sort 1 ∷ sort 1 ∷ []) (sort 1))
      ∷ kit.with_axioms true None (kit.an_operator (codes "_+_") (sort 1 ∷ sort 1 ∷ []) (sort 1)) ∷ [];
  nat = true;
  qid = false;
}

accepted : IsAccepted numbers
accepted = is_accepted-sound numbers refl

abbrev s : RawTerm → RawTerm
s t = unary 1 t

abbrev times : RawTerm → RawTerm → RawTerm
times t u = binary 2 t u

abbrev plus : RawTerm → RawTerm → RawTerm
plus t u = binary 3 t u

-- s 0 becomes the identity 1, and goes; a list of one element is that element, whatever its top.
normal_product : normal_form numbers (times (s (numeral 0)) (times (numeral 7) (s (numeral 4)))) ≡ apply 2 (cons (numeral 5) (cons (numeral 7) nil))
unfolding stands_after is_successor
normal_product = refl

normal_collapsed : normal_form numbers (times (numeral 1) (s (variable (kit.a_variable (codes "N") 1)))) ≡ s (variable (kit.a_variable (codes "N") 1))
unfolding is_successor
normal_collapsed = refl

-- s_ stays on the largest numeral, so this term is too large; and no numeral is larger.
normal_largest : normal_form numbers (s (numeral (2 ^ 128 - 1))) ≡ s (numeral (2 ^ 128 - 1))
unfolding is_successor
normal_largest = refl

largest_raw : IsRawTerm numbers (s (numeral (2 ^ 128 - 1)))
largest_raw = an_operator _ refl (arguments.next (a_numeral refl (omega arith)) (of_numeral 1 refl refl same) arguments.end)

too_large : IsTooLarge numbers (s (numeral (2 ^ 128 - 1)))
unfolding is_successor
too_large = (too_large-iff numbers accepted largest_raw).1 refl

not_admitted : IsAdmitted numbers (s (numeral (2 ^ 128 - 1))) → ⊥
not_admitted h = h.not_large too_large

no_larger : IsRawTerm numbers (numeral (2 ^ 128)) → ⊥
no_larger (a_numeral b l) = omega (arith, l)

-- 2^128 - 1 plus 1 is a pair that is too big; so that sum is not normal.
plus_built_in : IsBuiltIn numbers 3 BuiltIn.plus
plus_built_in = (refl, record { operator = _; is_there = refl; spelled = refl; of_kinds = (1, refl, same, (1, refl, same, tt)); gives = (1, refl, same, tt) })

too_big : IsTooBigPair numbers (plus (numeral (2 ^ 128 - 1)) (numeral 1))
too_big = record { operator = 3; m = 2 ^ 128 - 1; n = 1; schema = BuiltIn.plus; is_built_in = plus_built_in; is = refl; too_big = refl }

abbrev N : Module
N = record { signature = numbers; statements = [] }

sum_raw : IsRawTerm numbers (plus (numeral (2 ^ 128 - 1)) (numeral 1))
sum_raw = an_operator _ refl (arguments.next (a_numeral refl (omega arith)) (of_numeral 1 refl refl same) (arguments.next (a_numeral refl (omega arith)) (of_numeral 1 refl refl same) arguments.end))

sum_in_order : IsPart numbers (plus (numeral (2 ^ 128 - 1)) (numeral 1)) [] (plus (numeral 1) (numeral (2 ^ 128 - 1)))
unfolding stands_after is_successor
sum_in_order = clean_form numbers accepted sum_raw

too_big_in_order : IsTooBigPair numbers (plus (numeral 1) (numeral (2 ^ 128 - 1)))
too_big_in_order = record { operator = 3; m = 1; n = 2 ^ 128 - 1; schema = BuiltIn.plus; is_built_in = plus_built_in; is = refl; too_big = refl }

too_big_not_normal : (n : ℕ) → IsNormal N n (plus (numeral (2 ^ 128 - 1)) (numeral 1)) → ⊥
unfolding judgements_with
too_big_not_normal zero h = h.no_pair [] _ sum_in_order too_big_in_order
too_big_not_normal (suc n) h = h.no_pair [] _ sum_in_order too_big_in_order

-- Equality tests: constants a and b of T, true and false of Bool, and `_==_` on T.
abbrev tests : Signature
tests = record {
  sorts = codes "T" ∷ codes "Bool" ∷ [];
  pairs = [];
  operators =
      kit.an_operator (codes "a") [] (sort 1) ∷ kit.an_operator (codes "b") [] (sort 1) ∷ record (kit.an_operator (codes "_==_") (sort 1 ∷ sort 1 ∷ []) (sort 2)) { result = 2; built = true }
      ∷ record (kit.an_operator (codes "true") [] (sort 2)) { result = 2 } ∷ record (kit.an_operator (codes "false") [] (sort 2)) { result = 2 } ∷ [];
  nat = false;
  qid = false;
}

tests_accepted : IsAccepted tests
tests_accepted = is_accepted-sound tests refl

abbrev a : RawTerm
a = constant 1

abbrev b : RawTerm
b = constant 2

a_b_apart : EqualModulo tests a b → ⊥
a_b_apart e = one_two 1 2 refl refl (constant_inj (normal_form-kept tests tests_accepted e))
  where
    constant_inj : {c d : ℕ} → constant c ≡ constant d → c ≡ d
    constant_inj e = cc

    one_two : (c d : ℕ) → c ≡ 1 → d ≡ 2 → c ≡ d → ⊥
    one_two c d h k e = omega arith

is_test : IsPolymorphic tests 3 (codes "_==_")
is_test = (_, refl, refl, refl)

false_term : IsTruth tests false (constant 5)
false_term = (5, refl, record { operator = _; is_there = refl; spelled = refl; of_kinds = tt; gives = (2, refl, same, tt) })

-- Where a and b are normal, a == b becomes false.
unequal : (IsNormal : RawTerm → Type 0) → IsNormal a → IsNormal b → Row tests IsNormal (binary 3 a b) (constant 5)
unequal IsNormal h k = Row.unequal_terms is_test h k a_b_apart false_term

-- Where a equals b by an equation, a is not normal, and a == b becomes nothing at all: it does not become false.
abbrev a_is_b : Module
a_is_b = record { signature = tests; statements = kit.an_equation a b [] [] ∷ [] }

a_clean : IsClean tests a
a_clean = (tt, (λ e is m. m), (λ n is e l. false≢true is.nat))

a_not_normal : (n : ℕ) → IsNormal a_is_b n a → ⊥
unfolding judgements_with
a_not_normal zero h = h.no_equation [] a (record { clean = a_clean; equal = done }) 1 _ (record { is_there = refl; executable = refl }) refl [] (record { substitution = tt; extends = λ x t e. e; variables = λ x. refl; matches = done })
a_not_normal (suc n) h = h.no_equation [] a (record { clean = a_clean; equal = done }) 1 _ (record { is_there = refl; executable = refl }) refl [] (record { substitution = tt; extends = λ x t e. e; variables = λ x. refl; matches = done })

no_row : (IsNormal : RawTerm → Type 0) → ¬ IsNormal a → (t r : RawTerm) → t ≡ binary 3 a b → Row tests IsNormal t r → ⊥
no_row IsNormal h t r e (Row.arithmetic k f d) = false≢true f.0
no_row IsNormal h t r e (Row.equal_terms {u} {v} p q d) = let i : u ≡ a = cc in let j : v ≡ b = cc in a_b_apart (subst (λ u. EqualModulo tests u b) i (subst (λ v. EqualModulo tests u v) j q))
no_row IsNormal h t r e (Row.unequal_terms {u} p n m q d) = let i : u ≡ a = cc in h (subst IsNormal i n)
no_row IsNormal h t r e (Row.not_different {u} {v} p q d) = let i : u ≡ a = cc in let j : v ≡ b = cc in a_b_apart (subst (λ u. EqualModulo tests u b) i (subst (λ v. EqualModulo tests u v) j q))
no_row IsNormal h t r e (Row.different {u} p n m q d) = let i : u ≡ a = cc in h (subst IsNormal i n)
no_row IsNormal h t r e (Row.if_true f c) = cc
no_row IsNormal h t r e (Row.if_false f c) = cc

a_is_b_no_row : (n : ℕ) (r : RawTerm) → Row tests (IsNormal a_is_b n) (binary 3 a b) r → ⊥
a_is_b_no_row n r = no_row (IsNormal a_is_b n) (a_not_normal n) (binary 3 a b) r refl
