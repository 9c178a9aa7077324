-- Which arguments an operator takes, by a test of what stands on top of them.
use Rattle.std.specs.Prelude.{ℕ, List, [], ◌∷◌, Bool, true, false, ◌&&◌, nat_le, Option, Some, None, codes, if◌then◌else◌}
use Rattle.mw_logic.specs.Term.{RawTerm, numeral, quoted, variable, apply, RawTerms, nil, cons}
use Rattle.mw_logic.specs.Signature.{Signature, Operator, at_number}
use Rattle.mw_logic.specs.Kinds.{kind_number, some_sort}
use Rattle.mw_logic.specs.Accepted.{is_same_kind}
use Rattle.mw_logic.specs.Parts.{number_of_terms}

-- a sort of this name is of K's kind, and there are terms of it
abbrev pub is_kind_named : Signature → Bool → List ℕ → ℕ → Bool
is_kind_named sig there name K = there && some_sort sig name (kind_number sig K) 1 sig.sorts

-- the operator gives terms of K's kind
abbrev pub gives : Signature → ℕ → Option Operator → Bool
gives sig K None = false
gives sig K (Some o) = is_same_kind sig o.result K

-- the term, which is ground, is of K's kind
abbrev pub is_of_kind : Signature → ℕ → RawTerm → Bool
is_of_kind sig K (numeral n) = is_kind_named sig sig.nat (codes "Nat") K
is_of_kind sig K (quoted q) = is_kind_named sig sig.qid (codes "Qid") K
is_of_kind sig K (variable x) = false
is_of_kind sig K (apply f ts) = gives sig K (at_number sig.operators f)

-- each term is of K's kind
abbrev pub are_of_kind : Signature → ℕ → RawTerms → Bool
are_of_kind sig K nil = true
are_of_kind sig K (cons t ts) = is_of_kind sig K t && are_of_kind sig K ts

-- the terms are of these kinds, one by one
abbrev pub are_of_kinds : Signature → List ℕ → RawTerms → Bool
are_of_kinds sig [] nil = true
are_of_kinds sig [] (cons t ts) = false
are_of_kinds sig (K ∷ Ks) nil = false
are_of_kinds sig (K ∷ Ks) (cons t ts) = is_of_kind sig K t && are_of_kinds sig Ks ts

-- the operator takes these arguments: if it is associative two or more of its own kind, else those of its kinds
abbrev pub operator_takes : Signature → Option Operator → RawTerms → Bool
operator_takes sig None ts = false
operator_takes sig (Some o) ts = if o.assoc then nat_le 2 (number_of_terms ts) && are_of_kind sig o.result ts else are_of_kinds sig o.args ts

abbrev pub takes : Signature → ℕ → RawTerms → Bool
takes sig f ts = operator_takes sig (at_number sig.operators f) ts
