-- Signatures: sorts, subsorts, kinds, and operators with their declarations and axioms; and which trees are terms of a signature. (Maude Manual,
-- chapter 3, "Sorts and subsorts", "Operator declarations" and "Kinds"; chapter 4, "Equational attributes"; Goguen and Meseguer 1992,
-- "Order-sorted algebra".)
use Rattle.std.specs.Prelude.{ℕ, ◌≡◌, ◌⊎◌, ◌<◌, ◌^◌, zero, suc, List, [], ◌∷◌, Bool, Option, Some, None, IsTrue, slice_get, codes}
use Rattle.mw_logic.specs.Term.{Variable, RawTerm, numeral, quoted, variable, apply, RawTerms, nil, cons, constant}

-- A sort, or a kind. A kind is named by any one of its sorts.
pub data Sorted : Type 0 where
  sort : ℕ → Sorted
  kind : ℕ → Sorted

-- a declaration of an operator: the sorts that it takes, and the one that it gives
pub record Declaration : Type 0 where
  pub args : List Sorted
  pub result : Sorted

-- what `id:` names: a constant, by its operator's number, or a numeral
pub data Identity : Type 0 where
  constant_of : ℕ → Identity
  numeral_of : ℕ → Identity

-- which precedence a hole of a mixfix name takes: one below the operator's, at most that, or any
pub data Gather : Type 0 where
  less : Gather
  most : Gather
  any : Gather

-- An operator is a name with the kinds of its arguments and of its result. `prec` and `gather` say how its mixfix form groups; `config` marks the
-- operator that joins the objects and messages of a configuration; `frozen` numbers, from 1, the arguments in which no rule applies; `built` marks
-- the operators that each kind has from the start.
pub record Operator : Type 0 where
  pub spelling : List ℕ
  pub args : List ℕ
  pub result : ℕ
  pub declarations : List Declaration
  pub assoc : Bool
  pub comm : Bool
  pub identity : Option Identity
  pub prec : ℕ
  pub gather : List Gather
  pub config : Bool
  pub frozen : List ℕ
  pub built : Bool

-- Sorts and operators are numbered from 1. `nat` and `qid` say whether NAT and QID are part of the module.
pub record Signature : Type 0 where
  pub sorts : List (List ℕ)
  pub pairs : List (ℕ × ℕ)
  pub operators : List Operator
  pub nat : Bool
  pub qid : Bool

-- x stands in the list
abbrev pub Member : {X : Type 0} → X → List X → Type 0
Member x [] = ⊥
Member x (y ∷ ys) = (y ≡ x) ⊎ Member x ys

-- what stands at a number, counted from 1
abbrev pub at_number : {X : Type 0} → List X → ℕ → Option X
at_number xs zero = None
at_number xs (suc i) = slice_get xs i

-- operator number f is o
abbrev pub IsOperator : Signature → ℕ → Operator → Type 0
IsOperator sig f o = at_number sig.operators f ≡ Some o

-- sort number S has this name
abbrev pub IsSortNamed : Signature → ℕ → List ℕ → Type 0
IsSortNamed sig S name = at_number sig.sorts S ≡ Some name

-- A kind is a connected component of sorts: the least equivalence that holds of each subsort pair.
pub data SameKind (sig : Signature) : ℕ → ℕ → Type 0 where
  same : {S : ℕ} → SameKind sig S S
  up : {S T U : ℕ} → Member (S, T) sig.pairs → SameKind sig T U → SameKind sig S U
  down : {S T U : ℕ} → Member (T, S) sig.pairs → SameKind sig T U → SameKind sig S U

-- A term's kind is that of its top: Nat's of a numeral, Qid's of a quoted identifier, its sort's of a variable, its result's of an operator.
pub data HasKind (sig : Signature) : RawTerm → ℕ → Type 0 where
  of_numeral : {n K : ℕ} (S : ℕ) → IsSortNamed sig S (codes "Nat") → IsTrue sig.nat → SameKind sig S K → HasKind sig (numeral n) K
  of_quoted : {q : List ℕ} {K : ℕ} (S : ℕ) → IsSortNamed sig S (codes "Qid") → IsTrue sig.qid → SameKind sig S K → HasKind sig (quoted q) K
  of_variable : {x : Variable} {K : ℕ} → SameKind sig x.sort K → HasKind sig (variable x) K
  of_operator : {f K : ℕ} {ts : RawTerms} (o : Operator) → IsOperator sig f o → SameKind sig o.result K → HasKind sig (apply f ts) K

-- The raw terms of a signature: numerals are below 2^128, and an operator stands on arguments of its kinds, as many as it takes.
mutual
  pub data IsRawTerm (sig : Signature) : RawTerm → Type 0 where
    a_numeral : {n : ℕ} → IsTrue sig.nat → n < 2 ^ 128 → IsRawTerm sig (numeral n)
    a_quoted : {q : List ℕ} → IsTrue sig.qid → IsRawTerm sig (quoted q)
    a_variable : {x : Variable} → IsRawTerm sig (variable x)
    an_operator : {f : ℕ} {ts : RawTerms} (o : Operator) → IsOperator sig f o → AreRawTerms sig ts o.args → IsRawTerm sig (apply f ts)

  pub data AreRawTerms (sig : Signature) : RawTerms → List ℕ → Type 0 where
    end : AreRawTerms sig nil []
    next : {t : RawTerm} {ts : RawTerms} {K : ℕ} {Ks : List ℕ} → IsRawTerm sig t → HasKind sig t K → AreRawTerms sig ts Ks → AreRawTerms sig (cons t ts) (K ∷ Ks)

-- the identity as a term
abbrev pub identity_term : Identity → RawTerm
identity_term (constant_of c) = constant c
identity_term (numeral_of n) = numeral n

-- f has `assoc`, f has `comm`
pub record IsAssociative (sig : Signature) (f : ℕ) : Type 0 where
  pub operator : Operator
  pub is_there : IsOperator sig f operator
  pub assoc : IsTrue operator.assoc

pub record IsCommutative (sig : Signature) (f : ℕ) : Type 0 where
  pub operator : Operator
  pub is_there : IsOperator sig f operator
  pub comm : IsTrue operator.comm

-- e is the identity of f
pub record IsIdentity (sig : Signature) (f : ℕ) (e : RawTerm) : Type 0 where
  pub operator : Operator
  pub is_there : IsOperator sig f operator
  pub identity : Identity
  pub named : operator.identity ≡ Some identity
  pub is : e ≡ identity_term identity

-- f is the successor `s_` of numbers: it has one argument, and that and the result are of Nat's kind.
pub record IsSuccessor (sig : Signature) (f : ℕ) : Type 0 where
  pub operator : Operator
  pub is_there : IsOperator sig f operator
  pub nat : IsTrue sig.nat
  pub spelled : operator.spelling ≡ codes "s_"
  pub Nat : ℕ
  pub named : IsSortNamed sig Nat (codes "Nat")
  pub of_kind : SameKind sig Nat operator.result
  pub argument : ℕ
  pub takes_one : operator.args ≡ argument ∷ []
  pub of_argument : SameKind sig Nat argument
