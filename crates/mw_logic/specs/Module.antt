-- Modules: a signature with equations and rules; and the built-in schemata, the rows by which numbers, `==`, `=/=` and `if` compute. (Maude Manual,
-- chapters 4 and 5, "Conditional equations", "Conditional rules", "The owise attribute"; chapter 7, "Boolean values" and "Natural numbers".)
use Rattle.std.specs.Prelude.{◌≡◌, ℕ, zero, suc, ◌+◌, ◌-◌, ◌*◌, ◌/◌, ◌%◌, ◌^◌, min, max, List, [], ◌∷◌, Bool, true, false, ◌&&◌, nat_lt, nat_le, cond, Some, IsTrue, codes, ⊤}
use Rattle.mw_logic.specs.Term.{Variable, RawTerm, numeral, apply, nil, cons, constant, binary}
use Rattle.mw_logic.specs.Signature.{Signature, Sorted, Operator, at_number, IsOperator, IsSortNamed, SameKind}
use Rattle.mw_logic.specs.Axioms.{EqualModulo}
use Rattle.mw_logic.specs.Substitution.{Substitution, binds}

-- One fragment of a condition: an equation `u = v`, a match `p := t`, a sort test `t : S`, or a Boolean term.
pub data Fragment : Type 0 where
  equal : RawTerm → RawTerm → Fragment
  matches : RawTerm → RawTerm → Fragment
  has_sort : RawTerm → Sorted → Fragment
  is_true : RawTerm → Fragment

-- An equation or a rule, from left to right where its condition holds. `variables` are its variables in order of first mention: left side, right side,
-- fragments. A `nonexec` statement is not executable. An `owise` equation applies where no ordinary one does.
pub record Statement : Type 0 where
  pub left : RawTerm
  pub right : RawTerm
  pub fragments : List Fragment
  pub variables : List Variable
  pub rule : Bool
  pub executable : Bool
  pub owise : Bool

-- each variable of the statement is bound
abbrev pub binds_fragments : Substitution → List Fragment → Bool
binds_fragments s [] = true
binds_fragments s (equal u v ∷ C) = binds s u && binds s v && binds_fragments s C
binds_fragments s (matches p t ∷ C) = binds s p && binds s t && binds_fragments s C
binds_fragments s (has_sort t S ∷ C) = binds s t && binds_fragments s C
binds_fragments s (is_true b ∷ C) = binds s b && binds_fragments s C

abbrev pub binds_statement : Substitution → Statement → Bool
binds_statement s st = binds s st.left && binds s st.right && binds_fragments s st.fragments

-- A module: its signature, and its statements in order, those of the modules that it imports among them.
pub record Module : Type 0 where
  pub signature : Signature
  pub statements : List Statement

-- st is the executable statement of this number, counted from 1. No other statement applies.
pub record IsStatement (M : Module) (k : ℕ) (st : Statement) : Type 0 where
  pub is_there : at_number M.statements k ≡ Some st
  pub executable : IsTrue st.executable

-- the operators that have a schema on two numerals
pub data BuiltIn : Type 0 where
  plus : BuiltIn
  times : BuiltIn
  difference : BuiltIn
  quotient : BuiltIn
  remainder : BuiltIn
  least : BuiltIn
  greatest : BuiltIn
  less_than : BuiltIn
  at_most : BuiltIn
  more_than : BuiltIn
  at_least : BuiltIn

abbrev pub spelling_of : BuiltIn → List ℕ
spelling_of plus = codes "_+_"
spelling_of times = codes "_*_"
spelling_of difference = codes "sd"
spelling_of quotient = codes "_quo_"
spelling_of remainder = codes "_rem_"
spelling_of least = codes "min"
spelling_of greatest = codes "max"
spelling_of less_than = codes "_<_"
spelling_of at_most = codes "_<=_"
spelling_of more_than = codes "_>_"
spelling_of at_least = codes "_>=_"

-- a number, a truth value, nothing at all, or a number that is too big
pub data Result : Type 0 where
  number : ℕ → Result
  truth : Bool → Result
  nothing : Result
  too_big : Result

abbrev pub bounded : ℕ → Result
bounded n = cond (nat_lt n (2 ^ 128)) (number n) too_big

abbrev pub by_nonzero : ℕ → Result → Result
by_nonzero zero r = nothing
by_nonzero (suc n) r = r

-- The table of the operators on numbers: what each gives of m and n. Sums and products of 2^128 or more are too big; nothing is divided by 0.
abbrev pub result_of : BuiltIn → ℕ → ℕ → Result
result_of plus m n = bounded (m + n)
result_of times m n = bounded (m * n)
result_of difference m n = number (max m n - min m n)
result_of quotient m n = by_nonzero n (number (m / n))
result_of remainder m n = by_nonzero n (number (m % n))
result_of least m n = number (min m n)
result_of greatest m n = number (max m n)
result_of less_than m n = truth (nat_lt m n)
result_of at_most m n = truth (nat_le m n)
result_of more_than m n = truth (nat_lt n m)
result_of at_least m n = truth (nat_le n m)

-- the kinds are those of the sorts of these names
abbrev pub AreKindsOf : Signature → List ℕ → List (List ℕ) → Type 0
AreKindsOf sig [] [] = ⊤
AreKindsOf sig [] (n ∷ ns) = ⊥
AreKindsOf sig (K ∷ Ks) [] = ⊥
AreKindsOf sig (K ∷ Ks) (n ∷ ns) = (S : ℕ) × IsSortNamed sig S n × SameKind sig S K × AreKindsOf sig Ks ns

-- f is the operator of this name on these kinds, with a result of that kind
pub record IsNamed (sig : Signature) (f : ℕ) (spelling : List ℕ) (args : List (List ℕ)) (result : List ℕ) : Type 0 where
  pub operator : Operator
  pub is_there : IsOperator sig f operator
  pub spelled : operator.spelling ≡ spelling
  pub of_kinds : AreKindsOf sig operator.args args
  pub gives : AreKindsOf sig (operator.result ∷ []) (result ∷ [])

-- numbers give a number, and comparisons a truth value
abbrev pub sort_of_result : BuiltIn → List ℕ
sort_of_result plus = codes "Nat"
sort_of_result times = codes "Nat"
sort_of_result difference = codes "Nat"
sort_of_result quotient = codes "Nat"
sort_of_result remainder = codes "Nat"
sort_of_result least = codes "Nat"
sort_of_result greatest = codes "Nat"
sort_of_result less_than = codes "Bool"
sort_of_result at_most = codes "Bool"
sort_of_result more_than = codes "Bool"
sort_of_result at_least = codes "Bool"

-- f is the built-in operator b, in a module with numbers
abbrev pub IsBuiltIn : Signature → ℕ → BuiltIn → Type 0
IsBuiltIn sig f b = IsTrue sig.nat × IsNamed sig f (spelling_of b) (codes "Nat" ∷ codes "Nat" ∷ []) (sort_of_result b)

-- t is the constant `true`, or `false`, of Bool's kind
abbrev pub IsTruth : Signature → Bool → RawTerm → Type 0
IsTruth sig b t = (c : ℕ) × (t ≡ constant c) × IsNamed sig c (cond b (codes "true") (codes "false")) [] (codes "Bool")

-- the term that a result is
abbrev pub Denotes : Signature → Result → RawTerm → Type 0
Denotes sig (number n) t = t ≡ numeral n
Denotes sig (truth b) t = IsTruth sig b t
Denotes sig nothing t = ⊥
Denotes sig too_big t = ⊥

-- f is `_==_`, `_=/=_` or `if_then_else_fi`, which each kind has
abbrev pub IsPolymorphic : Signature → ℕ → List ℕ → Type 0
IsPolymorphic sig f spelling = (o : Operator) × IsOperator sig f o × (o.spelling ≡ spelling) × IsTrue o.built

-- A row of the schemata, from its left side to its right side. `==` is true of equal terms, and false of terms that are normal and not equal; `=/=` is
-- the other one.
pub data Row (sig : Signature) (IsNormal : RawTerm → Type 0) : RawTerm → RawTerm → Type 0 where
  arithmetic : {f m n : ℕ} {r : RawTerm} (b : BuiltIn) → IsBuiltIn sig f b → Denotes sig (result_of b m n) r → Row sig IsNormal (binary f (numeral m) (numeral n)) r
  equal_terms : {f : ℕ} {u v r : RawTerm} → IsPolymorphic sig f (codes "_==_") → EqualModulo sig u v → IsTruth sig true r → Row sig IsNormal (binary f u v) r
  unequal_terms : {f : ℕ} {u v r : RawTerm} → IsPolymorphic sig f (codes "_==_") → IsNormal u → IsNormal v → ¬ EqualModulo sig u v → IsTruth sig false r → Row sig IsNormal (binary f u v) r
  not_different : {f : ℕ} {u v r : RawTerm} → IsPolymorphic sig f (codes "_=/=_") → EqualModulo sig u v → IsTruth sig false r → Row sig IsNormal (binary f u v) r
  different : {f : ℕ} {u v r : RawTerm} → IsPolymorphic sig f (codes "_=/=_") → IsNormal u → IsNormal v → ¬ EqualModulo sig u v → IsTruth sig true r → Row sig IsNormal (binary f u v) r
  if_true : {f : ℕ} {c u v : RawTerm} → IsPolymorphic sig f (codes "if_then_else_fi") → IsTruth sig true c → Row sig IsNormal (apply f (cons c (cons u (cons v nil)))) u
  if_false : {f : ℕ} {c u v : RawTerm} → IsPolymorphic sig f (codes "if_then_else_fi") → IsTruth sig false c → Row sig IsNormal (apply f (cons c (cons u (cons v nil)))) v

-- t meets a row, so it is not normal. Each `==` and each `=/=` does.
pub data MeetsRow (sig : Signature) : RawTerm → Type 0 where
  by_row : {t u : RawTerm} → Row sig (λ v. ⊥) t u → MeetsRow sig t
  an_equality : {f : ℕ} {u v : RawTerm} → IsPolymorphic sig f (codes "_==_") → MeetsRow sig (binary f u v)
  an_inequality : {f : ℕ} {u v : RawTerm} → IsPolymorphic sig f (codes "_=/=_") → MeetsRow sig (binary f u v)

-- t is a sum or product of two numerals that is 2^128 or more.
pub record IsTooBigPair (sig : Signature) (t : RawTerm) : Type 0 where
  pub operator : ℕ
  pub m : ℕ
  pub n : ℕ
  pub schema : BuiltIn
  pub is_built_in : IsBuiltIn sig operator schema
  pub is : t ≡ binary operator (numeral m) (numeral n)
  pub too_big : result_of schema m n ≡ too_big
