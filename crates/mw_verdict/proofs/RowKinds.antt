-- What computes is known by its spelling, and so an operator computes in one way.
use Rattle.std.specs.Prelude.{◌≡◌, ℕ, List, Bool, true, false, cond, codes, refl}
use Rattle.std.proofs.Common.{ap, sym, ◌∙◌}
use Rattle.mw_logic.specs.Term.{RawTerm, RawTerms, numeral, apply, nil, cons}
use Rattle.mw_logic.specs.Signature.{Signature, Operator, IsOperator}
use Rattle.mw_logic.specs.Accepted.{agree}
use Rattle.mw_logic.specs.Axioms.{EqualModulo}
use Rattle.mw_logic.specs.Kinds.{same_name}
use Rattle.mw_logic.specs.Module.{BuiltIn, plus, times, difference, quotient, remainder, least, greatest, less_than, at_most, more_than, at_least, spelling_of, result_of, Denotes, IsBuiltIn, IsTruth, IsPolymorphic, Row, arithmetic, equal_terms, unequal_terms, not_different, different, if_true, if_false}
use Rattle.mw_logic.proofs.Canonical.{same_operator}

-- an operator on numbers; a test of equality, or of inequality; a choice
pub data Kind : Type 0 where
  numbers : BuiltIn → Kind
  test : Bool → Kind
  choice : Kind

abbrev pub test_name : Bool → List ℕ
test_name e = cond e (codes "_==_") (codes "_=/=_")

abbrev spelled : Kind → List ℕ
spelled (numbers b) = spelling_of b
spelled (test e) = test_name e
spelled choice = codes "if_then_else_fi"

abbrev kind_of : List ℕ → Kind
kind_of x =
    cond (same_name x (codes "_+_")) (numbers plus) (cond (same_name x (codes "_*_")) (numbers times) (cond (same_name x (codes "sd")) (numbers difference)
    (cond (same_name x (codes "_quo_")) (numbers quotient) (cond (same_name x (codes "_rem_")) (numbers remainder) (cond (same_name x (codes "min")) (numbers least)
    (cond (same_name x (codes "max")) (numbers greatest) (cond (same_name x (codes "_<_")) (numbers less_than) (cond (same_name x (codes "_<=_")) (numbers at_most)
    (cond (same_name x (codes "_>_")) (numbers more_than) (cond (same_name x (codes "_>=_")) (numbers at_least) (cond (same_name x (codes "_==_")) (test true)
    (cond (same_name x (codes "_=/=_")) (test false) choice))))))))))))

kind_spelled : (k : Kind) → kind_of (spelled k) ≡ k
kind_spelled (numbers plus) = refl
kind_spelled (numbers times) = refl
kind_spelled (numbers difference) = refl
kind_spelled (numbers quotient) = refl
kind_spelled (numbers remainder) = refl
kind_spelled (numbers least) = refl
kind_spelled (numbers greatest) = refl
kind_spelled (numbers less_than) = refl
kind_spelled (numbers at_most) = refl
kind_spelled (numbers more_than) = refl
kind_spelled (numbers at_least) = refl
kind_spelled (test true) = refl
kind_spelled (test false) = refl
kind_spelled choice = refl

-- the terms are equal, or such terms and not equal
abbrev pub Decides : Signature → (RawTerm → Type 0) → Bool → RawTerm → RawTerm → Type 0
Decides sig N true u v = EqualModulo sig u v
Decides sig N false u v = N u × N v × ¬ EqualModulo sig u v

-- the rows by their kinds
pub data Shape (sig : Signature) (N : RawTerm → Type 0) (f : ℕ) : RawTerms → Kind → RawTerm → Type 0 where
  of_numbers : {b : BuiltIn} {m n : ℕ} {r : RawTerm} → IsBuiltIn sig f b → Denotes sig (result_of b m n) r → Shape sig N f (cons (numeral m) (cons (numeral n) nil)) (numbers b) r
  of_test : {e : Bool} {u v r : RawTerm} (a : Bool) → IsPolymorphic sig f (test_name e) → Decides sig N a u v → IsTruth sig (agree e a) r → Shape sig N f (cons u (cons v nil)) (test e) r
  of_choice : {c u v : RawTerm} (b : Bool) → IsPolymorphic sig f (codes "if_then_else_fi") → IsTruth sig b c → Shape sig N f (cons c (cons u (cons v nil))) choice (cond b u v)

-- what a row begins with
pub record HasShape (sig : Signature) (N : RawTerm → Type 0) (v x : RawTerm) : Type 0 where
  pub operator : ℕ
  pub args : RawTerms
  pub kind : Kind
  pub is : v ≡ apply operator args
  pub shape : Shape sig N operator args kind x

shaped : {sig : Signature} {N : RawTerm → Type 0} {f : ℕ} {ts : RawTerms} {k : Kind} {x : RawTerm} → Shape sig N f ts k x → HasShape sig N (apply f ts) x
shaped {f = f} {ts = ts} {k = k} s = record { operator = f; args = ts; kind = k; is = refl; shape = s }

module _ {sig : Signature} {N : RawTerm → Type 0} where
  pub shape_of : {v x : RawTerm} → Row sig N v x → HasShape sig N v x
  shape_of (arithmetic b p d) = shaped (of_numbers p d)
  shape_of (equal_terms p q t) = shaped (of_test {e = true} true p q t)
  shape_of (unequal_terms p n m q t) = shaped (of_test {e = true} false p (n, m, q) t)
  shape_of (not_different p q t) = shaped (of_test {e = false} true p q t)
  shape_of (different p n m q t) = shaped (of_test {e = false} false p (n, m, q) t)
  shape_of (if_true p t) = shaped (of_choice true p t)
  shape_of (if_false p t) = shaped (of_choice false p t)

  spelled_so : {f : ℕ} {ts : RawTerms} {k : Kind} {x : RawTerm} → Shape sig N f ts k x → (o : Operator) × IsOperator sig f o × (o.spelling ≡ spelled k)
  spelled_so (of_numbers p d) = (p.1.operator, p.1.is_there, p.1.spelled)
  spelled_so (of_test a (o, there, s, b) d t) = (o, there, s)
  spelled_so (of_choice b (o, there, s, i) t) = (o, there, s)

-- an operator is of one kind
pub one_kind : {sig : Signature} {N L : RawTerm → Type 0} {f : ℕ} {ts us : RawTerms} {k j : Kind} {x y : RawTerm} → Shape sig N f ts k x → Shape sig L f us j y → k ≡ j
one_kind {sig} {f = f} {k = k} {j = j} s r =
    let (o, a, e) = spelled_so s in
    let (p, b, g) = spelled_so r in
    sym (kind_spelled k) ∙ ap kind_of (sym e ∙ ap (λ (o : Operator). o.spelling) (same_operator sig f o p a b) ∙ g) ∙ kind_spelled j

pub test_kind : {sig : Signature} {N : RawTerm → Type 0} {f : ℕ} {ts : RawTerms} {k : Kind} {x : RawTerm} (t : Bool) → IsPolymorphic sig f (test_name t) → Shape sig N f ts k x → k ≡ test t
test_kind {sig} {f = f} {k = k} t (p, b, g, i) s =
    let (o, a, e) = spelled_so s in
    sym (kind_spelled k) ∙ ap kind_of (sym e ∙ ap (λ (o : Operator). o.spelling) (same_operator sig f o p a b) ∙ g) ∙ kind_spelled (test t)
