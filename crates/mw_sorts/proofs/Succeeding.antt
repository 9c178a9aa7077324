-- The successor by a test of an operator, and the operators that are none.
use Rattle.std.proofs.Common.{◌≡◌, ◌∙◌, ◌<◌, ◌≤◌, ◌+◌, ℕ, zero, suc, List, [], ◌∷◌, length, get_or, refl, sym, subst, inl, inr, arith}
use Rattle.std.specs.Prelude.{codes, IsTrue, slice_get, Some}
use Rattle.mw_logic.specs.Signature.{Signature, Operator, IsOperator, IsSortNamed, IsSuccessor, SameKind}
use Rattle.mw_logic.specs.Accepted.{IsAccepted}
use Rattle.mw_logic.specs.Preregular.{IsSortOf}
use Rattle.mw_sorts.specs.Numbers.{Succeeds}
use Rattle.mw_sorts.proofs.Getting.{get-none, get-within, some_same}
use Rattle.mw_sorts.proofs.Growing.{less_or_at}

-- a list of one
pub only-one : (xs : List ℕ) (d : ℕ) → 1 ≤ length xs → length xs < 2 → xs ≡ get_or xs 0 d ∷ []
only-one [] d l h = absurd (omega (arith, l))
only-one (x ∷ []) d l h = refl
only-one (x ∷ y ∷ ys) d l h = absurd (omega (arith, h))

pub its-argument : (sig : Signature) (Nat : ℕ) (o : Operator) (K : ℕ) → o.args ≡ K ∷ [] → Succeeds sig Nat o → SameKind sig Nat K
its-argument sig Nat o K e s =
    let q = sym e ∙ s.takes_one in
    subst (SameKind sig Nat) (let k : s.argument ≡ K = cc in k) s.of_argument

pub is-successor : (sig : Signature) (f Nat : ℕ) (o : Operator) → IsTrue sig.nat → IsSortNamed sig Nat (codes "Nat") → IsOperator sig f o → Succeeds sig Nat o → IsSuccessor sig f
is-successor sig f Nat o nat named is s = record {
  operator = o;
  is_there = is;
  nat = nat;
  spelled = s.spelled;
  Nat = Nat;
  named = named;
  of_kind = s.of_kind;
  argument = s.argument;
  takes_one = s.takes_one;
  of_argument = s.of_argument;
}

-- the successor passes
pub successor-succeeds : (sig : Signature) (f Nat : ℕ) → IsAccepted sig → IsSortNamed sig Nat (codes "Nat") → (s : IsSuccessor sig f) → Succeeds sig Nat s.operator
successor-succeeds sig f Nat ok named s =
    let e : s.Nat ≡ Nat = ok.sorts_differ s.Nat Nat (codes "Nat") s.named named in
    record {
      spelled = s.spelled;
      of_kind = subst (λ N. SameKind sig N s.operator.result) e s.of_kind;
      argument = s.argument;
      takes_one = s.takes_one;
      of_argument = subst (λ N. SameKind sig N s.argument) e s.of_argument;
    }

-- a sort with a name is there
pub named-there : (sig : Signature) (S : ℕ) (name : List ℕ) → IsSortNamed sig S name → IsSortOf sig S
named-there sig zero name e = absurd (get-none e)
named-there sig (suc i) name e = let l = get-within sig.sorts i name e in (omega arith, omega (arith, l))

-- one operator more is none
pub none-more : (sig : Signature) (Nat n : ℕ) (o : Operator) → IsAccepted sig → IsSortNamed sig Nat (codes "Nat") → slice_get sig.operators n ≡ Some o → (Succeeds sig Nat o → ⊥)
    → ((f : ℕ) → f ≤ n → IsSuccessor sig f → ⊥) → (f : ℕ) → f ≤ n + 1 → IsSuccessor sig f → ⊥
none-more sig Nat n o ok named is not h zero l s = h zero (omega arith) s
none-more sig Nat n o ok named is not h (suc f) l s = elim (less_or_at f n (omega (arith, l))) [
  | inl low ↦ h (suc f) (omega (arith, low)) s
  | inr at ↦
      let same : s.operator ≡ o = some_same (sym (subst (λ k. slice_get sig.operators k ≡ Some s.operator) at s.is_there) ∙ is) in
      not (subst (Succeeds sig Nat) same (successor-succeeds sig (suc f) Nat ok named s))
]

pub none-all : (sig : Signature) (n : ℕ) → length sig.operators ≤ n → ((f : ℕ) → f ≤ n → IsSuccessor sig f → ⊥) → (f : ℕ) → IsSuccessor sig f → ⊥
none-all sig n l h zero s = get-none s.is_there
none-all sig n l h (suc f) s = let w = get-within sig.operators f s.operator s.is_there in h (suc f) (omega (arith, w, l)) s
