-- What holds of carried terms.
use Rattle.std.specs.Prelude.{ℕ, ◌≡◌, List, [], ◌∷◌, IsTrue, ⊤}
use Rattle.mw_logic.specs.Term.{Variable, RawTerm}
use Rattle.mw_logic.specs.Signature.{Signature, Operator, IsOperator, IsRawTerm, HasKind, SameKind}
use Rattle.mw_logic.specs.Accepted.{IsAccepted}
use Rattle.mw_logic.specs.Preregular.{HasItsSorts, IsSortOf}
use Rattle.mw_logic.specs.Substitution.{occurs}
use Rattle.mw_carry.specs.Carried.{IsSameKind, IsCarried, IsPart}

-- the sorts of its variables are there
abbrev pub HasSortsOf : Signature → RawTerm → Type 0
HasSortsOf sig t = (x : Variable) → IsTrue (occurs x t) → IsSortOf sig x.sort

-- A raw term is carried to a raw term, of the same kind, and the sorts of its variables are there.
pub record CarriedTermsStay : Type 0 where
  pub raw : (sig to : Signature) (t u : RawTerm) → IsPart sig to → HasItsSorts sig → IsAccepted to → IsCarried sig to t u → IsRawTerm sig t → IsRawTerm to u
  pub kinds : (sig to : Signature) (t u : RawTerm) (K L : ℕ) → IsPart sig to → HasItsSorts sig → IsAccepted to → IsCarried sig to t u → HasKind sig t K
      → IsSameKind sig to K L → HasKind to u L
  pub sorts : (sig to : Signature) (t u : RawTerm) → IsCarried sig to t u → HasSortsOf to u

-- each kind of the one is one of the other, one by one
abbrev pub AreAlike : Signature → List ℕ → List ℕ → Type 0
AreAlike sig [] [] = ⊤
AreAlike sig [] (L ∷ Ls) = ⊥
AreAlike sig (K ∷ Ks) [] = ⊥
AreAlike sig (K ∷ Ks) (L ∷ Ls) = SameKind sig K L × AreAlike sig Ks Ls

-- no two operators have one name, arguments of the same kinds and values of one kind
abbrev pub OperatorsApart : Signature → Type 0
OperatorsApart sig = (f g : ℕ) (o p : Operator) → IsOperator sig f o → IsOperator sig g p → o.spelling ≡ p.spelling → AreAlike sig o.args p.args
    → SameKind sig o.result p.result → f ≡ g

-- No two terms stand for one.
abbrev pub CarriedOnce : Type 0
CarriedOnce = (sig to : Signature) (t u v : RawTerm) → IsAccepted to → OperatorsApart to → IsCarried sig to t u → IsCarried sig to t v → u ≡ v
