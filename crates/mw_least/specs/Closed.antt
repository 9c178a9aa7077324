-- Sorts that ground terms have since they are made of operators that give the sort on arguments of it.
use Rattle.std.specs.Prelude.{ℕ, ◌≡◌, ◌≤◌, List, [], ◌∷◌, ⊤, IsTrue, codes}
use Rattle.mw_logic.specs.Signature.{Signature, Sorted, sort, kind, Operator, IsOperator, IsSortNamed, SameKind, IsRawTerm, Member}
use Rattle.mw_logic.specs.Sorts.{AtOrBelow, HasSort}
use Rattle.mw_logic.specs.Term.{RawTerm, RawTerms, is_ground}
use Rattle.mw_logic.specs.Parts.{nested}
use Rattle.mw_logic.specs.NormalForm.{normal_form}
use Rattle.mw_least.specs.declared.closed.Closed.{Closed}
use Rattle.mw_least.specs.declared.closed.Home.{Home}
use Rattle.mw_least.specs.declared.sure.Partial.{Partial}
use Rattle.mw_least.specs.Sure.{IsNone, AreAllApart}

-- a sort at or above S
abbrev pub IsAbove : List (ℕ × ℕ) → ℕ → Sorted → Type 0
IsAbove pairs S (sort T) = AtOrBelow pairs S T
IsAbove pairs S (kind K) = ⊥

-- each of them is
abbrev pub AreAbove : List (ℕ × ℕ) → ℕ → List Sorted → Type 0
AreAbove pairs S [] = ⊤
AreAbove pairs S (T ∷ Ts) = IsAbove pairs S T × AreAbove pairs S Ts

-- a declaration of o takes arguments of sort S to R
pub record TakesTo (pairs : List (ℕ × ℕ)) (o : Operator) (S R : ℕ) : Type 0 where
  pub args : List Sorted
  pub declared : Member (record { args = args; result = sort R }) o.declarations
  pub are_above : AreAbove pairs S args

-- o gives S on arguments of sort S
abbrev pub IsClosedFor : List (ℕ × ℕ) → Operator → ℕ → Type 0
IsClosedFor pairs o S = (R : ℕ) × TakesTo pairs o S R × AtOrBelow pairs R S

-- the sorts of this name are at or below S, if they are of its kind
abbrev pub AreWithin : Signature → ℕ → List ℕ → Type 0
AreWithin sig S name = (T : ℕ) → IsSortNamed sig T name → SameKind sig T S → AtOrBelow sig.pairs T S

-- numerals and quoted identifiers, if they are of S's kind, have S
pub record AreConstantsWithin (sig : Signature) (S : ℕ) : Type 0 where
  pub numerals : IsTrue sig.nat → AreWithin sig S (codes "Nat")
  pub quotes : IsTrue sig.qid → AreWithin sig S (codes "Qid")

-- so does each operator of S's kind that isn't outside, on arguments that have S
abbrev pub AreClosedFor : Signature → ℕ → Partial → Type 0
AreClosedFor sig S outside = (f : ℕ) (o : Operator) → IsOperator sig f o → SameKind sig o.result S → IsNone outside f → IsClosedFor sig.pairs o S

-- Ground terms of the sort's kind in which no operator stands that is outside have the sort.
pub record IsClosed (sig : Signature) (c : Closed) : Type 0 where
  pub constants : AreConstantsWithin sig c.sort
  pub operators : AreClosedFor sig c.sort c.outside

-- Where the operator takes arguments of a closed sort to a result, that is its home: the closed sort, and the result. A result of 0 tells nothing.
abbrev pub IsHome : Signature → Operator → Home → Type 0
IsHome sig o h = 1 ≤ h.result → IsClosed sig h.closed × TakesTo sig.pairs o h.closed.sort h.result

-- the homes of operators, one by one; there may be fewer
abbrev pub AreHomes : Signature → List Operator → List Home → Type 0
AreHomes sig os [] = ⊤
AreHomes sig [] (h ∷ hs) = ⊥
AreHomes sig (o ∷ os) (h ∷ hs) = IsHome sig o h × AreHomes sig os hs

-- the terms are made of operators that a closed sort at or below S doesn't have outside
abbrev pub AreMade : Signature → ℕ → RawTerms → Type 0
AreMade sig S ts = (c : Closed) × IsClosed sig c × AtOrBelow sig.pairs c.sort S × AreAllApart c.outside ts

-- the term, if it is canonical, raw and ground, has sort S
abbrev pub Has : Signature → ℕ → RawTerm → Type 0
Has sig S t = normal_form sig (nested sig t) ≡ t → IsRawTerm sig (nested sig t) → IsTrue (is_ground t) → HasSort sig (nested sig t) (sort S)

-- so has each of them
abbrev pub EachHas : Signature → ℕ → List RawTerm → Type 0
EachHas sig S [] = ⊤
EachHas sig S (t ∷ ts) = Has sig S t × EachHas sig S ts
