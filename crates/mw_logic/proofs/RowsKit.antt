-- What the worked rows share: operators with one declaration, and proofs of one step.
use Rattle.std.specs.Prelude.{◌≡◌, ℕ, List, [], ◌∷◌, Bool, true, false, ◌||◌, cond, is_some, Option, Some, None, refl}
use Rattle.std.proofs.Common.{inl, inr, ap, subst, sym}
use Rattle.mw_logic.specs.Term.{RawTerm, Variable, apply, RawTerms}
use Rattle.mw_logic.specs.Signature.{Signature, Sorted, sort, Declaration, Operator, IsOperator, Identity, Member}
use Rattle.mw_logic.specs.Axioms.{done}
use Rattle.mw_logic.specs.Sorts.{same, IsBelow, AreBelow, Takes, Declares, DeclaredSort, of_operator, DeclaredSorts, HasSort}
use Rattle.mw_logic.specs.Substitution.{is_bound, same_variable}
use Rattle.mw_logic.specs.Module.{Statement, Fragment}

abbrev pub kinds : List Sorted → List ℕ
kinds [] = []
kinds (S ∷ Ss) = 1 ∷ kinds Ss

-- an operator of kind 1 with one declaration and no attribute
abbrev pub an_operator : List ℕ → List Sorted → Sorted → Operator
an_operator name sorts result = record {
  spelling = name;
  args = kinds sorts;
  result = 1;
  declarations = record { args = sorts; result = result } ∷ [];
  assoc = false;
  comm = false;
  identity = None;
  prec = 0;
  gather = [];
  config = false;
  frozen = [];
  built = false;
}

-- the same with `assoc`, `comm` and `id:`
abbrev pub with_axioms : Bool → Option Identity → Operator → Operator
with_axioms c e o = record o { assoc = true; comm = c; identity = e }

-- with frozen arguments
abbrev pub with_frozen : List ℕ → Operator → Operator
with_frozen numbers o = record o { frozen = numbers }

abbrev pub a_variable : List ℕ → ℕ → Variable
a_variable name S = record { name = name; sort = S }

abbrev pub an_equation : RawTerm → RawTerm → List Fragment → List Variable → Statement
an_equation l r fragments variables = record { left = l; right = r; fragments = fragments; variables = variables; rule = false; executable = true; owise = false }

abbrev pub a_rule : RawTerm → RawTerm → List Variable → Statement
a_rule l r variables = record { left = l; right = r; fragments = []; variables = variables; rule = true; executable = true; owise = false }

-- one declaration gives one result
pub one_result : {sig : Signature} (o : Operator) (sorts : List Sorted) (R : Sorted) (Ss : List Sorted) (Q : Sorted) →
    o.declarations ≡ record { args = sorts; result = R } ∷ [] → Takes sig o Ss Q → R ≡ Q
one_result o sorts R Ss Q e t = of_declared t.declares
  where
    of_member : (Ts : List Sorted) → Member (record { args = Ts; result = Q }) o.declarations → R ≡ Q
    of_member Ts m = elim (subst (λ ds. Member (record { args = Ts; result = Q }) ds) e m) [ inl k ↦ ap (λ (d : Declaration). d.result) k | inr h ↦ absurd h ]

    of_declared : Declares o t.args Q → R ≡ Q
    of_declared (inl m) = of_member t.args m
    of_declared (inr h) = of_member _ h.1

-- an operator with one declaration, on arguments of sorts that it takes, has its result as declared sort
pub declared_sort : {sig : Signature} {f S : ℕ} {ts : RawTerms} {sorts Ss : List Sorted} (o : Operator) → IsOperator sig f o → o.declarations ≡ record { args = sorts; result = sort S } ∷ [] →
    DeclaredSorts sig ts Ss → AreBelow sig Ss sorts → DeclaredSort sig (apply f ts) (sort S)
declared_sort {sig} {f} {S} {ts} {sorts} {Ss} o e d of_args fits =
    of_operator o e of_args (record { args = sorts; declares = inl (subst (λ ds. Member (record { args = sorts; result = sort S }) ds) (sym d) (inl refl)); fits = fits })
    (λ Q t. subst (λ q. IsBelow sig (sort S) q) (one_result o sorts (sort S) Ss Q d t) same)

-- a term has its declared sort
pub has_declared : {sig : Signature} {t : RawTerm} {S : ℕ} → DeclaredSort sig t (sort S) → HasSort sig t (sort S)
has_declared {t = t} {S} d = record { form = t; equal = done; declared = sort S; is_declared = d; below = same }

-- a substitution of one variable binds that one
pub one_bound : (y : Variable) (t : RawTerm) (x : Variable) → is_bound ((y, t) ∷ []) x ≡ (same_variable y x || false)
one_bound y t x = by_test (same_variable y x)
  where
    by_test : (b : Bool) → is_some (cond b (Some t) None) ≡ (b || false)
    by_test true = refl
    by_test false = refl
