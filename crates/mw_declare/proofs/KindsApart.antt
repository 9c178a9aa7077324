-- Operators that a module declares differ in their names or in their kinds.
use Rattle.std.proofs.Common.{◌≡◌, ◌∙◌, ℕ, zero, suc, List, [], ◌∷◌, None, All, refl, ap, subst}
use Rattle.std.proofs.lemmas.List.Elements.{All-head, All-tail}
use Rattle.mw_logic.specs.Signature.{Operator, IsOperator, SameKind}
use Rattle.mw_carry.specs.Laws.{AreAlike}
use Rattle.mw_module.specs.Units.{SeenLined}
use Rattle.mw_declare.specs.Meaning.{sorts_of}
use Rattle.mw_declare.specs.declared.built.Reached.{Reached}
use Rattle.mw_declare.specs.Built.{built_in}
use Rattle.mw_declare.specs.Hierarchy.{hierarchy_of, IsLeastKind}
use Rattle.mw_declare.specs.Operators.{operators_of, signature_of}
use Rattle.mw_declare.specs.Declarations.{unknown_in_all}
use Rattle.mw_declare.specs.Laws.{DeclaredApart}
use Rattle.mw_declare.proofs.Apart.{declared_at, operators_apart}
use Rattle.mw_declare.proofs.Axioms.{one_least}
use Rattle.mw_declare.proofs.Pairs.{pairs_there}
use Rattle.mw_declare.proofs.Proper.{all_at}
use Rattle.mw_declare.proofs.Ranked.{IsRankedOperator, ranked_operators}

module _ (r : Reached) (ss : List SeenLined) (known : unknown_in_all ss ≡ None) where
  abbrev IsLeast : ℕ → Type 0
  IsLeast = IsLeastKind (hierarchy_of ss)

  one_kind : (K L : ℕ) → IsLeast K → IsLeast L → SameKind (signature_of r ss) K L → K ≡ L
  one_kind = one_least (hierarchy_of ss) (pairs_there (sorts_of ss) ss known) (signature_of r ss) refl

  -- kinds that are connected one by one are the same, each being named by its least sort
  alike_same : (Ks Ls : List ℕ) → All IsLeast Ks → All IsLeast Ls → AreAlike (signature_of r ss) Ks Ls → Ks ≡ Ls
  alike_same [] [] a b e = refl
  alike_same [] (L ∷ Ls) a b e = absurd e
  alike_same (K ∷ Ks) [] a b e = absurd e
  alike_same (K ∷ Ks) (L ∷ Ls) a b e =
      let first = one_kind K L (All-head IsLeast K Ks a) (All-head IsLeast L Ls b) e.0 in
      let others = alike_same Ks Ls (All-tail IsLeast K Ks a) (All-tail IsLeast L Ls b) e.1 in
      ap (λ k. k ∷ Ks) first ∙ ap (λ ks. L ∷ ks) others

  -- the kinds of an operator are named by their least sorts
  record HasLeastKinds (o : Operator) : Type 0 where
    args : All IsLeast o.args
    result : IsLeast o.result

  has_least : (f : ℕ) (o : Operator) → IsOperator (signature_of r ss) f o → HasLeastKinds o
  has_least zero o e = cc
  has_least (suc i) o e =
      let (d, at, is) = declared_at (built_in r (hierarchy_of ss) ss) (operators_of ss) (operators_of ss) i o e in
      let ranked = all_at (IsRankedOperator (signature_of r ss)) (operators_of ss) (ranked_operators r ss known) (suc i) d at in
      subst HasLeastKinds is (record { args = ranked.args; result = ranked.result })

pub declared_apart : DeclaredApart
declared_apart r ss known f g o p e k spelled args result =
    let a = has_least r ss known f o e in
    let b = has_least r ss known g p k in
    operators_apart r ss f g o p e k spelled (alike_same r ss known o.args p.args a.args b.args args) (one_kind r ss known o.result p.result a.result b.result result)
