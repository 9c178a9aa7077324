-- The sorts and kinds of the operators that a module declares are there.
use Rattle.std.proofs.Common.{◌≡◌, ℕ, List, [], ◌∷◌, map, None, All}
use Rattle.std.proofs.lemmas.List.Elements.{All-nil, All-cons, All-head, All-tail}
use Rattle.mw_logic.specs.Signature.{Signature, Operator, Declaration}
use Rattle.mw_logic.specs.Preregular.{IsSortOf, IsDeclarationOf}
use Rattle.mw_module.specs.Units.{SeenLined}
use Rattle.mw_declare.specs.declared.built.Reached.{Reached}
use Rattle.mw_declare.specs.declared.built.Built.{Built}
use Rattle.mw_declare.specs.Built.{built_in}
use Rattle.mw_declare.specs.Hierarchy.{hierarchy_of, IsLeastKind}
use Rattle.mw_declare.specs.Operators.{Declared, operators_of, operator_of, signature_of}
use Rattle.mw_declare.specs.Declarations.{unknown_in_all}
use Rattle.mw_declare.proofs.Ranked.{IsRanked, IsRankedOperator, sorts_held, least_there, ranked_operators}

-- an operator whose kinds are there, and so the sorts of its declarations, in its kinds
pub record HasItsSortsIn (sig : Signature) (o : Operator) : Type 0 where
  pub args : All (IsSortOf sig) o.args
  pub result : IsSortOf sig o.result
  pub declarations : All (IsDeclarationOf sig o) o.declarations

module _ (sig : Signature) where
  are_there : (Ks : List ℕ) → All (IsLeastKind (sorts_held sig)) Ks → All (IsSortOf sig) Ks
  are_there [] all = All-nil (IsSortOf sig)
  are_there (K ∷ Ks) all =
      All-cons (IsSortOf sig) K Ks (least_there sig K (All-head (IsLeastKind (sorts_held sig)) K Ks all)) (are_there Ks (All-tail (IsLeastKind (sorts_held sig)) K Ks all))

  are_declarations : (o : Operator) (ds : List Declaration) → All (IsRanked sig o.args o.result) ds → All (IsDeclarationOf sig o) ds
  are_declarations o [] all = All-nil (IsDeclarationOf sig o)
  are_declarations o (d ∷ ds) all =
      let h = All-head (IsRanked sig o.args o.result) d ds all in
      All-cons (IsDeclarationOf sig o) d ds (record { args = h.args_of; result = h.result_of; args_there = h.args_there; result_there = h.result_there })
      (are_declarations o ds (All-tail (IsRanked sig o.args o.result) d ds all))

  module _ (b : Built) (all : List Declared) where
    all_sorted : (os : List Declared) → All (IsRankedOperator sig) os → All (HasItsSortsIn sig) (map (operator_of b all) os)
    all_sorted [] each = All-nil (HasItsSortsIn sig)
    all_sorted (o ∷ os) each =
        let h = All-head (IsRankedOperator sig) o os each in
        All-cons (HasItsSortsIn sig) (operator_of b all o) (map (operator_of b all) os)
        (record { args = are_there o.profile.args h.args; result = least_there sig o.profile.result h.result; declarations = are_declarations (operator_of b all o) o.declarations h.declarations })
        (all_sorted os (All-tail (IsRankedOperator sig) o os each))

pub operators_sorted : (r : Reached) (ss : List SeenLined) → unknown_in_all ss ≡ None → All (HasItsSortsIn (signature_of r ss)) (signature_of r ss).operators
operators_sorted r ss known = all_sorted (signature_of r ss) (built_in r (hierarchy_of ss) ss) (operators_of ss) (operators_of ss) (ranked_operators r ss known)
