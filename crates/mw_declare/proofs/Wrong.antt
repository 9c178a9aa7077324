-- Operators tested one after another for what is wrong with them.
use Rattle.std.proofs.Common.{◌≡◌, ◌∙◌, ℕ, List, [], ◌∷◌, ◌++◌, map, Option, Some, None, All, refl, sym, ap, subst, append_assoc}
use Rattle.std.specs.Option.{option_or}
use Rattle.std.proofs.lemmas.List.{append-nil}
use Rattle.std.proofs.lemmas.List.Elements.{All-head, All-tail}
use Rattle.mw_logic.specs.Signature.{Identity}
use Rattle.mw_module.specs.declared.faults.Fault.{Fault}
use Rattle.mw_module.specs.declared.faults.FaultKind.{FaultKind}
use Rattle.mw_declare.specs.Hierarchy.{Hierarchy}
use Rattle.mw_declare.specs.Operators.{Declared, identity_in, IsOfLeastKinds, IsNumbered, signature_with}
use Rattle.mw_declare.specs.declared.built.Built.{Built}
use Rattle.mw_declare.specs.Faults.{wrong_with, wrong_among, operator_fault, told_at}

-- o, one of these operators, is at fault so, or with nothing
abbrev pub IsWrongWith : Built → List Declared → Declared → Option FaultKind → Type 0
IsWrongWith b all o kind = (h : Hierarchy) → IsNumbered h b → IsOfLeastKinds h o → kind ≡ wrong_with (signature_with b h all) b all o

-- of these operators nothing is wrong with those before the rest, and these are their identities
pub record IsLeft (b : Built) (all rest : List Declared) (found : List (Option Identity)) : Type 0 where
  pub kinds : (h : Hierarchy) → All (IsOfLeastKinds h) all → All (IsOfLeastKinds h) rest
  pub fine : (h : Hierarchy) → IsNumbered h b → All (IsOfLeastKinds h) all → wrong_among (signature_with b h all) b all rest ≡ operator_fault b h all
  pub same : found ++ map (identity_in b all) rest ≡ map (identity_in b all) all

pub all_left : (b : Built) (all rest : List Declared) (found : List (Option Identity)) → rest ≡ all → found ≡ [] → IsLeft b all rest found
all_left b all rest found e f =
    subst (λ r. IsLeft b all r found) (sym e) (subst (IsLeft b all all) (sym f) (record { kinds = λ h k. k; fine = λ h n k. refl; same = refl }))

module _ (b : Built) (all rest behind : List Declared) (o : Declared) (is : rest ≡ o ∷ behind) (found : List (Option Identity)) (left : IsLeft b all rest found) where
  this_kinds : (h : Hierarchy) → All (IsOfLeastKinds h) all → All (IsOfLeastKinds h) (o ∷ behind)
  this_kinds h k = subst (All (IsOfLeastKinds h)) is (left.kinds h k)

  this_fault : (h : Hierarchy) → IsNumbered h b → All (IsOfLeastKinds h) all → (kind : Option FaultKind) → IsWrongWith b all o kind → option_or kind (wrong_among (signature_with b h all) b all behind) ≡ operator_fault b h all
  this_fault h n k kind wrong =
      ap (λ x. option_or x (wrong_among (signature_with b h all) b all behind)) (wrong h n (All-head (IsOfLeastKinds h) o behind (this_kinds h k)))
      ∙ ap (wrong_among (signature_with b h all) b all) (sym is) ∙ left.fine h n k

  pub one_passed : (identity : Option Identity) → identity ≡ identity_in b all o → IsWrongWith b all o None → (more : List (Option Identity)) → more ≡ found ++ identity ∷ [] → IsLeft b all behind more
  one_passed identity e wrong more m = record {
    kinds = λ h k. All-tail (IsOfLeastKinds h) o behind (this_kinds h k);
    fine = λ h n k. this_fault h n k None wrong;
    same = ap (λ xs. xs ++ map (identity_in b all) behind) m ∙ append_assoc found (identity ∷ []) (map (identity_in b all) behind)
        ∙ ap (λ i. found ++ i ∷ map (identity_in b all) behind) e ∙ ap (λ r. found ++ map (identity_in b all) r) (sym is) ∙ left.same;
  }

  pub one_wrong : (kind : FaultKind) → IsWrongWith b all o (Some kind) → (line : ℕ) (h : Hierarchy) → IsNumbered h b → All (IsOfLeastKinds h) all
      → let fault : Fault = record { line = line; kind = kind } in told_at line (operator_fault b h all) ≡ Some fault
  one_wrong kind wrong line h n k = ap (told_at line) (sym (this_fault h n k (Some kind) wrong))

module _ (b : Built) (all : List Declared) (found : List (Option Identity)) (left : IsLeft b all [] found) where
  pub none_left : (h : Hierarchy) → IsNumbered h b → All (IsOfLeastKinds h) all → operator_fault b h all ≡ None
  none_left h n k = sym (left.fine h n k)

  pub all_found : found ≡ map (identity_in b all) all
  all_found = sym (append-nil found) ∙ left.same
