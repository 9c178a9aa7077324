-- Operators on the kinds of sorts: what is looked up by kinds, and what is told by the names of sorts.
use Rattle.std.proofs.Common.{◌≡◌, ◌∙◌, ◌≤◌, ℕ, List, [], ◌∷◌, length, Option, Some, None, inl, inr, refl, sym, ap, subst}
use Rattle.mw_logic.specs.Signature.{Signature, IsSortNamed, Member}
use Rattle.mw_logic.specs.Accepted.{IsAccepted}
use Rattle.mw_logic.specs.Preregular.{IsSortOf}
use Rattle.mw_logic.proofs.KindLaws.{SameKind-trans, SameKind-sym}
use Rattle.mw_poset.specs.Order.{IsKindOf}
use Rattle.mw_poset.proofs.Reading.{kinds_agree}
use Rattle.mw_sorts.proofs.Connected.{kind-with}
use Rattle.mw_carry.specs.Laws.{AreAlike, OperatorsApart}
use Rattle.mw_carry.specs.Profiles.{Pairwise, Profile, IsProfiled}
use Rattle.mw_carry.specs.Tables.{IsFound}
use Rattle.mw_carry.proofs.Numbers.{within_at}
use Rattle.mw_build.specs.Classes.{AreNamed, IsOperatorAt, IsOperatorOn}
use Rattle.mw_build.specs.Configurations.{Finds}

module _ (sig : Signature) where
  -- sorts of the same kinds, one by one
  same_kinds : (Ss Ls Ks : List ℕ) → Pairwise (IsKindOf sig.pairs) Ss Ks → Pairwise (IsKindOf sig.pairs) Ls Ks → AreAlike sig Ss Ls
  same_kinds [] [] Ks a b = tt
  same_kinds [] (L ∷ Ls) [] a b = absurd b
  same_kinds [] (L ∷ Ls) (K ∷ Ks) a b = absurd a
  same_kinds (S ∷ Ss) Ls [] a b = absurd a
  same_kinds (S ∷ Ss) [] (K ∷ Ks) a b = absurd b
  same_kinds (S ∷ Ss) (L ∷ Ls) (K ∷ Ks) a b = (kinds_agree sig.pairs S L K a.0 b.0 sig refl, same_kinds Ss Ls Ks a.1 b.1)

  kinds_alike : (Ss Ls Ks : List ℕ) → Pairwise (IsKindOf sig.pairs) Ss Ks → AreAlike sig Ss Ls → Pairwise (IsKindOf sig.pairs) Ls Ks
  kinds_alike [] [] Ks a b = a
  kinds_alike [] (L ∷ Ls) Ks a b = absurd b
  kinds_alike (S ∷ Ss) [] Ks a b = absurd b
  kinds_alike (S ∷ Ss) (L ∷ Ls) [] a b = absurd a
  kinds_alike (S ∷ Ss) (L ∷ Ls) (K ∷ Ks) a b = (kind-with sig S L K (SameKind-sym b.0) a.0, kinds_alike Ss Ls Ks a.1 b.1)

  -- an operator that is looked for by the kinds of sorts
  pub profile_found : (p : Profile) (Ss : List ℕ) (S : ℕ) → Pairwise (IsKindOf sig.pairs) Ss p.args → IsKindOf sig.pairs S p.result
      → (found : Option ℕ) → IsFound (length sig.operators) (IsProfiled sig p) found → Finds (IsOperatorAt sig p.spelling Ss S) found
  profile_found p Ss S all one (Some f) is = record {
    operator = is.operator;
    is_there = is.is_there;
    spelled = is.profile.spelling;
    takes = same_kinds Ss is.operator.args p.args all is.profile.args;
    gives = kinds_agree sig.pairs S is.operator.result p.result one is.profile.result sig refl;
  }
  profile_found p Ss S all one None none = λ f is. none f (within_at sig.operators f is.operator is.is_there).1 (record {
    operator = is.operator;
    is_there = is.is_there;
    profile = record {
      spelling = is.spelled;
      args = kinds_alike Ss is.operator.args p.args all is.takes;
      result = kind-with sig S is.operator.result p.result (SameKind-sym is.gives) one;
    };
  })

  -- what is found is the number of an operator
  pub found_within : (spelling : List ℕ) (Ss : List ℕ) (S : ℕ) (o : Option ℕ) (f : ℕ) → o ≡ Some f → Finds (IsOperatorAt sig spelling Ss S) o → f ≤ length sig.operators
  found_within spelling Ss S o f k is =
      let at : IsOperatorAt sig spelling Ss S f = subst (Finds (IsOperatorAt sig spelling Ss S)) k is in (within_at sig.operators f at.operator at.is_there).1

  -- sorts of these names are there
  pub named_there : (Ss : List ℕ) (names : List (List ℕ)) → AreNamed sig Ss names → (S : ℕ) → Member S Ss → IsSortOf sig S
  named_there [] names n S m = absurd m
  named_there (T ∷ Ts) [] n S m = absurd n
  named_there (T ∷ Ts) (name ∷ names) n S (inl e) = subst (IsSortOf sig) e (within_at sig.sorts T name n.0)
  named_there (T ∷ Ts) (name ∷ names) n S (inr m) = named_there Ts names n.1 S m

  alike_sym : (Ks Ls : List ℕ) → AreAlike sig Ks Ls → AreAlike sig Ls Ks
  alike_sym [] [] a = tt
  alike_sym [] (L ∷ Ls) a = absurd a
  alike_sym (K ∷ Ks) [] a = absurd a
  alike_sym (K ∷ Ks) (L ∷ Ls) a = (SameKind-sym a.0, alike_sym Ks Ls a.1)

  alike_trans : (Ks Ls Ms : List ℕ) → AreAlike sig Ks Ls → AreAlike sig Ls Ms → AreAlike sig Ks Ms
  alike_trans [] [] Ms a b = b
  alike_trans [] (L ∷ Ls) Ms a b = absurd a
  alike_trans (K ∷ Ks) [] Ms a b = absurd a
  alike_trans (K ∷ Ks) (L ∷ Ls) [] a b = absurd b
  alike_trans (K ∷ Ks) (L ∷ Ls) (M ∷ Ms) a b = (SameKind-trans a.0 b.0, alike_trans Ks Ls Ms a.1 b.1)

  module _ (ok : IsAccepted sig) where
    -- sorts of one name are one
    same_named : (Ss Ts : List ℕ) (names : List (List ℕ)) → AreNamed sig Ss names → AreNamed sig Ts names → Ss ≡ Ts
    same_named [] [] names a b = refl
    same_named [] (T ∷ Ts) [] a b = absurd b
    same_named [] (T ∷ Ts) (name ∷ names) a b = absurd a
    same_named (S ∷ Ss) Ts [] a b = absurd a
    same_named (S ∷ Ss) [] (name ∷ names) a b = absurd b
    same_named (S ∷ Ss) (T ∷ Ts) (name ∷ names) a b = ap (λ U. U ∷ Ss) (ok.sorts_differ S T name a.0 b.0) ∙ ap (λ Us. T ∷ Us) (same_named Ss Ts names a.1 b.1)

    -- an operator that is told by names, on the kinds of the sorts that have them
    pub at_named : (spelling : List ℕ) (Ss : List ℕ) (S : ℕ) (names : List (List ℕ)) (name : List ℕ) → AreNamed sig Ss names → IsSortNamed sig S name → (f : ℕ)
        → IsOperatorOn sig spelling names name f → IsOperatorAt sig spelling Ss S f
    at_named spelling Ss S names name all one f on =
        subst (λ Ts. IsOperatorAt sig spelling Ts S f) (same_named on.sorts Ss names on.args_named all)
        (subst (λ T. IsOperatorAt sig spelling on.sorts T f) (ok.sorts_differ on.sort S name on.value_named one) on.is)

    named_found : (spelling : List ℕ) (Ss : List ℕ) (S : ℕ) (names : List (List ℕ)) (name : List ℕ) → AreNamed sig Ss names → IsSortNamed sig S name → (found : Option ℕ)
        → Finds (IsOperatorAt sig spelling Ss S) found → Finds (IsOperatorOn sig spelling names name) found
    named_found spelling Ss S names name all one (Some f) is = record { sorts = Ss; sort = S; args_named = all; value_named = one; is = is }
    named_found spelling Ss S names name all one None none = λ f on. none f (at_named spelling Ss S names name all one f on)

    -- an operator that is looked for by the kinds of the sorts of these names
    pub looked_for : (s spelling : List ℕ) → s ≡ spelling → (Ss : List ℕ) (S : ℕ) (names : List (List ℕ)) (name : List ℕ) → AreNamed sig Ss names → IsSortNamed sig S name
        → (o found : Option ℕ) → o ≡ found → Finds (IsOperatorAt sig s Ss S) o → Finds (IsOperatorOn sig spelling names name) found
    looked_for s spelling e Ss S names name all one o found k is =
        named_found spelling Ss S names name all one found (subst (λ t. Finds (IsOperatorAt sig t Ss S) found) e (subst (Finds (IsOperatorAt sig s Ss S)) k is))

    -- operators that are told by the same names are one
    pub one_operator : OperatorsApart sig → (spelling : List ℕ) (names : List (List ℕ)) (name : List ℕ) (f g : ℕ)
        → IsOperatorOn sig spelling names name f → IsOperatorOn sig spelling names name g → f ≡ g
    one_operator apart spelling names name f g p q =
        let there = at_named spelling p.sorts p.sort names name p.args_named p.value_named g q in
        apart f g p.is.operator there.operator p.is.is_there there.is_there (p.is.spelled ∙ sym there.spelled)
        (alike_trans p.is.operator.args p.sorts there.operator.args (alike_sym p.sorts p.is.operator.args p.is.takes) there.takes)
        (SameKind-trans (SameKind-sym p.is.gives) there.gives)
