-- No two terms stand for one, where operators are told by their names and kinds.
use Rattle.std.proofs.Common.{◌≡◌, ℕ, List, [], ◌∷◌, sym, subst, ap, ◌∙◌, refl}
use Rattle.mw_logic.specs.Term.{Variable, RawTerm, variable, apply, RawTerms, cons}
use Rattle.mw_logic.specs.Signature.{Signature, Sorted, sort, kind, Operator, SameKind}
use Rattle.mw_logic.specs.Accepted.{IsAccepted}
use Rattle.mw_logic.specs.Module.{Fragment, equal, matches, has_sort, is_true}
use Rattle.mw_logic.proofs.KindLaws.{SameKind-trans, SameKind-sym, SameKind-equal}
use Rattle.mw_carry.specs.Carried.{IsSameKind, AreSameKinds, IsSameOperator, IsCarried, AreCarried, a_numeral, a_quoted, a_variable, an_operator, end, next, IsSameSorted, a_sort, a_kind, IsCarriedFragment, an_equation, a_match, a_test, a_truth, AreCarriedFragments, none, more}
use Rattle.mw_carry.specs.Laws.{AreAlike, OperatorsApart}
use Rattle.mw_carry.proofs.Kept.{one_operator, one_sort}

module _ (sig to : Signature) (ok : IsAccepted to) where
  -- kinds that stand for one kind are one
  one_kind : (K L M : ℕ) → IsSameKind sig to K L → IsSameKind sig to K M → SameKind to L M
  one_kind K L M a b =
      SameKind-trans (SameKind-sym a.kind) (SameKind-trans (SameKind-equal (one_sort sig to ok K a.sort b.sort a.same b.same)) b.kind)

  all_one_kind : (Ks Ls Ms : List ℕ) → AreSameKinds sig to Ks Ls → AreSameKinds sig to Ks Ms → AreAlike to Ls Ms
  all_one_kind [] [] [] a b = tt
  all_one_kind [] [] (M ∷ Ms) a b = absurd b
  all_one_kind [] (L ∷ Ls) Ms a b = absurd a
  all_one_kind (K ∷ Ks) [] Ms a b = absurd a
  all_one_kind (K ∷ Ks) (L ∷ Ls) [] a b = absurd b
  all_one_kind (K ∷ Ks) (L ∷ Ls) (M ∷ Ms) a b = (one_kind K L M a.0 b.0, all_one_kind Ks Ls Ms a.1 b.1)

  -- a sort or a kind that is tested stands for one
  sorted_one : {S T U : Sorted} → IsSameSorted sig to S T → IsSameSorted sig to S U → T ≡ U
  sorted_one (a_sort S T a) (a_sort _ U b) = ap sort (one_sort sig to ok S T U a b)
  sorted_one (a_kind S T a) (a_kind _ U b) = ap kind (one_sort sig to ok S T U a b)

  module _ (apart : OperatorsApart to) where
    operators_one : (f g h : ℕ) → IsSameOperator sig to f g → IsSameOperator sig to f h → g ≡ h
    operators_one f g h a b =
        let here : a.here ≡ b.here = one_operator sig f a.here b.here a.is_here b.is_here in
        apart g h a.there b.there a.is_there b.is_there
        (sym a.spelling ∙ ap (λ (o : Operator). o.spelling) here ∙ b.spelling)
        (all_one_kind a.here.args a.there.args b.there.args a.args (subst (λ (o : Operator). AreSameKinds sig to o.args b.there.args) (sym here) b.args))
        (one_kind a.here.result a.there.result b.there.result a.result (subst (λ (o : Operator). IsSameKind sig to o.result b.there.result) (sym here) b.result))

    mutual
      pub carried_one : {t u v : RawTerm} → IsCarried sig to t u → IsCarried sig to t v → u ≡ v
      carried_one (a_numeral n) (a_numeral _) = refl
      carried_one (a_quoted q) (a_quoted _) = refl
      carried_one (a_variable x y n s) (a_variable _ z m r) = ap variable (one_variable y z (sym n ∙ m) (one_sort sig to ok x.sort y.sort z.sort s r))
        where
          one_variable : (y z : Variable) → y.name ≡ z.name → y.sort ≡ z.sort → y ≡ z
          one_variable y z e d = λ i. record { name = e i; sort = d i }
      carried_one (an_operator f g ts us is cs) (an_operator _ h _ vs js ds) = one_applied (operators_one f g h is js) (all_carried_one cs ds)
        where
          one_applied : g ≡ h → us ≡ vs → apply g us ≡ apply h vs
          one_applied e d = cc

      all_carried_one : {ts us vs : RawTerms} → AreCarried sig to ts us → AreCarried sig to ts vs → us ≡ vs
      all_carried_one end end = refl
      all_carried_one (next t u ts us c cs) (next _ v _ vs d ds) = one_more (carried_one c d) (all_carried_one cs ds)
        where
          one_more : u ≡ v → us ≡ vs → cons u us ≡ cons v vs
          one_more e d = cc

    fragment_one : {f g h : Fragment} → IsCarriedFragment sig to f g → IsCarriedFragment sig to f h → g ≡ h
    fragment_one (an_equation u v w z a b) (an_equation _ _ x y c d) = ap (λ t. equal t z) (carried_one a c) ∙ ap (equal x) (carried_one b d)
    fragment_one (a_match p t q u a b) (a_match _ _ r v c d) = ap (λ s. matches s u) (carried_one a c) ∙ ap (matches r) (carried_one b d)
    fragment_one (a_test t u S T a s) (a_test _ v _ U c r) = ap (λ x. has_sort x T) (carried_one a c) ∙ ap (has_sort v) (sorted_one s r)
    fragment_one (a_truth b c a) (a_truth _ d e) = ap is_true (carried_one a e)

    pub fragments_one : {C D E : List Fragment} → AreCarriedFragments sig to C D → AreCarriedFragments sig to C E → D ≡ E
    fragments_one none none = refl
    fragments_one (more a b cs ds f fs) (more _ c _ es g gs) = ap (λ x. x ∷ ds) (fragment_one f g) ∙ ap (λ xs. c ∷ xs) (fragments_one fs gs)
