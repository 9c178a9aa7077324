-- Carried terms are raw terms of the kinds that they had.
use Rattle.std.proofs.Common.{◌≡◌, ℕ, List, [], ◌∷◌, Bool, subst}
use Rattle.std.specs.Prelude.{IsTrue, ◌||◌, true, false, codes}
use Rattle.mw_logic.specs.Term.{Variable, RawTerm, RawTerms}
use Rattle.mw_logic.specs.Signature.{Signature, Operator, IsOperator, IsSortNamed, SameKind, same, up, down, Member, HasKind, of_numeral, of_quoted, of_variable, of_operator, IsRawTerm, AreRawTerms}
use Rattle.mw_logic.specs.Signature as sorted
use Rattle.mw_logic.specs.Accepted.{IsAccepted}
use Rattle.mw_logic.specs.Preregular.{HasItsSorts, IsSortOf}
use Rattle.mw_logic.specs.Substitution.{occurs, occurs_in}
use Rattle.mw_logic.proofs.KindLaws.{SameKind-trans, SameKind-sym, SameKind-equal}
use Rattle.mw_logic.proofs.SameConditions.{same_variable-is}
use Rattle.mw_carry.specs.Carried.{IsSameSort, IsSameKind, AreSameKinds, IsCarried, AreCarried, a_numeral, a_quoted, a_variable, an_operator, end, next, IsPart}
use Rattle.mw_carry.specs.Laws.{HasSortsOf}
use Rattle.mw_carry.proofs.Numbers.{there_at, within_at}

-- an operator has one record
pub one_operator : (sig : Signature) (f : ℕ) (o p : Operator) → IsOperator sig f o → IsOperator sig f p → o ≡ p
one_operator sig f o p e d = cc

module _ (sig to : Signature) where
  -- sorts of one sort's name are one
  pub one_sort : IsAccepted to → (S A B : ℕ) → IsSameSort sig to S A → IsSameSort sig to S B → A ≡ B
  one_sort ok S A B a b =
      let names : a.name ≡ b.name = one_name a.name b.name a.here b.here in
      ok.sorts_differ A B b.name (subst (λ name. IsSortNamed to A name) names a.there) b.there
    where
      one_name : (m n : List ℕ) → IsSortNamed sig S m → IsSortNamed sig S n → m ≡ n
      one_name m n e d = cc

  module _ (part : IsPart sig to) (numbers : HasItsSorts sig) where
    pub sort_carried : (S : ℕ) → IsSortOf sig S → (T : ℕ) × IsSameSort sig to S T
    sort_carried S is =
        let (name, here) = there_at sig.sorts S is.0 is.1 in
        let (T, there) = part.sorts S name here in
        (T, record { name = name; here = here; there = there })

  module _ (part : IsPart sig to) (numbers : HasItsSorts sig) (ok : IsAccepted to) where
    -- sorts of one kind are carried to sorts of one kind
    pub kinds_carried : {S U : ℕ} → SameKind sig S U → (A B : ℕ) → IsSameSort sig to S A → IsSameSort sig to U B → SameKind to A B
    kinds_carried {S} same A B a b = SameKind-equal (one_sort ok S A B a b)
    kinds_carried {S} (up {T = T} m p) A B a b =
        let (C, c) = sort_carried part numbers T (numbers.pairs S T m).1 in
        SameKind-trans (part.pairs S T A C m a c) (kinds_carried p C B c b)
    kinds_carried {S} (down {T = T} m p) A B a b =
        let (C, c) = sort_carried part numbers T (numbers.pairs T S m).0 in
        SameKind-trans (SameKind-sym (part.pairs T S C A m c a)) (kinds_carried p C B c b)

    -- what is of the kind of a sort is carried to what is of the kind that stands for it
    kind_carried : (S A K L : ℕ) → IsSameSort sig to S A → SameKind sig S K → IsSameKind sig to K L → SameKind to A L
    kind_carried S A K L a p k = SameKind-trans (kinds_carried p A k.sort a k.same) k.kind

    pub HasKind-carried : {t u : RawTerm} {K L : ℕ} → IsCarried sig to t u → HasKind sig t K → IsSameKind sig to K L → HasKind to u L
    HasKind-carried {K = K} {L = L} (a_numeral n) (of_numeral S named nat p) k =
        let (T, there) = part.sorts S _ named in
        of_numeral T there (part.nat nat) (kind_carried S T K L (record { name = codes "Nat"; here = named; there = there }) p k)
    HasKind-carried {K = K} {L = L} (a_quoted q) (of_quoted S named qid p) k =
        let (T, there) = part.sorts S _ named in
        of_quoted T there (part.qid qid) (kind_carried S T K L (record { name = codes "Qid"; here = named; there = there }) p k)
    HasKind-carried {K = K} {L = L} (a_variable x y n s) (of_variable p) k = of_variable (kind_carried x.sort y.sort K L s p k)
    HasKind-carried {K = K} {L = L} (an_operator f g ts us is args) (of_operator o e p) k =
        let p : SameKind sig is.here.result K = subst (λ (o : Operator). SameKind sig o.result K) (one_operator sig f o is.here e is.is_here) p in
        of_operator is.there is.is_there (SameKind-trans (SameKind-sym is.result.kind) (kind_carried is.here.result is.result.sort K L is.result.same p k))

    mutual
      pub IsRawTerm-carried : {t u : RawTerm} → IsCarried sig to t u → IsRawTerm sig t → IsRawTerm to u
      IsRawTerm-carried (a_numeral n) (sorted.a_numeral nat low) = sorted.a_numeral (part.nat nat) low
      IsRawTerm-carried (a_quoted q) (sorted.a_quoted qid) = sorted.a_quoted (part.qid qid)
      IsRawTerm-carried (a_variable x y n s) raw = sorted.a_variable
      IsRawTerm-carried (an_operator f g ts us is args) (sorted.an_operator o e raw) =
          let raw : AreRawTerms sig ts is.here.args = subst (λ (o : Operator). AreRawTerms sig ts o.args) (one_operator sig f o is.here e is.is_here) raw in
          sorted.an_operator is.there is.is_there (AreRawTerms-carried is.here.args is.there.args args raw is.args)

      AreRawTerms-carried : {ts us : RawTerms} (Ks Ls : List ℕ) → AreCarried sig to ts us → AreRawTerms sig ts Ks → AreSameKinds sig to Ks Ls → AreRawTerms to us Ls
      AreRawTerms-carried [] [] end sorted.end ks = sorted.end
      AreRawTerms-carried [] (L ∷ Ls) end sorted.end ks = absurd ks
      AreRawTerms-carried (K ∷ Ks) Ls end raw ks = elim raw [ ]
      AreRawTerms-carried [] Ls (next t u ts us c cs) raw ks = elim raw [ ]
      AreRawTerms-carried (K ∷ Ks) [] (next t u ts us c cs) (sorted.next r k rs) ks = absurd ks
      AreRawTerms-carried (K ∷ Ks) (L ∷ Ls) (next t u ts us c cs) (sorted.next r k rs) ks =
          sorted.next (IsRawTerm-carried c r) (HasKind-carried c k ks.0) (AreRawTerms-carried Ks Ls cs rs ks.1)

  -- the sorts of carried variables are there
  mutual
    pub sorts-carried : {t u : RawTerm} → IsCarried sig to t u → HasSortsOf to u
    sorts-carried (a_numeral n) x h = cc
    sorts-carried (a_quoted q) x h = cc
    sorts-carried (a_variable y z n s) x h = let w = within_at to.sorts z.sort s.name s.there in subst (λ (y : Variable). IsSortOf to y.sort) (same_variable-is z x h) w
    sorts-carried (an_operator f g ts us is args) x h = sorts_all-carried args x h

    sorts_all-carried : {ts us : RawTerms} → AreCarried sig to ts us → (x : Variable) → IsTrue (occurs_in x us) → IsSortOf to x.sort
    sorts_all-carried end x h = cc
    sorts_all-carried (next t u ts us c cs) x h = of (occurs x u) (occurs_in x us) h (sorts-carried c x) (sorts_all-carried cs x)
      where
        of : (a b : Bool) → IsTrue (a || b) → (IsTrue a → IsSortOf to x.sort) → (IsTrue b → IsSortOf to x.sort) → IsSortOf to x.sort
        of true b h p q = p h
        of false b h p q = q h
