-- What stands for a term or a statement of one signature in another that has its sorts and operators too: the sorts and kinds of the same names, and the
-- operators of the same names on the same kinds. (Maude Manual, chapter 6, "Module importation": sorts of one name are one sort.)
use Rattle.std.specs.Prelude.{ℕ, ◌≡◌, List, [], ◌∷◌, IsTrue, ⊤}
use Rattle.mw_logic.specs.Term.{Variable, RawTerm, numeral, quoted, variable, apply, RawTerms, nil, cons}
use Rattle.mw_logic.specs.Signature.{Signature, Sorted, sort, kind, Operator, IsOperator, IsSortNamed, SameKind, Member}
use Rattle.mw_logic.specs.Module.{Fragment, equal, matches, has_sort, is_true, Statement}

module _ (sig to : Signature) where
  -- T is the sort of S's name
  pub record IsSameSort (S T : ℕ) : Type 0 where
    pub name : List ℕ
    pub here : IsSortNamed sig S name
    pub there : IsSortNamed to T name

  -- L is of the kind of the sort that has the name of K, a sort by which its kind is named
  pub record IsSameKind (K L : ℕ) : Type 0 where
    pub sort : ℕ
    pub same : IsSameSort K sort
    pub kind : SameKind to sort L

  -- one by one
  abbrev pub AreSameKinds : List ℕ → List ℕ → Type 0
  AreSameKinds [] [] = ⊤
  AreSameKinds [] (L ∷ Ls) = ⊥
  AreSameKinds (K ∷ Ks) [] = ⊥
  AreSameKinds (K ∷ Ks) (L ∷ Ls) = IsSameKind K L × AreSameKinds Ks Ls

  -- an operator of the same name on the same kinds
  pub record IsSameOperator (f g : ℕ) : Type 0 where
    pub here : Operator
    pub there : Operator
    pub is_here : IsOperator sig f here
    pub is_there : IsOperator to g there
    pub spelling : here.spelling ≡ there.spelling
    pub args : AreSameKinds here.args there.args
    pub result : IsSameKind here.result there.result

  -- The second term stands for the first: variables of the same names and sorts, and the same operators.
  mutual
    pub data IsCarried : RawTerm → RawTerm → Type 0 where
      a_numeral : (n : ℕ) → IsCarried (numeral n) (numeral n)
      a_quoted : (q : List ℕ) → IsCarried (quoted q) (quoted q)
      a_variable : (x y : Variable) → x.name ≡ y.name → IsSameSort x.sort y.sort → IsCarried (variable x) (variable y)
      an_operator : (f g : ℕ) (ts us : RawTerms) → IsSameOperator f g → AreCarried ts us → IsCarried (apply f ts) (apply g us)

    pub data AreCarried : RawTerms → RawTerms → Type 0 where
      end : AreCarried nil nil
      next : (t u : RawTerm) (ts us : RawTerms) → IsCarried t u → AreCarried ts us → AreCarried (cons t ts) (cons u us)

  -- The same of a sort or a kind that a condition tests. A kind is told there by a sort, and stays told by the sort of that name.
  pub data IsSameSorted : Sorted → Sorted → Type 0 where
    a_sort : (S T : ℕ) → IsSameSort S T → IsSameSorted (sort S) (sort T)
    a_kind : (K L : ℕ) → IsSameSort K L → IsSameSorted (kind K) (kind L)

  -- the same of fragments of conditions
  pub data IsCarriedFragment : Fragment → Fragment → Type 0 where
    an_equation : (u v w z : RawTerm) → IsCarried u w → IsCarried v z → IsCarriedFragment (equal u v) (equal w z)
    a_match : (p t q u : RawTerm) → IsCarried p q → IsCarried t u → IsCarriedFragment (matches p t) (matches q u)
    a_test : (t u : RawTerm) (S T : Sorted) → IsCarried t u → IsSameSorted S T → IsCarriedFragment (has_sort t S) (has_sort u T)
    a_truth : (b c : RawTerm) → IsCarried b c → IsCarriedFragment (is_true b) (is_true c)

  pub data AreCarriedFragments : List Fragment → List Fragment → Type 0 where
    none : AreCarriedFragments [] []
    more : (a b : Fragment) (cs ds : List Fragment) → IsCarriedFragment a b → AreCarriedFragments cs ds → AreCarriedFragments (a ∷ cs) (b ∷ ds)

  -- The second statement stands for the first. Its variables are those of its own terms, in their order.
  pub record IsCarriedStatement (st new : Statement) : Type 0 where
    pub left : IsCarried st.left new.left
    pub right : IsCarried st.right new.right
    pub fragments : AreCarriedFragments st.fragments new.fragments
    pub rule : new.rule ≡ st.rule
    pub executable : new.executable ≡ st.executable
    pub owise : new.owise ≡ st.owise

  -- The signature is part of the other one: its sorts and its operators are there, sorts that it orders are of one kind there, and numerals and quoted
  -- identifiers stay terms.
  pub record IsPart : Type 0 where
    pub sorts : (S : ℕ) (name : List ℕ) → IsSortNamed sig S name → (T : ℕ) × IsSortNamed to T name
    pub pairs : (S T A B : ℕ) → Member (S, T) sig.pairs → IsSameSort S A → IsSameSort T B → SameKind to A B
    pub operators : (f : ℕ) (o : Operator) → IsOperator sig f o → (g : ℕ) × IsSameOperator f g
    pub nat : IsTrue sig.nat → IsTrue to.nat
    pub qid : IsTrue sig.qid → IsTrue to.qid
