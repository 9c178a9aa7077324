-- Which declarations take arguments, one argument after another.
use Rattle.std.proofs.Common.{◌≡◌, ◌∙◌, ℕ, zero, suc, List, [], ◌∷◌, ◌++◌, length, refl, ap, sym, subst, inl, inr, arith}
use Rattle.std.specs.Prelude.{slice_get, Some, None, Option}
use Rattle.mw_logic.specs.Signature.{Signature, Sorted, Declaration, Operator, SameKind, Member}
use Rattle.mw_logic.specs.Sorts.{IsBelow, AreBelow, Takes, Declares}
use Rattle.mw_logic.specs.Accepted.{number_of_sort}
use Rattle.mw_logic.specs.Preregular.{AreOfKinds, IsLeastResult, HasLeastResult, IsDeclarationOf}
use Rattle.mw_sorting.specs.ComputedSorts.{IsResultOn}
use Rattle.mw_sorts.specs.Results.{LacksLeastResult, IsEndOn}
use Rattle.mw_sorts.specs.States.{ways, IsOperatorOf, TakesFirst, AreAlive, Narrows, IsResultAmong, IsLeastAmong, IsEndOf}
use Rattle.mw_sorts.proofs.Ways.{ways_known, way_declares, declares_way}
use Rattle.mw_sorts.proofs.Getting.{get-member, member-get, get-none}
use Rattle.mw_logic.proofs.BelowLaws.{IsBelow-trans}

-- lists of sorts of some kinds are as many
pub of_kinds-length : (sig : Signature) (Ss : List Sorted) (Ks : List ℕ) → AreOfKinds sig Ss Ks → length Ss ≡ length Ks
of_kinds-length sig [] [] h = refl
of_kinds-length sig [] (K ∷ Ks) h = absurd h
of_kinds-length sig (S ∷ Ss) [] h = absurd h
of_kinds-length sig (S ∷ Ss) (K ∷ Ks) h = ap suc (of_kinds-length sig Ss Ks h.1)

-- a list of sorts of some kinds has one at each place
pub of_kinds-get : (sig : Signature) (Ss : List Sorted) (Ks : List ℕ) (i K : ℕ) → AreOfKinds sig Ss Ks → slice_get Ks i ≡ Some K → (S : Sorted) × (slice_get Ss i ≡ Some S) × SameKind sig (number_of_sort S) K
of_kinds-get sig [] [] i K h e = absurd (get-none e)
of_kinds-get sig [] (L ∷ Ks) i K h e = absurd h
of_kinds-get sig (S ∷ Ss) [] i K h e = absurd h
of_kinds-get sig (S ∷ Ss) (L ∷ Ks) zero K h e = (S, refl, subst (λ (M : ℕ). SameKind sig (number_of_sort S) M) (let k : L ≡ K = (cc) in k) h.0)
of_kinds-get sig (S ∷ Ss) (L ∷ Ks) (suc i) K h e = of_kinds-get sig Ss Ks i K h.1 e

-- as many: all of them
pub takes_all : (sig : Signature) (Ss Ts : List Sorted) → length Ss ≡ length Ts → TakesFirst sig Ss Ts → AreBelow sig Ss Ts
takes_all sig [] [] e h = h
takes_all sig [] (T ∷ Ts) e h = absurd (omega arith)
takes_all sig (S ∷ Ss) [] e h = h
takes_all sig (S ∷ Ss) (T ∷ Ts) e h = (h.0, takes_all sig Ss Ts (omega arith) h.1)

pub takes_first : (sig : Signature) (Ss Ts : List Sorted) → AreBelow sig Ss Ts → TakesFirst sig Ss Ts
takes_first sig [] [] h = h
takes_first sig [] (T ∷ Ts) h = absurd h
takes_first sig (S ∷ Ss) [] h = h
takes_first sig (S ∷ Ss) (T ∷ Ts) h = (h.0, takes_first sig Ss Ts h.1)

-- one argument more
pub takes_more : (sig : Signature) (Ss Ts : List Sorted) (S T : Sorted) → TakesFirst sig Ss Ts → slice_get Ts (length Ss) ≡ Some T → IsBelow sig S T → TakesFirst sig (Ss ++ S ∷ []) Ts
takes_more sig [] [] S T h e b = absurd (get-none e)
takes_more sig [] (U ∷ Ts) S T h e b = (subst (λ (V : Sorted). IsBelow sig S V) (let k : T ≡ U = (cc) in k) b, h)
takes_more sig (R ∷ Ss) [] S T h e b = absurd h
takes_more sig (R ∷ Ss) (U ∷ Ts) S T h e b = (h.0, takes_more sig Ss Ts S T h.1 e b)

pub takes_less : (sig : Signature) (Ss Ts : List Sorted) (S : Sorted) → TakesFirst sig (Ss ++ S ∷ []) Ts → TakesFirst sig Ss Ts × ((T : Sorted) × (slice_get Ts (length Ss) ≡ Some T) × IsBelow sig S T)
takes_less sig [] [] S h = absurd h
takes_less sig [] (U ∷ Ts) S h = (h.1, (U, refl, h.0))
takes_less sig (R ∷ Ss) [] S h = absurd h
takes_less sig (R ∷ Ss) (U ∷ Ts) S h = let m = takes_less sig Ss Ts S h.1 in ((h.0, m.0), m.1)

-- what is alive behind one argument more
pub alive_more : (sig : Signature) (ds : List Declaration) (Ss : List Sorted) (S T : Sorted) (alive narrowed : List ℕ) → AreAlive sig ds Ss alive → IsBelow sig S T → IsBelow sig T S
    → Narrows sig ds (length Ss) T alive narrowed → AreAlive sig ds (Ss ++ S ∷ []) narrowed
alive_more sig ds Ss S T alive narrowed a st ts n j = (to, from)
  where
    to : Member j narrowed → (d : Declaration) × (slice_get ds j ≡ Some d) × TakesFirst sig (Ss ++ S ∷ []) d.args
    to m =
        let both = (n j).0 m in
        let t = both.1 in
        let l = (a j).0 both.0 in
        let same : t.0 ≡ l.0 = (let e = t.2 in let h = l.1 in (cc)) in
        (t.0, t.2, takes_more sig Ss (t.0).args S t.1 (subst (λ (d : Declaration). TakesFirst sig Ss d.args) (sym same) l.2) t.3 (IsBelow-trans sig S T t.1 st t.4))

    from : ((d : Declaration) × (slice_get ds j ≡ Some d) × TakesFirst sig (Ss ++ S ∷ []) d.args) → Member j narrowed
    from t =
        let l = takes_less sig Ss (t.0).args S t.2 in
        (n j).1 ((a j).1 (t.0, t.1, l.0), (t.0, (l.1).0, t.1, (l.1).1, IsBelow-trans sig T S (l.1).0 ts (l.1).2))

module _ (sig : Signature) (o : Operator) (known : IsOperatorOf sig o) (Ss : List Sorted) (long : length Ss ≡ length o.args) (alive : List ℕ) (a : AreAlive sig (ways o) Ss alive) where
  -- what is alive behind the last argument gives the results
  among_taken : (R : Sorted) → IsResultAmong (ways o) alive R → Takes sig o Ss R
  among_taken R r =
      let l = (a r.0).0 r.2 in
      let d : Declaration = r.1 in
      let same : l.0 ≡ d = (let e = l.1 in let h = r.3 in (cc)) in
      let member : Member d (ways o) = get-member (ways o) r.0 d r.3 in
      let is : IsDeclarationOf sig o d = ways_known sig o known d member in
      let as_many : length Ss ≡ length d.args = long ∙ sym (of_kinds-length sig d.args o.args is.args) in
      record {
        args = d.args;
        declares = subst (Declares o d.args) r.4 (way_declares o d member);
        fits = takes_all sig Ss d.args as_many (subst (λ (b : Declaration). TakesFirst sig Ss b.args) same l.2);
      }

  taken_among : (R : Sorted) → Takes sig o Ss R → IsResultAmong (ways o) alive R
  taken_among R t =
      let d : Declaration = record { args = t.args; result = R } in
      let g = member-get (ways o) d (declares_way o t.args R t.declares) in
      (g.0, d, (a g.0).1 (d, g.1, takes_first sig Ss t.args t.fits), g.1, refl)

  least_among : (R : Sorted) → IsLeastAmong sig (ways o) alive R → IsLeastResult sig o Ss R
  least_among R l = record { takes = among_taken R l.among; least = λ Q t. l.least Q (taken_among Q t) }

  least_taken : (R : Sorted) → IsLeastResult sig o Ss R → IsLeastAmong sig (ways o) alive R
  least_taken R l = record { among = taken_among R l.takes; least = λ Q t. l.least Q (among_taken Q t) }

  pub end_on : (end : Option Sorted) → IsEndOf sig (ways o) o.result alive end → IsEndOn sig o Ss end
  end_on (Some R) (inl l) = inl (least_among R l)
  end_on (Some R) (inr n) = inr (λ Q t. n.0 Q (taken_among Q t), n.1)
  end_on None n = record { taken = ((n.0).0, among_taken (n.0).0 (n.0).1); no_least = λ R l. n.1 R (least_taken R l) }

-- a result on these sorts: a least one, where there is one
pub result-least : (sig : Signature) (o : Operator) (Ss : List Sorted) (R : Sorted) → IsResultOn sig o Ss R → HasLeastResult sig o Ss
result-least sig o Ss R (inl l) Q t = (R, l)
result-least sig o Ss R (inr n) Q t = absurd (n.0 Q t)

-- no result lacks where there is one
pub result-lacks : (sig : Signature) (o : Operator) (Ss : List Sorted) (R : Sorted) → IsResultOn sig o Ss R → LacksLeastResult sig o Ss → ⊥
result-lacks sig o Ss R (inl l) h = h.no_least R l
result-lacks sig o Ss R (inr n) h = n.0 (h.taken).0 (h.taken).1

-- the kind at the place of a sort
pub of_kinds-at : (sig : Signature) (Ss : List Sorted) (Ks : List ℕ) (i : ℕ) (S : Sorted) → AreOfKinds sig Ss Ks → slice_get Ss i ≡ Some S → (K : ℕ) × (slice_get Ks i ≡ Some K) × SameKind sig (number_of_sort S) K
of_kinds-at sig [] Ks i S h e = absurd (get-none e)
of_kinds-at sig (T ∷ Ss) [] i S h e = absurd h
of_kinds-at sig (T ∷ Ss) (K ∷ Ks) zero S h e = (K, refl, subst (λ (U : Sorted). SameKind sig (number_of_sort U) K) (let k : T ≡ S = (cc) in k) h.0)
of_kinds-at sig (T ∷ Ss) (K ∷ Ks) (suc i) S h e = of_kinds-at sig Ss Ks i S h.1 e
