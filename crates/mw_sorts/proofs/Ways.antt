-- An operator's declarations with those that a commutative one has by exchange are the ways in which it is declared.
use Rattle.std.proofs.Common.{◌≡◌, ◌⊎◌, ℕ, zero, suc, ◌<◌, ◌≤◌, ◌+◌, ◌-◌, ◌*◌, List, [], ◌∷◌, ◌++◌, length, map, refl, ap, sym, subst, ◌∙◌, inl, inr, arith, append-nil, length-append}
use Rattle.std.specs.Prelude.{Bool, true, false, cond, slice_get, Some, IsTrue}
use Rattle.mw_logic.specs.Signature.{Signature, Sorted, Declaration, Operator, SameKind, Member}
use Rattle.mw_logic.specs.Sorts.{swapped, Declares}
use Rattle.mw_logic.specs.Preregular.{AreOfKinds, IsDeclarationOf}
use Rattle.mw_logic.proofs.KindLaws.{SameKind-trans, SameKind-sym}
use Rattle.mw_logic.proofs.Members.{member-left, member-right, member-append}
use Rattle.mw_sorts.specs.States.{IsOperatorOf, turned, ways}
use Rattle.mw_sorts.proofs.Getting.{get-left, get-map}

swapped_twice : (Ss : List Sorted) → swapped (swapped Ss) ≡ Ss
swapped_twice [] = refl
swapped_twice (S ∷ []) = refl
swapped_twice (S ∷ T ∷ Us) = refl

member-map : {X Y : Type 0} (f : X → Y) (xs : List X) (x : X) → Member x xs → Member (f x) (map f xs)
member-map f [] x m = absurd m
member-map f (y ∷ ys) x (inl e) = inl (ap f e)
member-map f (y ∷ ys) x (inr m) = inr (member-map f ys x m)

map-member : {X Y : Type 0} (f : X → Y) (xs : List X) (y : Y) → Member y (map f xs) → (x : X) × Member x xs × (f x ≡ y)
map-member f [] y m = absurd m
map-member f (z ∷ zs) y (inl e) = (z, inl refl, e)
map-member f (z ∷ zs) y (inr m) = let h = map-member f zs y m in (h.0, inr h.1, h.2)

-- a way is a declaration, or that of a commutative operator turned
pub way_is : (o : Operator) (d : Declaration) → Member d (ways o) → Member d o.declarations ⊎ (IsTrue o.comm × ((e : Declaration) × Member e o.declarations × (turned e ≡ d)))
unfolding ways
way_is o d m = elim (member-append d o.declarations (cond o.comm (map turned o.declarations) []) m) [
  | inl h ↦ inl h
  | inr h ↦ inr (by_test o.comm h)
]
  where
    by_test : (b : Bool) → Member d (cond b (map turned o.declarations) []) → IsTrue b × ((e : Declaration) × Member e o.declarations × (turned e ≡ d))
    by_test true h = (refl, map-member turned o.declarations d h)
    by_test false h = absurd h

pub way_declares : (o : Operator) (d : Declaration) → Member d (ways o) → Declares o d.args d.result
way_declares o d m = elim (way_is o d m) [
  | inl h ↦ inl h
  | inr h ↦ let (c, (e, m, t)) = h in inr (c, subst (λ (b : Declaration). Member b o.declarations) (back e t) m)
]
  where
    back : (e : Declaration) → turned e ≡ d → e ≡ record { args = swapped d.args; result = d.result }
    back e t =
        let a : e.args ≡ swapped d.args = sym (swapped_twice e.args) ∙ ap (λ (b : Declaration). swapped b.args) t in
        let r : e.result ≡ d.result = ap (λ (b : Declaration). b.result) t in
        rw (sym a, sym r) refl

pub declares_way : (o : Operator) (Ss : List Sorted) (R : Sorted) → Declares o Ss R → Member (record { args = Ss; result = R }) (ways o)
unfolding ways
declares_way o Ss R (inl m) = member-left _ o.declarations _ m
declares_way o Ss R (inr (c, m)) = member-right _ o.declarations _ (by_test o.comm c)
  where
    by_test : (b : Bool) → IsTrue b → Member (record { args = Ss; result = R }) (cond b (map turned o.declarations) [])
    by_test true c = subst (λ (Ts : List Sorted). Member (record { args = Ts; result = R }) (map turned o.declarations)) (swapped_twice Ss) (member-map turned o.declarations _ m)
    by_test false c = cc

-- each way is a declaration in the operator's kinds
pub ways_known : (sig : Signature) (o : Operator) → IsOperatorOf sig o → (d : Declaration) → Member d (ways o) → IsDeclarationOf sig o d
ways_known sig o known d m = elim (way_is o d m) [
  | inl h ↦ known.declarations d h
  | inr h ↦
      let (c, (e, m, t)) = h in
      let (K, L, a, k) = known.comm c in
      subst (IsDeclarationOf sig o) t (exchanged K L a k e (known.declarations e m))
]
  where
    exchanged : (K L : ℕ) → o.args ≡ K ∷ L ∷ [] → SameKind sig K L → (e : Declaration) → IsDeclarationOf sig o e → IsDeclarationOf sig o (turned e)
    exchanged K L a k e is = record {
      args = subst (AreOfKinds sig (swapped e.args)) (sym a) (of_kinds e.args (subst (AreOfKinds sig e.args) a is.args));
      result = is.result;
      args_there = λ S n. is.args_there S (among e.args S n);
      result_there = is.result_there;
    }
      where
        of_kinds : (Ss : List Sorted) → AreOfKinds sig Ss (K ∷ L ∷ []) → AreOfKinds sig (swapped Ss) (K ∷ L ∷ [])
        of_kinds [] h = h
        of_kinds (S ∷ []) h = h
        of_kinds (S ∷ T ∷ []) h = (SameKind-trans h.1.0 (SameKind-sym k), (SameKind-trans h.0 k, tt))
        of_kinds (S ∷ T ∷ U ∷ Us) h = absurd h.1.1

        among : (Ss : List Sorted) (S : Sorted) → Member S (swapped Ss) → Member S Ss
        among [] S n = n
        among (T ∷ []) S n = n
        among (T ∷ U ∷ Us) S (inl e) = inr (inl e)
        among (T ∷ U ∷ Us) S (inr (inl e)) = inl e
        among (T ∷ U ∷ Us) S (inr (inr n)) = inr (inr n)

map-number : {X : Type 0} (f : X → X) (xs : List X) → length (map f xs) ≡ length xs
map-number f [] = refl
map-number f (x ∷ xs) = ap suc (map-number f xs)

-- how many ways there are
pub ways-number : (o : Operator) → o.comm ≡ false → length (ways o) ≡ length o.declarations
unfolding ways
ways-number o c = rw c (ap length (append-nil o.declarations))

pub ways-both : (o : Operator) → o.comm ≡ true → length (ways o) ≡ 2 * length o.declarations
unfolding ways
ways-both o c =
    let e : length (o.declarations ++ map turned o.declarations) ≡ length o.declarations + length (map turned o.declarations) = length-append o.declarations (map turned o.declarations) in
    let m = map-number turned o.declarations in
    rw c (omega (arith, e, m))

get-right : {X : Type 0} (xs ys : List X) (i : ℕ) → length xs ≤ i → slice_get (xs ++ ys) i ≡ slice_get ys (i - length xs)
get-right [] ys i l = ap (slice_get ys) (omega arith)
get-right (x ∷ xs) ys zero l = absurd (omega (arith, l))
get-right (x ∷ xs) ys (suc i) l =
    let e : i - length xs ≡ suc i - suc (length xs) = omega arith in
    get-right xs ys i (omega (arith, l)) ∙ ap (slice_get ys) e

-- a way among the declarations, and one behind them
pub way-declared : (o : Operator) (i : ℕ) (d : Declaration) → slice_get o.declarations i ≡ Some d → slice_get (ways o) i ≡ Some d
unfolding ways
way-declared o i d e = get-left o.declarations _ i d e

pub way-behind : (o : Operator) (i : ℕ) → length o.declarations ≤ i → i < length (ways o) → IsTrue o.comm × ((i - length o.declarations) < length o.declarations)
way-behind o i l h = by_test o.comm refl
  where
    by_test : (b : Bool) → o.comm ≡ b → IsTrue o.comm × ((i - length o.declarations) < length o.declarations)
    by_test true c = let n = ways-both o c in (c, omega (arith, n, l, h))
    by_test false c = let n = ways-number o c in absurd (omega (arith, n, l, h))

pub way-turned : (o : Operator) (i : ℕ) (d : Declaration) → length o.declarations ≤ i → o.comm ≡ true → slice_get o.declarations (i - length o.declarations) ≡ Some d → slice_get (ways o) i ≡ Some (turned d)
unfolding ways
way-turned o i d l c e = rw c (get-right o.declarations (map turned o.declarations) i l ∙ get-map turned o.declarations (i - length o.declarations) d e)

-- the arguments exchanged, of two
pub turned-get : (d : Declaration) (i : ℕ) (S : Sorted) → length d.args ≡ 2 → i < 2 → slice_get d.args (1 - i) ≡ Some S → slice_get (swapped d.args) i ≡ Some S
turned-get d i S n l e = of d.args i n l e
  where
    of : (Ss : List Sorted) (i : ℕ) → length Ss ≡ 2 → i < 2 → slice_get Ss (1 - i) ≡ Some S → slice_get (swapped Ss) i ≡ Some S
    of [] i n l e = absurd (omega (arith, n))
    of (T ∷ []) i n l e = absurd (omega (arith, n))
    of (T ∷ U ∷ Us) zero n l e = e
    of (T ∷ U ∷ Us) (suc zero) n l e = e
    of (T ∷ U ∷ Us) (suc (suc i)) n l e = absurd (omega (arith, l))

-- of a way that is turned: two arguments
pub turned-two : (o : Operator) (d : Declaration) (t : Bool) (n place : ℕ) → Member d o.declarations → (IsTrue t → IsTrue o.comm) → (IsTrue o.comm → (e : Declaration) → Member e o.declarations → length e.args ≡ 2)
    → slice_get (ways o) n ≡ Some (cond t (turned d) d) → ((e : Declaration) → slice_get (ways o) n ≡ Some e → place < length e.args) → t ≡ true → (length d.args ≡ 2) × (place < 2)
turned-two o d true n place m c two e h is =
    let k = two (c refl) d m in
    let l = h (turned d) e in
    let s = swapped-length d.args in
    (k, omega (arith, k, l, s))
  where
    swapped-length : (Ss : List Sorted) → length (swapped Ss) ≡ length Ss
    swapped-length [] = refl
    swapped-length (S ∷ []) = refl
    swapped-length (S ∷ T ∷ Us) = refl
turned-two o d false n place m c two e h is = cc
