-- A diagram, level by level.
use Rattle.std.proofs.Common.{◌≡◌, ◌∙◌, ℕ, zero, suc, ◌<◌, ◌≤◌, ◌+◌, List, [], ◌∷◌, ◌++◌, length, take, refl, ap, sym, subst, arith, length-append}
use Rattle.std.specs.Prelude.{slice_get, Option, Some, None}
use Rattle.std.proofs.lemmas.List.{take_all}
use Rattle.mw_logic.specs.Signature.{Signature, Sorted, Declaration, Operator, SameKind, Member}
use Rattle.mw_logic.specs.Accepted.{number_of_sort}
use Rattle.mw_logic.specs.Preregular.{AreOfKinds}
use Rattle.mw_sorts.specs.Entries.{place_in}
use Rattle.mw_sorts.specs.Results.{LacksLeastResult}
use Rattle.mw_sorts.specs.Diagrams.{Row, Level, LeadsTo}
use Rattle.mw_sorts.specs.Sorting.{Sorting, AreEntriesOf}
use Rattle.mw_sorts.specs.States.{ways, IsOperatorOf, AreStatesOf, AreAlive, Narrows, IsStart, IsRowOf, IsLevelOf, IsEndOf, AreEndsOf}
use Rattle.mw_sorts.specs.Marks.{width, AreLinked, HaveEntries, EndsAt, IsDrawn}
use Rattle.mw_sorts.proofs.Getting.{get-same, get-within, get-there, take-get}
use Rattle.mw_logic.proofs.BelowLaws.{IsBelow-refl}
use Rattle.mw_sorts.proofs.Leading.{leads-map, leads-more}
use Rattle.mw_sorts.proofs.Taking.{of_kinds-length, alive_more, end_on}

-- state q has the declarations that are alive behind the sorts Ss, which are n
pub record IsState (sig : Signature) (ds : List Declaration) (n : ℕ) (states : List (List ℕ)) (Ss : List Sorted) (q : ℕ) : Type 0 where
  pub many : length Ss ≡ n
  pub alive : List ℕ
  pub there : slice_get states q ≡ Some alive
  pub exact : AreAlive sig ds Ss alive

-- the levels of the first n arguments, and the states that they lead to
pub record IsDrawnSoFar (sorting : Sorting) (o : Operator) (n : ℕ) (levels : List Level) (entries : List (List Sorted)) (states : List (List ℕ)) : Type 0 where
  pub leads : LeadsTo sorting.signature sorting.places levels 0 (take n o.args) (IsState sorting.signature (ways o) n states)
  pub linked : AreLinked levels (length states)
  pub listed : HaveEntries sorting levels entries (take n o.args)
  pub reached : (q : ℕ) (alive : List ℕ) → slice_get states q ≡ Some alive → (Ss : List Sorted) × AreOfKinds sorting.signature Ss (take n o.args) × AreAlive sorting.signature (ways o) Ss alive
  pub numbers : AreStatesOf (ways o) states

linked-more : (ls : List Level) (m : ℕ) (l : Level) (ends : ℕ) → AreLinked ls m → m ≡ length l → ((q : ℕ) (row : Row) (p next : ℕ) → slice_get l q ≡ Some row → slice_get row p ≡ Some next → next < ends) → AreLinked (ls ++ l ∷ []) ends
linked-more [] m l ends h e b = (b, tt)
linked-more (k ∷ ls) m l ends h e b = (λ q row p next g f. by_levels ls next (h.0 q row p next g f), linked-more ls m l ends h.1 e b)
  where
    by_levels : (js : List Level) (next : ℕ) → next < width js m → next < width (js ++ l ∷ []) ends
    by_levels [] next x = omega arith
    by_levels (j ∷ js) next x = x

listed-more : (sorting : Sorting) (ls : List Level) (ess : List (List Sorted)) (Ks : List ℕ) (l : Level) (es : List Sorted) (K : ℕ) → HaveEntries sorting ls ess Ks → AreEntriesOf sorting K es
    → ((q : ℕ) (row : Row) → slice_get l q ≡ Some row → length row ≡ length es) → HaveEntries sorting (ls ++ l ∷ []) (ess ++ es ∷ []) (Ks ++ K ∷ [])
listed-more sorting [] [] [] l es K h a w = (a, w, tt)
listed-more sorting [] [] (L ∷ Ks) l es K h a w = absurd h
listed-more sorting [] (fs ∷ ess) Ks l es K h a w = absurd h
listed-more sorting (k ∷ ls) [] Ks l es K h a w = absurd h
listed-more sorting (k ∷ ls) (fs ∷ ess) [] l es K h a w = absurd h
listed-more sorting (k ∷ ls) (fs ∷ ess) (L ∷ Ks) l es K h a w = (h.0, h.1, listed-more sorting ls ess Ks l es K h.2 a w)

of_kinds-more : (sig : Signature) (Ss : List Sorted) (Ks : List ℕ) (S : Sorted) (K : ℕ) → AreOfKinds sig Ss Ks → SameKind sig (number_of_sort S) K → AreOfKinds sig (Ss ++ S ∷ []) (Ks ++ K ∷ [])
of_kinds-more sig [] [] S K h s = (s, tt)
of_kinds-more sig [] (L ∷ Ks) S K h s = absurd h
of_kinds-more sig (T ∷ Ss) [] S K h s = absurd h
of_kinds-more sig (T ∷ Ss) (L ∷ Ks) S K h s = (h.0, of_kinds-more sig Ss Ks S K h.1 s)

take-length : {X : Type 0} (xs : List X) (n : ℕ) → n ≤ length xs → length (take n xs) ≡ n
take-length [] zero l = refl
take-length [] (suc n) l = absurd (omega arith)
take-length (x ∷ xs) zero l = refl
take-length (x ∷ xs) (suc n) l = ap suc (take-length xs n (omega arith))

-- no level yet
pub drawn-none : (sorting : Sorting) (o : Operator) (states : List (List ℕ)) → IsStart (ways o) states → IsDrawnSoFar sorting o 0 [] [] states
drawn-none sorting o states s = record {
  leads = record { many = refl; alive = s.0; there = s.1; exact = exact };
  linked = tt;
  listed = tt;
  reached = λ q alive g. ([], tt, subst (λ (js : List ℕ). AreAlive sorting.signature (ways o) [] js) (sym (s.2 q alive g)) exact);
  numbers = λ q alive g j m. (s.3 j).0 (subst (λ (js : List ℕ). Member j js) (s.2 q alive g) m);
}
  where
    exact : AreAlive sorting.signature (ways o) [] s.0
    exact j = ((λ m. let d = get-there (ways o) j ((s.3 j).0 m) in (d.0, d.1, tt)), (λ d. (s.3 j).1 (get-within (ways o) j d.0 d.1)))

module _ (sorting : Sorting) (o : Operator) (n : ℕ) (states new : List (List ℕ)) (K : ℕ) (es : List Sorted) (l : Level) (k : slice_get o.args n ≡ Some K) (a : AreEntriesOf sorting K es)
    (is : IsLevelOf sorting.signature (ways o) n es states new l) where
  -- a row of the level is that of its state
  row-of : (q : ℕ) (row : Row) → slice_get l q ≡ Some row → (alive : List ℕ) × (slice_get states q ≡ Some alive) × IsRowOf sorting.signature (ways o) n es alive new row
  row-of q row g =
      let u = get-within l q row g in
      let z = is.size in
      let x = get-there states q (omega arith) in
      let r = is.rows q x.0 x.1 in
      (x.0, x.1, subst (λ (y : Row). IsRowOf sorting.signature (ways o) n es x.0 new y) (get-same l q r.0 row r.1 g) r.2)

  wide : (q : ℕ) (row : Row) → slice_get l q ≡ Some row → length row ≡ length es
  wide q row g = (row-of q row g).2.size

  bound : (q : ℕ) (row : Row) (p next : ℕ) → slice_get l q ≡ Some row → slice_get row p ≡ Some next → next < length new
  bound q row p next g f =
      let r = row-of q row g in
      let z = r.2.size in
      let u = get-within row p next f in
      let S = get-there es p (omega arith) in
      let x = r.2.next p S.0 S.1 in
      let same : x.0 ≡ next = get-same row p x.0 next x.2 f in
      subst (λ (y : ℕ). y < length new) same (get-within new x.0 x.1 x.3)

  -- the step from a state, by a sort of the kind
  step : (Ss : List Sorted) (r : ℕ) → IsState sorting.signature (ways o) n states Ss r → (row : Row) × (slice_get l r ≡ Some row)
      × ((S : Sorted) → SameKind sorting.signature (number_of_sort S) K → (next : ℕ) × (slice_get row (place_in sorting.places (length row) S) ≡ Some next) × IsState sorting.signature (ways o) (n + 1) new (Ss ++ S ∷ []) next)
  step Ss r s =
      let row = is.rows r s.alive s.there in (
        row.0,
        row.1,
        λ S b.
            let T = a.all S b in
            let x = row.2.next (place_in sorting.places (length es) S) T.0 T.1 in (
              x.0,
              subst (λ (w : ℕ). slice_get row.0 (place_in sorting.places w S) ≡ Some x.0) (sym row.2.size) x.2,
              record {
                many = let u = length-append Ss (S ∷ []) in let m = s.many in omega arith;
                alive = x.1;
                there = x.3;
                exact = alive_more sorting.signature (ways o) Ss S T.0 s.alive x.1 s.exact T.2 T.3 (subst (λ (i : ℕ). Narrows sorting.signature (ways o) i T.0 s.alive x.1) (sym s.many) x.4);
              },
            ),
      )

  pub drawn-more : (levels : List Level) (entries : List (List Sorted)) → AreStatesOf (ways o) new → IsDrawnSoFar sorting o n levels entries states → IsDrawnSoFar sorting o (n + 1) (levels ++ l ∷ []) (entries ++ es ∷ []) new
  drawn-more levels entries numbers h = record {
    leads = subst (λ (Ks : List ℕ). LeadsTo sorting.signature sorting.places (levels ++ l ∷ []) 0 Ks (IsState sorting.signature (ways o) (n + 1) new)) (sym args)
        (leads-more sorting.signature sorting.places levels 0 (take n o.args) (IsState sorting.signature (ways o) n states) (IsState sorting.signature (ways o) (n + 1) new) l K step h.leads);
    linked = linked-more levels (length states) l (length new) h.linked (sym is.size) bound;
    listed = subst (λ (Ks : List ℕ). HaveEntries sorting (levels ++ l ∷ []) (entries ++ es ∷ []) Ks) (sym args) (listed-more sorting levels entries (take n o.args) l es K h.listed a wide);
    reached = λ q narrowed g.
        let x = is.come q narrowed g in
        let y = h.reached x.0 x.1 x.4 in
        let S : Sorted = x.3 in
        let many : length y.0 ≡ n = of_kinds-length sorting.signature y.0 (take n o.args) y.1 ∙ short in (
          y.0 ++ S ∷ [],
          subst (λ (Ks : List ℕ). AreOfKinds sorting.signature (y.0 ++ S ∷ []) Ks) (sym args) (of_kinds-more sorting.signature y.0 (take n o.args) S K y.1 (a.of_kind x.2 S x.5)),
          alive_more sorting.signature (ways o) y.0 S S x.1 narrowed y.2 (IsBelow-refl sorting.signature S) (IsBelow-refl sorting.signature S)
              (subst (λ (i : ℕ). Narrows sorting.signature (ways o) i S x.1 narrowed) (sym many) x.6),
        );
    numbers = numbers;
  }
    where
      args : take (n + 1) o.args ≡ take n o.args ++ K ∷ []
      args = let e : n + 1 ≡ suc n = omega arith in ap (λ (m : ℕ). take m o.args) e ∙ take-get o.args n K k

      short : length (take n o.args) ≡ n
      short = take-length o.args n (let u = get-within o.args n K k in omega arith)

-- all levels, with the ends behind them
pub drawn-done : (sorting : Sorting) (o : Operator) (n : ℕ) (levels : List Level) (entries : List (List Sorted)) (states : List (List ℕ)) (ends : List (Option Sorted)) → IsOperatorOf sorting.signature o → n ≡ length o.args
    → IsDrawnSoFar sorting o n levels entries states → AreEndsOf sorting.signature o states ends → IsDrawn sorting o levels entries ends
drawn-done sorting o n levels entries states ends known e h is = record {
  leads = leads-map sorting.signature sorting.places levels 0 o.args (IsState sorting.signature (ways o) n states) (EndsAt sorting.signature o ends) finish
      (subst (λ (Ks : List ℕ). LeadsTo sorting.signature sorting.places levels 0 Ks (IsState sorting.signature (ways o) n states)) all h.leads);
  linked = subst (λ (m : ℕ). AreLinked levels m) (sym is.size) h.linked;
  listed = subst (λ (Ks : List ℕ). HaveEntries sorting levels entries Ks) all h.listed;
  reached = reached;
}
  where
    all : take n o.args ≡ o.args
    all = take_all n o.args (omega arith)

    finish : (Ss : List Sorted) (q : ℕ) → IsState sorting.signature (ways o) n states Ss q → EndsAt sorting.signature o ends Ss q
    finish Ss q s = let x = is.end q s.alive s.there in (x.0, x.1, end_on sorting.signature o known Ss (s.many ∙ e) s.alive s.exact x.0 x.2)

    reached : (q : ℕ) → slice_get ends q ≡ Some None → (Ss : List Sorted) × AreOfKinds sorting.signature Ss o.args × LacksLeastResult sorting.signature o Ss
    reached q g =
        let u = get-within ends q None g in
        let z = is.size in
        let x = get-there states q (omega arith) in
        let r = h.reached q x.0 x.1 in
        let k : AreOfKinds sorting.signature r.0 o.args = subst (λ (Ks : List ℕ). AreOfKinds sorting.signature r.0 Ks) all r.1 in
        let y = is.end q x.0 x.1 in
        let nothing : y.0 ≡ None = get-same ends q y.0 None y.1 g in
        let there : IsEndOf sorting.signature (ways o) o.result x.0 None = subst (λ (t : Option Sorted). IsEndOf sorting.signature (ways o) o.result x.0 t) nothing y.2 in
        (r.0, k, end_on sorting.signature o known r.0 (of_kinds-length sorting.signature r.0 o.args k) x.0 r.2 None there)
