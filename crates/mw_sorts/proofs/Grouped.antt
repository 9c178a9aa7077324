-- Results of an associative operator by places: a square of all of them, and what it says of groupings.
use Rattle.std.proofs.Common.{◌≡◌, ◌∙◌, ℕ, ◌<◌, List, [], ◌∷◌, length, map, get_or, refl, ap, sym, subst, inl, inr, arith}
use Rattle.std.specs.Prelude.{slice_get, Some, None, IsTrue}
use Rattle.mw_logic.specs.Signature.{Signature, Sorted, sort, kind, Operator, IsOperator}
use Rattle.mw_logic.specs.Sorts.{AtOrBelow, IsBelow}
use Rattle.mw_logic.specs.Sorts as sorts
use Rattle.mw_logic.specs.Preregular.{AreOfKinds}
use Rattle.mw_logic.proofs.KindLaws.{SameKind-sym, SameKind-trans}
use Rattle.mw_logic.proofs.BelowLaws.{AtOrBelow-trans, IsBelow-trans}
use Rattle.mw_poset.specs.Order.{IsOnCycle}
use Rattle.mw_sorting.specs.ComputedSorts.{IsResultOn}
use Rattle.mw_sorting.specs.PreregularModulo.{IsOfKind}
use Rattle.mw_sorting.proofs.Results.{result_kind, result_monotone}
use Rattle.mw_term.specs.Signatures.{sorted_of}
use Rattle.mw_term.specs.declared.signature.Sorted.{Sorted as Held}
use Rattle.mw_sorts.specs.declared.diagram.Diagram.{Diagram}
use Rattle.mw_sorts.specs.declared.grouping.square.Square.{Square}
use Rattle.mw_sorts.specs.Entries.{IsLevelWith, Precedes, place_in}
use Rattle.mw_sorts.specs.Diagrams.{Level, IsDiagram}
use Rattle.mw_sorts.specs.Sorting.{Sorting, AreEntriesOf}
use Rattle.mw_sorts.specs.Groupings.{IsOrderSorted, AreAlike, three_of, AgreesOn, GroupsAlike, IsFirstGrouping}
use Rattle.mw_sorts.specs.Squares.{AreRowsOf, AreColumnsOf, AreTurned, IsSquareOf, width, product, Agrees, IsFirstTripleWithout}
use Rattle.mw_sorts.proofs.Getting.{get-same, get-within, get-there, read-or, some_same}
use Rattle.mw_sorts.proofs.Twos.{TwoSteps, two_steps}

-- what stands at a place is what is read there
read-is : {X : Type 0} (xs : List X) (i : ℕ) (d x : X) → slice_get xs i ≡ Some x → get_or xs i d ≡ x
read-is xs i d x e = some_same (sym (read-or xs xs i d refl (get-within xs i x e)) ∙ e)

-- without cycles two sorts that are at or below each other are one
one_sort : (pairs : List (ℕ × ℕ)) → ((S : ℕ) → IsOnCycle pairs S → ⊥) → {S T : ℕ} → AtOrBelow pairs S T → AtOrBelow pairs T S → S ≡ T
one_sort pairs none sorts.same down = refl
one_sort pairs none (sorts.above {S} {T} m up) down = absurd (none S (record { next = T; pair = m; back = AtOrBelow-trans up down }))

level_place : (places : List ℕ) (w : ℕ) (S T : Sorted) → IsLevelWith S T → place_in places w S ≡ place_in places w T
level_place places w (sort S) (sort T) e = ap (λ (x : ℕ). place_in places w (sort x)) e
level_place places w (sort S) (kind L) e = absurd e
level_place places w (kind K) (sort T) e = absurd e
level_place places w (kind K) (kind L) e = refl

module _ (sorting : Sorting) (ok : IsOrderSorted sorting.signature) (o : Operator) (entries : List Sorted) (h : AreEntriesOf sorting o.result entries) where
  abbrev sig : Signature
  sig = sorting.signature

  abbrev place : Sorted → ℕ
  place S = place_in sorting.places (length entries) S

  alike_place : (S T : Sorted) → AreAlike sig S T → place S ≡ place T
  alike_place (sort S) (sort T) a = ap (λ (x : ℕ). place (sort x)) (one_sort sig.pairs ok.acyclic a.0 a.1)
  alike_place (sort S) (kind L) a = absurd a.1
  alike_place (kind K) (sort T) a = absurd a.0
  alike_place (kind K) (kind L) a = refl

  place_within : (S : Sorted) → IsOfKind sig o.result S → place S < length entries
  place_within S s = let (T, g, up, down) = h.all S s in get-within entries (place S) T g

  same_place : (S T : Sorted) → IsOfKind sig o.result S → IsOfKind sig o.result T → place S ≡ place T → AreAlike sig S T
  same_place S T s t e =
      let (A, a, up, down) = h.all S s in
      let (B, b, over, under) = h.all T t in
      let one : A ≡ B = get-same entries (place T) A B (subst (λ (p : ℕ). slice_get entries p ≡ Some A) e a) b in (
        IsBelow-trans sig S B T (subst (IsBelow sig S) one up) under,
        IsBelow-trans sig T A S (subst (IsBelow sig T) (sym one) over) down,
      )

  module _ (f : ℕ) (is : IsOperator sig f o) (assoc : IsTrue o.assoc) (d : Diagram) (diagram : IsDiagram sig sorting.places o d) where
    -- the result on two sorts of the kind
    result_on : (S T : Sorted) → IsOfKind sig o.result S → IsOfKind sig o.result T → TwoSteps sig sorting.places o d S T
    result_on S T s t =
        let (A, B, args, a, b) = ok.accepted.assoc f o is assoc in
        two_steps sig sorting.places o d A B S T diagram args (SameKind-trans s (SameKind-sym a)) (SameKind-trans t (SameKind-sym b))

    of_kind : (S T R : Sorted) → IsResultOn sig o (S ∷ T ∷ []) R → IsOfKind sig o.result R
    of_kind S T R r = result_kind sig ok.fitting f o is (S ∷ T ∷ []) R r

    module _ (q : Square) where
      module _ (lists : List (List ℕ)) (height : ℕ) (high : (level : Level) → slice_get d.levels 1 ≡ Some level → height ≡ length level) (turned : AreTurned height lists q.results) (rows : AreRowsOf sorting.places d entries q.rows.items) (columns : AreColumnsOf sorting.places d entries q.columns.items lists) where
        -- what is read for two places
        record IsReadAt (i j : ℕ) : Type 0 where
          S : Sorted
          T : Sorted
          R : Sorted
          first : slice_get entries i ≡ Some S
          second : slice_get entries j ≡ Some T
          gives : IsResultOn sig o (S ∷ T ∷ []) R
          row : get_or q.rows.items i 0 < length q.results
          column : get_or q.columns.items j 0 < length (get_or q.results (get_or q.rows.items i 0) [])
          stands : place R ≡ product q i j

        read_at : (i j : ℕ) → i < length entries → j < length entries → IsReadAt i j
        read_at i j a b =
            let (S, s) = get-there entries i a in
            let (T, t) = get-there entries j b in
            let w = result_on S T (h.of_kind i S s) (h.of_kind j T t) in
            let (c, list, gc, gl, column) = columns.each j T t in
            let (level, next, end, at_level, at_row, leads, ends) = w.ends in
            let l : w.row < height = let b = get-within level w.row next at_row in let e = high level at_level in omega arith in
            let (cells, gr, turn) = turned w.row l in
            let there : slice_get cells c ≡ Some (place (sorted_of w.result)) = turn c _ list gl (column w.row w.result w.ends) in
            let er : get_or q.rows.items i 0 ≡ w.row = read-is q.rows.items i 0 w.row (rows.each i S w.row s w.leads) in
            let ec : get_or q.columns.items j 0 ≡ c = read-is q.columns.items j 0 c gc in
            let el : get_or q.results (get_or q.rows.items i 0) [] ≡ cells = ap (λ (x : ℕ). get_or q.results x []) er ∙ read-is q.results w.row [] cells gr in
            record {
              S = S;
              T = T;
              R = sorted_of w.result;
              first = s;
              second = t;
              gives = w.is;
              row = subst (λ (x : ℕ). x < length q.results) (sym er) (get-within q.results w.row cells gr);
              column = subst (λ (x : ℕ). x < length (get_or q.results (get_or q.rows.items i 0) [])) (sym ec) (subst (λ (xs : List ℕ). c < length xs) (sym el) (get-within cells c _ there));
              stands = sym (ap (λ (xs : List ℕ). get_or xs (get_or q.columns.items j 0) 0) el ∙ ap (λ (x : ℕ). get_or cells x 0) ec ∙ read-is cells c 0 _ there);
            }

        pub square-is : IsSquareOf sorting o entries q
        square-is = record {
          wide = rows.size;
          square = record {
            size = columns.size ∙ sym rows.size;
            rows = λ i l. (read_at i i (there i l) (there i l)).row;
            columns = λ i j l m. (read_at i j (there i l) (there j m)).column;
            within = λ i j l m.
                let r = read_at i j (there i l) (there j m) in
                subst (λ (x : ℕ). x < width q) r.stands (subst (λ (n : ℕ). place r.R < n) (sym rows.size) (place_within r.R (of_kind r.S r.T r.R r.gives)));
          };
          products = λ S T R s t r. stands S T R s t r;
        }
          where
            there : (i : ℕ) → i < width q → i < length entries
            there i l = subst (λ (n : ℕ). i < n) rows.size l

            stands : (S T R : Sorted) → IsOfKind sig o.result S → IsOfKind sig o.result T → IsResultOn sig o (S ∷ T ∷ []) R → place R ≡ product q (place S) (place T)
            stands S T R s t r =
                let w = read_at (place S) (place T) (place_within S s) (place_within T t) in
                let a = same_place S w.S s (h.of_kind (place S) w.S w.first) (sym (h.at_place (place S) w.S w.first)) in
                let b = same_place T w.T t (h.of_kind (place T) w.T w.second) (sym (h.at_place (place T) w.T w.second)) in
                alike_place R w.R (
                  result_monotone sig ok.fitting f o is (S ∷ T ∷ []) (w.S ∷ w.T ∷ []) R w.R w.gives (a.0, (b.0, tt)) r,
                  result_monotone sig ok.fitting f o is (w.S ∷ w.T ∷ []) (S ∷ T ∷ []) w.R R r (a.1, (b.1, tt)) w.gives,
                ) ∙ w.stands

      module _ (square : IsSquareOf sorting o entries q) where
        stands : (S T R : Sorted) → IsOfKind sig o.result S → IsOfKind sig o.result T → IsResultOn sig o (S ∷ T ∷ []) R → place R ≡ product q (place S) (place T)
        stands S T R s t r = square.products S T R s t r

        -- the places of the two groupings
        fronts : (A B C P V : Sorted) → IsOfKind sig o.result A → IsOfKind sig o.result B → IsOfKind sig o.result C → IsResultOn sig o (A ∷ B ∷ []) P → IsResultOn sig o (P ∷ C ∷ []) V → place V ≡ product q (product q (place A) (place B)) (place C)
        fronts A B C P V a b c p v = stands P C V (of_kind A B P p) c v ∙ ap (λ (x : ℕ). product q x (place C)) (stands A B P a b p)

        backs : (A B C Q W : Sorted) → IsOfKind sig o.result A → IsOfKind sig o.result B → IsOfKind sig o.result C → IsResultOn sig o (B ∷ C ∷ []) Q → IsResultOn sig o (A ∷ Q ∷ []) W → place W ≡ product q (place A) (product q (place B) (place C))
        backs A B C Q W a b c r w = stands A Q W a (of_kind B C Q r) w ∙ ap (product q (place A)) (stands B C Q b c r)

        kinds_of : (Ss : List Sorted) (A B C : Sorted) → AreOfKinds sig Ss (three_of o) → Ss ≡ A ∷ B ∷ C ∷ [] → IsOfKind sig o.result A × IsOfKind sig o.result B × IsOfKind sig o.result C
        kinds_of Ss A B C ks e =
            let (a, (b, (c, n))) = subst (λ (Ts : List Sorted). AreOfKinds sig Ts (three_of o)) e ks in (a, b, c)

        -- where the places agree, so do the groupings
        agree : (Ss : List Sorted) → AreOfKinds sig Ss (three_of o) → ((A B C : Sorted) → Ss ≡ A ∷ B ∷ C ∷ [] → IsOfKind sig o.result A → IsOfKind sig o.result B → IsOfKind sig o.result C → Agrees q (place A) (place B) (place C)) → AgreesOn sig o Ss
        agree Ss ks all V W g =
            let (a, b, c) = kinds_of Ss g.first g.middle g.last ks g.sorts in
            same_place V W (of_kind g.front g.last V g.front_gives) (of_kind g.first g.back W g.back_gives) (
            fronts g.first g.middle g.last g.front V a b c g.front_is g.front_gives
            ∙ all g.first g.middle g.last g.sorts a b c
            ∙ sym (backs g.first g.middle g.last g.back W a b c g.back_is g.back_gives)
            )

        wide : (S : Sorted) → IsOfKind sig o.result S → place S < width q
        wide S s = subst (λ (n : ℕ). place S < n) (sym square.wide) (place_within S s)

        pub groups-alike : IsFirstTripleWithout (width q) (Agrees q) None → GroupsAlike sig o
        groups-alike t Ss ks = agree Ss ks (λ A B C e a b c. t (place A) (place B) (place C) (wide A a) (wide B b) (wide C c))

        pub first-grouping : (i j k : ℕ) (A B C : Sorted) → slice_get entries i ≡ Some A → slice_get entries j ≡ Some B → slice_get entries k ≡ Some C → IsFirstTripleWithout (width q) (Agrees q) (Some (i, j, k))
            → IsFirstGrouping sig o (A ∷ B ∷ C ∷ [])
        first-grouping i j k A B C ga gb gc t = record {
          entries = (h.entry i A ga, (h.entry j B gb, (h.entry k C gc, tt)));
          differs =
              let p = result_on A B a b in
              let v = result_on (sorted_of p.result) C (of_kind A B _ p.is) c in
              let r = result_on B C b c in
              let w = result_on A (sorted_of r.result) a (of_kind B C _ r.is) in (
                sorted_of v.result,
                sorted_of w.result,
                record { first = A; middle = B; last = C; sorts = refl; front = sorted_of p.result; front_is = p.is; front_gives = v.is; back = sorted_of r.result; back_is = r.is; back_gives = w.is },
                λ e. differ (sym (fronts A B C _ _ a b c p.is v.is) ∙ alike_place _ _ e ∙ backs A B C _ _ a b c r.is w.is),
              );
          first = λ Ts ks before. agree Ts ks (λ D E F e x y z. earlier D E F x y z (subst (λ (Us : List Sorted). Precedes Us (A ∷ B ∷ C ∷ [])) e before));
        }
          where
            a : IsOfKind sig o.result A
            a = h.of_kind i A ga

            b : IsOfKind sig o.result B
            b = h.of_kind j B gb

            c : IsOfKind sig o.result C
            c = h.of_kind k C gc

            at_i : place A ≡ i
            at_i = h.at_place i A ga

            at_j : place B ≡ j
            at_j = h.at_place j B gb

            at_k : place C ≡ k
            at_k = h.at_place k C gc

            differ : Agrees q (place A) (place B) (place C) → ⊥
            differ e = let (ti, (tj, (tk, wrong, less), more), most) = t in wrong (subst (λ x. Agrees q i j x) at_k (subst (λ x. Agrees q i x (place C)) at_j (subst (λ x. Agrees q x (place B) (place C)) at_i e)))

            earlier : (D E F : Sorted) → IsOfKind sig o.result D → IsOfKind sig o.result E → IsOfKind sig o.result F → Precedes (D ∷ E ∷ F ∷ []) (A ∷ B ∷ C ∷ []) → Agrees q (place D) (place E) (place F)
            earlier D E F x y z (inl first) = let (ti, (tj, (tk, wrong, less), more), most) = t in most (place D) (place E) (place F) (subst (λ n. place D < n) at_i (h.in_order D A x a first)) (wide E y) (wide F z)
            earlier D E F x y z (inr (level, inl middle)) =
                let (ti, (tj, (tk, wrong, less), more), most) = t in
                subst (λ n. Agrees q n (place E) (place F)) (sym (level_place sorting.places (length entries) D A level ∙ at_i)) (more (place E) (place F) (subst (λ n. place E < n) at_j (h.in_order E B y b middle)) (wide F z))
            earlier D E F x y z (inr (level, inr (even, inl last))) =
                let (ti, (tj, (tk, wrong, less), more), most) = t in
                subst (λ n. Agrees q n (place E) (place F)) (sym (level_place sorting.places (length entries) D A level ∙ at_i)) (
                subst (λ n. Agrees q i n (place F)) (sym (level_place sorting.places (length entries) E B even ∙ at_j)) (less (place F) (subst (λ n. place F < n) at_k (h.in_order F C z c last)))
                )
            earlier D E F x y z (inr (level, inr (even, inr (same, none)))) = absurd none

-- the square that was made of the entries
pub square-made : (sorting : Sorting) → IsOrderSorted sorting.signature → (o : Operator) (entries : List Held) → AreEntriesOf sorting o.result (map sorted_of entries) → (f : ℕ) → IsOperator sorting.signature f o → IsTrue o.assoc → (d : Diagram) (places : List ℕ)
    → IsDiagram sorting.signature sorting.places o d → (q made : Square) → places ≡ sorting.places → made ≡ q → AreRowsOf places d (map sorted_of entries) q.rows.items → (lists : List (List ℕ)) (height : ℕ)
    → ((level : Level) → slice_get d.levels 1 ≡ Some level → height ≡ length level) → AreTurned height lists q.results → AreColumnsOf places d (map sorted_of entries) q.columns.items lists → IsSquareOf sorting o (map sorted_of entries) made
square-made sorting ok o entries h f is assoc d places diagram q made p t rows lists height high turned columns =
    subst (IsSquareOf sorting o (map sorted_of entries)) (sym t) (
    square-is sorting ok o (map sorted_of entries) h f is assoc d diagram q lists height high turned (subst (λ (ps : List ℕ). AreRowsOf ps d (map sorted_of entries) q.rows.items) p rows)
    (subst (λ (ps : List ℕ). AreColumnsOf ps d (map sorted_of entries) q.columns.items lists) p columns)
    )
