-- What a search for a left side gives: choices, and all of them in the end.
use Rattle.std.specs.Prelude.{◌≡◌, ◌≢◌, ◌⊎◌, ℕ, List, [], ◌∷◌, ◌++◌, length, true, Option, Some, None, MatchOption, refl}
use Rattle.std.specs.List.{zip}
use Rattle.std.proofs.Common.{sym, ap, subst, ◌∙◌, inl, inr, ⊎_elim}
use Rattle.std.proofs.lemmas.List.{length-map}
use Rattle.mw_logic.specs.Term.{Variable, RawTerm}
use Rattle.mw_logic.specs.Signature.{Signature, Member}
use Rattle.mw_logic.specs.Accepted.{IsAccepted}
use Rattle.mw_logic.specs.Module.{Module, Statement, IsStatement}
use Rattle.mw_logic.specs.Parts.{nested}
use Rattle.mw_logic.specs.Substitution.{Substitution, is_bound, IsSubstitution, IsSolution, SameSolution}
use Rattle.mw_logic.proofs.SameSolutions.{same_solution-trans}
use Rattle.mw_canon.specs.Canonical.{meant}
use Rattle.mw_least.specs.Workable.{IsWorkable}
use Rattle.mw_position.specs.Variables.{is_in, met, bound_variables, bound_values}
use Rattle.mw_position.proofs.Placing.{values_of}
use Rattle.mw_position.proofs.Placing.{is_bound_in, same_length}
use Rattle.mw_match.specs.Solutions.{Coming, FitsSorts, Lacks, PassesTo}
use Rattle.mw_match.specs.declared.solutions.Solution.{Solution}
use Rattle.mw_logic.proofs.Members.{member-append, member-right}
use Rattle.mw_poset.proofs.Members.{member-last}
use Rattle.mw_search.specs.Lacking.{Each}
use Rattle.mw_solving.specs.Values.{IsValue, AreValues}
use Rattle.mw_solving.specs.Inside.{IsSolutionOf}
use Rattle.mw_index.specs.Oriented.{IsOriented}
use Rattle.mw_index.specs.Choices.{Tried, tried_of, solution_of, in_order, IsTried, AreTried, AreComing, IsTaken, IsChoice, IsKept, IsUnderWay, IsAnswer, IsSearchedOne}
use Rattle.mw_index.specs.Index.{operator_of}
use Rattle.mw_index.specs.declared.oriented.Oriented.{Oriented}
use Rattle.mw_index.specs.declared.oriented.Searched.{Searched}
use Rattle.mw_index.specs.declared.choices.Choice.{Choice}
use Rattle.mw_index.specs.declared.choices.Choices.{Choices}
use Rattle.mw_index.proofs.Orders.{order_values}
use Rattle.mw_index.proofs.Rearranging.{zip_parts, rearranged_values, rearranged_same, rearranged_solution}
use Rattle.mw_index.proofs.Sides.{lefts_distinct, in_lefts, compiled_distinct, compiled_in, compiled_has}
use Rattle.mw_index.proofs.TopParts.{top_solution}
use Rattle.mw_index.proofs.Trying.{one_statement, tried_more}

each_member : {X : Type 0} (P : X → Type 0) (xs : List X) (x : X) → Each P xs → Member x xs → P x
each_member P [] x h m = absurd m
each_member P (y ∷ ys) x h (inl e) = subst P e h.0
each_member P (y ∷ ys) x h (inr m) = each_member P ys x h.1 m

-- the part that a solution is of
solved_part : (sig : Signature) (p t : RawTerm) (take : Option (List ℕ)) (s : Substitution) → IsSolutionOf sig true p t [] take s → (w : RawTerm) × IsTaken sig take t w × IsSolution sig p (nested sig w) [] s
solved_part sig p t None s sol = (t, refl, sol)
solved_part sig p t (Some ks) s (w, part, sol) = (w, part, sol)

solved_substitution : (sig : Signature) (p t : RawTerm) (take : Option (List ℕ)) (s : Substitution) → IsSolutionOf sig true p t [] take s → IsSubstitution sig s
solved_substitution sig p t take s h = (solved_part sig p t take s h).2.substitution

module _ (M : Module) (ok : IsWorkable M) (top : Option ℕ) (st : Oriented) (s : Searched) (one : IsSearchedOne M top st s) where
  abbrev sig : Signature
  sig = M.signature

  abbrev accepted : IsAccepted sig
  accepted = ok.signature.accepted

  abbrev e : Statement
  e = one.of.statement

  abbrev there : IsStatement M st.number e
  there = one.of.is_there

  abbrev xs : List Variable
  xs = s.compiled.variables

  abbrev lefts : List Variable
  lefts = met [] e.left

  pub sorts_size : length st.sorts ≡ length lefts
  sorts_size = ap length one.of.is.sorts ∙ length-map lefts (λ (x : Variable). x.sort)

  -- a solution has the left side's variables
  module _ (r : Substitution) (named : bound_variables r ≡ xs) (values : AreValues sig (bound_values r)) where
    bound : (x : Variable) → is_bound r x ≡ is_in x lefts
    bound x = is_bound_in r x ∙ ap (is_in x) named ∙ compiled_in M ok st.number e there s.compiled one.left.compiled x ∙ sym (in_lefts e x)

    -- and its values in their order are these
    pub ordered : in_order (bound_values r) s.order ≡ values_of r lefts
    ordered =
        let distinct = compiled_distinct M ok st.number e there s.compiled one.left.compiled in
        let size : length (bound_values r) ≡ length xs = same_length r ∙ ap (λ (xs : List Variable). length xs) named in
        let zipped : zip xs (bound_values r) ≡ r = ap (λ xs. zip xs (bound_values r)) (sym named) ∙ zip_parts r in
        ap (in_order (bound_values r)) one.left.order ∙ order_values xs (bound_values r) distinct size lefts (compiled_has M ok st.number e there s.compiled one.left.compiled) ∙ ap (λ r. values_of r lefts) zipped

    pub ordered_size : length (in_order (bound_values r) s.order) ≡ length st.sorts
    ordered_size = ap length ordered ∙ length-map lefts _ ∙ sym sorts_size

    module _ (t : RawTerm) (v : IsValue sig t) (is : operator_of t ≡ top) (take : Option (List ℕ)) (sol : IsSolutionOf sig true e.left t [] take (meant sig r)) (q : Choice)
        (by : q.by.now ≡ st) (items : q.values.items ≡ in_order (bound_values r) s.order) (taken : q.take ≡ take) where
      values_are : q.values.items ≡ values_of r lefts
      values_are = items ∙ ordered

      pub found_choice : IsChoice M t q
      found_choice =
          let (w, part, here) = solved_part sig e.left t take (meant sig r) sol in
          record {
            statement = e;
            is_there = subst (λ (st : Oriented). IsStatement M st.number e) (sym by) there;
            is = subst (IsOriented sig (operator_of t) e) (sym by) (subst (λ top. IsOriented sig top e st) (sym is) one.of.is);
            part = w;
            taken = subst (λ o. IsTaken sig o t w) (sym taken) part;
            values = subst (AreValues sig) (sym values_are) (rearranged_values sig accepted r values lefts bound);
            solution = subst (λ us. IsSolution sig e.left (nested sig w) [] (solution_of sig e us)) (sym values_are)
                (rearranged_solution sig accepted r values lefts bound here.substitution e.left (nested sig w) (lefts_distinct e) here);
          }

      -- it is tried with the choice
      pub found_tried : (tried : List Tried) (z : Substitution) → SameSolution sig z (meant sig r) → IsTried sig (tried ++ tried_of q ∷ []) st.number e z
      found_tried tried z same =
          let again : SameSolution sig (meant sig r) (solution_of sig e q.values.items) =
          subst (λ us. SameSolution sig (meant sig r) (solution_of sig e us)) (sym values_are) (rearranged_same sig accepted r values lefts bound (solved_substitution sig e.left t take (meant sig r) sol)) in
          (tried_of q, member-last (tried_of q) tried, ap (λ (st : Oriented). st.number) by, same_solution-trans sig z (meant sig r) (solution_of sig e q.values.items) same again)

  module _ (t : RawTerm) (v : IsValue sig t) (is : operator_of t ≡ top) (tried : List Tried) (old : Coming) (h : AreComing sig t tried st.number e xs old) where
    not_left : (left : List Solution) → Each (Lacks old) left → (r : Solution) → Member r left → Member r old.candidates → FitsSorts old r → ⊥
    not_left left each r m here fits = h.lacking r here (each_member (Lacks old) left r each m) (h.sound r here fits)

    -- none is left: all are tried
    pub none_left : PassesTo old [] → (d : Statement) → IsStatement M st.number d → AreTried sig t tried st.number d
    none_left p d is_there w part z sol =
        let de : e ≡ d = one_statement M st.number e d there is_there in
        let sol' : IsSolution sig e.left (nested sig w) [] z = subst (λ (d : Statement). IsSolution sig d.left (nested sig w) [] z) (sym de) sol in
        let (ks, k) = top_solution sig accepted e.left t w v part z sol' in
        subst (λ d. IsTried sig tried st.number d z) de (⊎_elim
        (λ a. a)
        (λ (r, m, fits, same). absurd (⊎_elim
        (λ j. not_left p.left p.each r j m fits)
        (λ j. absurd j)
        (member-append r p.left [] (subst (Member r) p.rest m))))
        (h.complete ks z k))

    -- one is answered, and the others come
    module _ (r : Solution) (new : Coming) (p : PassesTo old (r ∷ new.candidates)) (fits : FitsSorts old r) (same : new ≡ record old { candidates = new.candidates }) where
      here : Member r old.candidates
      here = subst (Member r) (sym p.rest) (member-right r p.left (r ∷ new.candidates) (inl refl))

      behind : (z : Solution) → Member z new.candidates → Member z old.candidates
      behind z m = subst (Member z) (sym p.rest) (member-right z p.left (r ∷ new.candidates) (inr m))

      pub answered_solution : IsSolutionOf sig true e.left t [] r.take (meant sig r.subst)
      answered_solution = h.sound r here fits

      pub answered_named : (bound_variables r.subst ≡ xs) × AreValues sig (bound_values r.subst)
      answered_named = h.named r here

      module _ (q : Choice) (by : q.by.now ≡ st) (items : q.values.items ≡ in_order (bound_values r.subst) s.order) (taken : q.take ≡ r.take) where
        pub answered_choice : IsChoice M t q
        answered_choice = found_choice r.subst answered_named.0 answered_named.1 t v is r.take answered_solution q by items taken

        pub others_come : (d : Statement) → IsStatement M st.number d → AreComing sig t (tried ++ tried_of q ∷ []) st.number d xs new
        others_come d is_there =
            let de : e ≡ d = one_statement M st.number e d there is_there in
            subst (λ d. AreComing sig t (tried ++ tried_of q ∷ []) st.number d xs new) de
            (subst (AreComing sig t (tried ++ tried_of q ∷ []) st.number e xs) (sym same) (record {
              named = λ z m. h.named z (behind z m);
              sound = λ z m. h.sound z (behind z m);
              lacking = λ z m. h.lacking z (behind z m);
              complete = complete;
            }))
          where
            answered : (z : Substitution) (c : Solution) → r ≡ c → SameSolution sig z (meant sig c.subst) → IsTried sig (tried ++ tried_of q ∷ []) st.number e z
            answered z c e k = found_tried r.subst answered_named.0 answered_named.1 t v is r.take answered_solution q by items taken tried z (subst (λ (c : Solution). SameSolution sig z (meant sig c.subst)) (sym e) k)

            complete : (ks : Option (List ℕ)) (z : Substitution) → IsSolutionOf sig true e.left t [] ks z
                → IsTried sig (tried ++ tried_of q ∷ []) st.number e z ⊎ ((c : Solution) × Member c new.candidates × FitsSorts old c × SameSolution sig z (meant sig c.subst))
            complete ks z sol = ⊎_elim
                (λ a. inl (tried_more sig tried (tried_of q ∷ []) st.number e z a))
                (λ (c, m, f, k). ⊎_elim
                (λ j. absurd (not_left p.left p.each c j m f))
                (λ j. ⊎_elim (λ (a : r ≡ c). inl (answered z c a k)) (λ b. inr (c, b, f, k)) j)
                (member-append c p.left (r ∷ new.candidates) (subst (Member c) p.rest m)))
                (h.complete ks z sol)

      -- so that is an answer, whatever values the choice has
      pub search_answer : (o : Option Choice) (c : Choices)
          → MatchOption o (length (in_order (bound_values r.subst) s.order) ≢ length st.sorts)
          (λ q. (q.by.now ≡ st) × (q.values.items ≡ in_order (bound_values r.subst) s.order) × (q.take ≡ r.take) × (length q.values.items ≡ length st.sorts))
          → IsKept t c.subject
          → ((q : Choice) → q.by.now ≡ st → q.values.items ≡ in_order (bound_values r.subst) s.order → q.take ≡ r.take → IsUnderWay M t (tried ++ tried_of q ∷ []) st c)
          → IsAnswer M t tried st o c
      search_answer None c n kept under = absurd (n (ordered_size r.subst answered_named.0 answered_named.1))
      search_answer (Some q) c (a, b, d, l) kept under = record { subject = kept; answer = (answered_choice q a b d, a, under q a b d) }
