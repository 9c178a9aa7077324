-- The matches of a pattern are candidates: solutions where their new values have their variables' sorts.
use Rattle.std.specs.Prelude.{◌≡◌, ◌<◌, ◌≤◌, ◌⊎◌, ℕ, false, List, [], ◌∷◌, length, map, Option, Some, None, slice_get, refl}
use Rattle.std.specs.List.{zip}
use Rattle.std.proofs.Common.{sym, ap, subst, ◌∙◌, inl, inr, arith}
use Rattle.std.proofs.lemmas.Bool.{cases_lt}
use Rattle.std.proofs.lemmas.Option.{same_Some}
use Rattle.mw_logic.specs.Term.{Variable, RawTerm}
use Rattle.mw_logic.specs.Signature.{Signature, Member, sort, IsRawTerm}
use Rattle.mw_logic.specs.Accepted.{IsAccepted, IsWellSorted}
use Rattle.mw_logic.specs.Axioms.{EqualModulo, done}
use Rattle.mw_logic.specs.Sorts.{HasSort}
use Rattle.mw_logic.specs.Parts.{nested}
use Rattle.mw_logic.specs.NormalForm.{normal_form}
use Rattle.mw_logic.specs.Substitution.{Substitution, IsSubstitution, IsSolution, SameSolution}
use Rattle.mw_logic.proofs.AxiomLaws.{sym as back}
use Rattle.mw_logic.proofs.SolutionLaws.{solution_kept}
use Rattle.mw_canon.specs.Canonical.{meant}
use Rattle.mw_position.specs.Variables.{met, placed, sorts_of, bound_variables, bound_values}
use Rattle.mw_position.proofs.Begins.{begins_get}
use Rattle.mw_position.proofs.Meeting.{met_grows}
use Rattle.mw_position.proofs.Placing.{same_length}
use Rattle.mw_split.specs.Lists.{AllOnce}
use Rattle.mw_matching.specs.Found.{fits, is_single, found}
use Rattle.mw_matching.specs.Matches.{Theory, IsMatch}
use Rattle.mw_matching.specs.Patterns.{theory}
use Rattle.mw_matching.proofs.FoundMatches.{found_once}
use Rattle.mw_solving.specs.Values.{IsValue, AreValues, AreOfSorts, AreSure, MayStand}
use Rattle.mw_solving.specs.Candidates.{AreOfSortsFrom, AreCandidates}
use Rattle.mw_solving.specs.Inside.{Entry, AreEntries, IsSolutionOf, whole_entry}
use Rattle.mw_solving.specs.Reordered.{Reordered}
use Rattle.mw_solving.proofs.Positions.{variable_at, values_sorted, same_values}
use Rattle.mw_solving.proofs.Solving.{variables, pattern, distinct_met, pattern_numbered, pattern_arities, match_size, match_values, match_solves}
use Rattle.mw_solving.proofs.Solved.{sort_at, get_front, given_fit, sure_fits, solved, solved_same, solved_sorts, solution_matches}
use Rattle.mw_solving.proofs.Members.{member_to, member_from, got_member, one_index, got_mapped, mapped, of_mapped}
use Rattle.mw_solving.proofs.Compiled.{compiled_equal, compiled_raw}

-- the parts of a substitution by position
pub variables_zipped : (xs : List Variable) (us : List RawTerm) → length us ≡ length xs → bound_variables (zip xs us) ≡ xs
variables_zipped [] us l = refl
variables_zipped (x ∷ xs) [] l = absurd (omega (arith, l))
variables_zipped (x ∷ xs) (u ∷ us) l = ap (λ ys. x ∷ ys) (variables_zipped xs us (omega (arith, l)))

pub values_zipped : (xs : List Variable) (us : List RawTerm) → length us ≡ length xs → bound_values (zip xs us) ≡ us
values_zipped [] [] l = refl
values_zipped [] (u ∷ us) l = absurd (omega (arith, l))
values_zipped (x ∷ xs) [] l = absurd (omega (arith, l))
values_zipped (x ∷ xs) (u ∷ us) l = ap (λ vs. u ∷ vs) (values_zipped xs us (omega (arith, l)))

module _ (sig : Signature) (ok : IsAccepted sig) (fitting : IsWellSorted sig) where
  module _ (p : RawTerm) (raw : IsRawTerm sig (nested sig p)) (s0 : Substitution) (given : IsSubstitution sig (meant sig s0)) (old : AreValues sig (bound_values s0)) (t : RawTerm) (v : IsValue sig t) where
    abbrev xs : List Variable
    xs = variables sig ok p raw s0 given old

    abbrev Matches : Theory → List RawTerm → Type 0
    Matches T = IsMatch sig T (pattern sig ok p raw s0 given old) t (bound_values s0)

    -- given values have their sorts, so the new ones tell of all
    all_sorted : (T : Theory) (us : List RawTerm) → Matches T us → AreOfSortsFrom sig (length (bound_values s0)) us (sorts_of xs) → AreOfSorts sig us (sorts_of xs)
    all_sorted T us m h i u S e k = by_case (cases_lt i (length (bound_values s0)))
      where
        by_case : (i < length (bound_values s0)) ⊎ (length (bound_values s0) ≤ i) → HasSort sig (nested sig u) (sort S)
        by_case (inr l) = h i u S l e k
        by_case (inl l) =
            let n = same_length s0 in
            let (x, d) = variable_at (bound_variables s0) i (omega (arith, l, n)) in
            let g = met_grows (bound_variables s0) p in
            let b : slice_get xs i ≡ Some x = ap (λ ys. slice_get ys i) g.1 ∙ get_front (bound_variables s0) g.0 i x d in
            let is_S : x.sort ≡ S = same_Some x.sort S (sym (sort_at xs i x b) ∙ k) in
            let f : slice_get (bound_values s0) i ≡ Some u = sym (begins_get (bound_values s0) us i m.begins l) ∙ e in
            subst (λ S. HasSort sig (nested sig u) (sort S)) is_S (values_sorted sig s0 given i u x.sort f (sort_at (bound_variables s0) i x d))

    -- a match is a solution where its new values have their sorts, and only there
    pub match_sound : (T : Theory) (us : List RawTerm) → Matches T us → AreOfSortsFrom sig (length (bound_values s0)) us (sorts_of xs) → IsSolution sig (nested sig p) (nested sig t) (meant sig s0) (meant sig (zip xs us))
    match_sound T us m h = match_solves sig ok p raw s0 given old T t v us m fitting (all_sorted T us m h)

    pub match_sorted : (us : List RawTerm) → length us ≡ length xs → IsSolution sig (nested sig p) (nested sig t) (meant sig s0) (meant sig (zip xs us)) → AreOfSorts sig us (sorts_of xs)
    match_sorted us n sol =
        let h : AreOfSorts sig (bound_values (zip xs us)) (sorts_of (bound_variables (zip xs us))) = values_sorted sig (zip xs us) sol.substitution in
        subst (λ ys. AreOfSorts sig us (sorts_of ys)) (variables_zipped xs us n) (subst (λ ws. AreOfSorts sig ws (sorts_of (bound_variables (zip xs us)))) (values_zipped xs us n) h)

    pub candidates : (T : Theory) → MayStand sig T.has (sorts_of xs) → (found : List (List RawTerm)) → AllOnce (Matches T) found → AreCandidates sig (nested sig p) (nested sig t) (meant sig s0) (length (bound_values s0)) xs found
    candidates T may found l = record { values = values; sound = sound; sorted = sorted; complete = complete; once = once }
      where
        match_of : (us : List RawTerm) → Member us found → Matches T us
        match_of us m = (l.all us).0 (member_from us found m)

        values : (us : List RawTerm) → Member us found → AreValues sig us × (length us ≡ length xs)
        values us m = let h = match_of us m in (match_values sig ok p raw s0 given old T t v us h, match_size sig ok p raw s0 given old T t v us h)

        sound : (us : List RawTerm) → Member us found → AreOfSortsFrom sig (length (bound_values s0)) us (sorts_of xs) → IsSolution sig (nested sig p) (nested sig t) (meant sig s0) (meant sig (zip xs us))
        sound us m h = match_sound T us (match_of us m) h

        sorted : (us : List RawTerm) → Member us found → IsSolution sig (nested sig p) (nested sig t) (meant sig s0) (meant sig (zip xs us)) → AreOfSorts sig us (sorts_of xs)
        sorted us m sol = match_sorted us (values us m).1 sol

        complete : (s : Substitution) → IsSolution sig (nested sig p) (nested sig t) (meant sig s0) s → (us : List RawTerm) × Member us found × AreOfSorts sig us (sorts_of xs) × SameSolution sig s (meant sig (zip xs us))
        complete s sol =
            let us : List RawTerm = solved sig ok p raw s0 given old t v s sol in
            let m : Matches T us = solution_matches sig ok p raw s0 given old t v s sol T may in
            (us, member_to us found ((l.all us).1 m), solved_sorts sig ok p raw s0 given old t v s sol, solved_same sig ok p raw s0 given old t v s sol)

        once : (i j : ℕ) (us ws : List RawTerm) → slice_get found i ≡ Some us → slice_get found j ≡ Some ws → SameSolution sig (meant sig (zip xs us)) (meant sig (zip xs ws)) → i ≡ j
        once i j us ws e f same =
            let m : Matches T us = (l.all us).0 (got_member us found i e) in
            let n : Matches T ws = (l.all ws).0 (got_member ws found j f) in
            let one : us ≡ ws =
            same_values sig ok xs us ws (distinct_met sig ok p raw s0 given old) (match_size sig ok p raw s0 given old T t v us m) (match_size sig ok p raw s0 given old T t v ws n)
            (λ i u g. (match_values sig ok p raw s0 given old T t v us m i u g).canonical) (λ i u g. (match_values sig ok p raw s0 given old T t v ws n i u g).canonical) same.0 in
            one_index found l.once i j us e (subst (λ ws. slice_get found j ≡ Some ws) (sym one) f)

  -- candidates of a pattern are those of each equal one
  pub candidates_kept : {p q t : RawTerm} {s0 : Substitution} {n : ℕ} {xs : List Variable} {list : List (List RawTerm)} → EqualModulo sig p q → AreCandidates sig p t s0 n xs list → AreCandidates sig q t s0 n xs list
  candidates_kept e h = record {
    values = h.values;
    sound = λ us m k. solution_kept sig ok fitting e done (h.sound us m k);
    sorted = λ us m sol. h.sorted us m (solution_kept sig ok fitting (back e) done sol);
    complete = λ s sol. h.complete s (solution_kept sig ok fitting (back e) done sol);
    once = h.once;
  }

-- of the pattern whose normal form was compiled, as they are enumerated
pub found_candidates : (sig : Signature) → IsAccepted sig → IsWellSorted sig → (p q : RawTerm) → IsRawTerm sig p → Reordered sig (normal_form sig p) q
    → (s0 : Substitution) → IsSubstitution sig (meant sig s0) → AreValues sig (bound_values s0) → (t : RawTerm) → IsValue sig t
    → (single : List (List ℕ)) → AreSure sig single (sorts_of (met (bound_variables s0) q))
    → AreCandidates sig p (nested sig t) (meant sig s0) (length (bound_values s0)) (met (bound_variables s0) q) (found sig single (placed (met (bound_variables s0) q) q) t (bound_values s0))
found_candidates sig ok fitting p q r h s0 given old t v single sure =
    let raw : IsRawTerm sig (nested sig q) = compiled_raw sig ok r h in
    let T : Theory = theory sig (fits sig single) (is_single single) in
    let may = sure_fits sig single (sorts_of (met (bound_variables s0) q)) sure in
    candidates_kept sig ok fitting (back (compiled_equal sig ok r h))
    (candidates sig ok fitting q raw s0 given old t v T may (found sig single (placed (met (bound_variables s0) q) q) t (bound_values s0))
    (found_once sig ok single (placed (met (bound_variables s0) q) q) t (bound_values s0) (pattern_arities sig ok q raw s0 given old) (pattern_numbered sig ok q raw s0 given old).0 (given_fit sig ok q raw s0 given old T may) v.canonical))

-- they are those of the whole of the term
pub whole_candidates : (sig : Signature) (p t : RawTerm) (s0 : Substitution) (n : ℕ) (xs : List Variable) (list : List (List RawTerm)) → AreCandidates sig p (nested sig t) s0 n xs list → AreEntries sig false p t s0 n xs (map whole_entry list)
whole_candidates sig p t s0 n xs list h = record { values = values; sound = sound; sorted = sorted; complete = complete; once = once }
  where
    values : (e : Entry) → Member e (map whole_entry list) → AreValues sig e.1 × (length e.1 ≡ length xs)
    values e m = let (us, is, l) = of_mapped whole_entry e list m in subst (λ (e : Entry). AreValues sig e.1 × (length e.1 ≡ length xs)) is (h.values us l)

    sound : (e : Entry) → Member e (map whole_entry list) → AreOfSortsFrom sig n e.1 (sorts_of xs) → IsSolutionOf sig false p t s0 e.0 (meant sig (zip xs e.1))
    sound e m k =
        let (us, is, l) = of_mapped whole_entry e list m in
        subst (λ (e : Entry). IsSolutionOf sig false p t s0 e.0 (meant sig (zip xs e.1))) is (h.sound us l (subst (λ (e : Entry). AreOfSortsFrom sig n e.1 (sorts_of xs)) (sym is) k))

    sorted : (e : Entry) → Member e (map whole_entry list) → IsSolutionOf sig false p t s0 e.0 (meant sig (zip xs e.1)) → AreOfSorts sig e.1 (sorts_of xs)
    sorted e m sol =
        let (us, is, l) = of_mapped whole_entry e list m in
        subst (λ (e : Entry). AreOfSorts sig e.1 (sorts_of xs)) is (h.sorted us l (subst (λ (e : Entry). IsSolutionOf sig false p t s0 e.0 (meant sig (zip xs e.1))) (sym is) sol))

    complete : (ks : Option (List ℕ)) (s : Substitution) → IsSolutionOf sig false p t s0 ks s
        → (us : List RawTerm) × Member {X = Entry} (ks, us) (map whole_entry list) × AreOfSorts sig us (sorts_of xs) × SameSolution sig s (meant sig (zip xs us))
    complete None s sol = let (us, l, sorts, same) = h.complete s sol in (us, mapped whole_entry us list l, sorts, same)
    complete (Some ks) s sol = absurd sol

    once : (i j : ℕ) (ks : Option (List ℕ)) (us ws : List RawTerm) → slice_get (map whole_entry list) i ≡ Some (ks, us) → slice_get (map whole_entry list) j ≡ Some (ks, ws)
        → SameSolution sig (meant sig (zip xs us)) (meant sig (zip xs ws)) → i ≡ j
    once i j ks us ws e f same =
        let (u, a, is_u) = got_mapped whole_entry list i (ks, us) e in
        let (w, b, is_w) = got_mapped whole_entry list j (ks, ws) f in
        let one : u ≡ us = ap (λ (e : Entry). e.1) is_u in
        let two : w ≡ ws = ap (λ (e : Entry). e.1) is_w in
        h.once i j us ws (a ∙ ap Some one) (b ∙ ap Some two) same
