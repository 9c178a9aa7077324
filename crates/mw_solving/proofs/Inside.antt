-- The entries for a term and for its proper parts are candidates: solutions where their new values have their variables' sorts.
use Rattle.std.specs.Prelude.{◌≡◌, ◌≤◌, ℕ, List, length, Bool, true, false, Option, Some, None, slice_get}
use Rattle.std.specs.List.{zip}
use Rattle.std.proofs.Common.{sym, subst}
use Rattle.mw_logic.specs.Term.{Variable, RawTerm}
use Rattle.mw_logic.specs.Signature.{Signature, Member, IsRawTerm}
use Rattle.mw_logic.specs.Accepted.{IsAccepted, IsWellSorted}
use Rattle.mw_logic.specs.Axioms.{EqualModulo, done}
use Rattle.mw_logic.specs.Parts.{nested}
use Rattle.mw_logic.specs.NormalForm.{normal_form}
use Rattle.mw_logic.specs.Substitution.{Substitution, IsSubstitution, SameSolution}
use Rattle.mw_logic.proofs.AxiomLaws.{sym as back}
use Rattle.mw_logic.proofs.SolutionLaws.{solution_kept}
use Rattle.mw_canon.specs.Canonical.{meant}
use Rattle.mw_position.specs.Variables.{met, placed, sorts_of, bound_variables, bound_values}
use Rattle.mw_split.specs.Lists.{AllOnce}
use Rattle.mw_matching.specs.Found.{Values, fits, is_single}
use Rattle.mw_matching.specs.Matches.{Theory, IsMatch}
use Rattle.mw_matching.specs.Patterns.{theory}
use Rattle.mw_solving.specs.Values.{IsValue, AreValues, AreOfSorts, AreSure, MayStand}
use Rattle.mw_solving.specs.Candidates.{AreOfSortsFrom}
use Rattle.mw_solving.specs.Inside.{Entry, AreEntries, IsSolutionOf, entries}
use Rattle.mw_solving.specs.Reordered.{Reordered}
use Rattle.mw_solving.proofs.Positions.{same_values}
use Rattle.mw_solving.proofs.Solving.{variables, pattern, distinct_met, pattern_numbered, pattern_arities, match_size, match_values}
use Rattle.mw_solving.proofs.Solved.{given_fit, sure_fits, solved, solved_same, solved_sorts, solution_matches}
use Rattle.mw_solving.proofs.Members.{member_to, member_from, got_member, one_index}
use Rattle.mw_solving.proofs.Compiled.{compiled_equal, compiled_raw}
use Rattle.mw_solving.proofs.Candidates.{match_sound, match_sorted}
use Rattle.mw_solving.proofs.ProperParts.{proper_value}
use Rattle.mw_solving.proofs.Entries.{HasEntry, entries_once}

module _ (sig : Signature) (ok : IsAccepted sig) (fitting : IsWellSorted sig) where
  module _ (p : RawTerm) (raw : IsRawTerm sig (nested sig p)) (s0 : Substitution) (given : IsSubstitution sig (meant sig s0)) (old : AreValues sig (bound_values s0)) (t : RawTerm) (v : IsValue sig t) (T : Theory) where
    abbrev xs : List Variable
    xs = variables sig ok p raw s0 given old

    abbrev Has : Bool → Option (List ℕ) → Values → Type 0
    Has inside ks us = HasEntry sig T (pattern sig ok p raw s0 given old) t (bound_values s0) inside ks us

    -- each entry is a match, for the term or for a part of it
    has_match : (inside : Bool) (ks : Option (List ℕ)) (us : Values) → Has inside ks us → (w : RawTerm) × IsValue sig w × IsMatch sig T (pattern sig ok p raw s0 given old) w (bound_values s0) us
    has_match inside None us m = (t, v, m)
    has_match false (Some ks) us k = absurd k
    has_match true (Some ks) us (w, d, m) = (w, proper_value sig ok ks t w d v, m)

    has_values : (inside : Bool) (ks : Option (List ℕ)) (us : Values) → Has inside ks us → AreValues sig us × (length us ≡ length xs)
    has_values inside ks us h = let (w, k, m) = has_match inside ks us h in (match_values sig ok p raw s0 given old T w k us m, match_size sig ok p raw s0 given old T w k us m)

    has_sound : (inside : Bool) (ks : Option (List ℕ)) (us : Values) → Has inside ks us → AreOfSortsFrom sig (length (bound_values s0)) us (sorts_of xs) → IsSolutionOf sig inside (nested sig p) t (meant sig s0) ks (meant sig (zip xs us))
    has_sound inside None us m h = match_sound sig ok fitting p raw s0 given old t v T us m h
    has_sound false (Some ks) us k h = absurd k
    has_sound true (Some ks) us (w, d, m) h = (w, d, match_sound sig ok fitting p raw s0 given old w (proper_value sig ok ks t w d v) T us m h)

    has_sorted : (inside : Bool) (ks : Option (List ℕ)) (us : Values) → length us ≡ length xs → IsSolutionOf sig inside (nested sig p) t (meant sig s0) ks (meant sig (zip xs us)) → AreOfSorts sig us (sorts_of xs)
    has_sorted inside None us n sol = match_sorted sig ok fitting p raw s0 given old t v us n sol
    has_sorted false (Some ks) us n k = absurd k
    has_sorted true (Some ks) us n (w, d, sol) = match_sorted sig ok fitting p raw s0 given old w (proper_value sig ok ks t w d v) us n sol

    has_all : MayStand sig T.has (sorts_of xs) → (inside : Bool) (ks : Option (List ℕ)) (s : Substitution) → IsSolutionOf sig inside (nested sig p) t (meant sig s0) ks s
        → (us : Values) × Has inside ks us × AreOfSorts sig us (sorts_of xs) × SameSolution sig s (meant sig (zip xs us))
    has_all may inside None s sol = (
      solved sig ok p raw s0 given old t v s sol,
      solution_matches sig ok p raw s0 given old t v s sol T may,
      solved_sorts sig ok p raw s0 given old t v s sol,
      solved_same sig ok p raw s0 given old t v s sol,
    )
    has_all may false (Some ks) s k = absurd k
    has_all may true (Some ks) s (w, d, sol) =
        let k : IsValue sig w = proper_value sig ok ks t w d v in (
          solved sig ok p raw s0 given old w k s sol,
          (w, d, solution_matches sig ok p raw s0 given old w k s sol T may),
          solved_sorts sig ok p raw s0 given old w k s sol,
          solved_same sig ok p raw s0 given old w k s sol,
        )

    -- so a list of all matches, each once, has candidates
    pub entered : MayStand sig T.has (sorts_of xs) → (inside : Bool) (list : List Entry) → AllOnce (λ (x : Entry). Has inside x.0 x.1) list
        → AreEntries sig inside (nested sig p) t (meant sig s0) (length (bound_values s0)) xs list
    entered may inside list l = record {
      values = λ x m. has_values inside x.0 x.1 (has x m);
      sound = λ x m h. has_sound inside x.0 x.1 (has x m) h;
      sorted = λ x m sol. has_sorted inside x.0 x.1 (has_values inside x.0 x.1 (has x m)).1 sol;
      complete = λ ks s sol. (let (us, h, sorts, same) = has_all may inside ks s sol in (us, member_to {A = Entry} (ks, us) list ((l.all (ks, us)).1 h), sorts, same));
      once = once;
    }
      where
        has : (x : Entry) → Member x list → Has inside x.0 x.1
        has x m = (l.all x).0 (member_from x list m)

        once : (i j : ℕ) (ks : Option (List ℕ)) (us ws : Values) → slice_get list i ≡ Some (ks, us) → slice_get list j ≡ Some (ks, ws) → SameSolution sig (meant sig (zip xs us)) (meant sig (zip xs ws)) → i ≡ j
        once i j ks us ws e f same =
            let h : Has inside ks us = (l.all (ks, us)).0 (got_member {A = Entry} (ks, us) list i e) in
            let k : Has inside ks ws = (l.all (ks, ws)).0 (got_member {A = Entry} (ks, ws) list j f) in
            let (good, n) = has_values inside ks us h in
            let (fine, o) = has_values inside ks ws k in
            let one : us ≡ ws = same_values sig ok xs us ws (distinct_met sig ok p raw s0 given old) n o (λ i u g. (good i u g).canonical) (λ i u g. (fine i u g).canonical) same.0 in
            one_index {A = Entry} list l.once i j (ks, us) e (subst (λ ws. slice_get list j ≡ Some (ks, ws)) (sym one) f)

  -- entries of a pattern are those of each equal one
  solution_of_kept : {p q : RawTerm} (inside : Bool) (t : RawTerm) (s0 : Substitution) (ks : Option (List ℕ)) (s : Substitution) → EqualModulo sig p q → IsSolutionOf sig inside p t s0 ks s → IsSolutionOf sig inside q t s0 ks s
  solution_of_kept inside t s0 None s e sol = solution_kept sig ok fitting e done sol
  solution_of_kept false t s0 (Some ks) s e k = absurd k
  solution_of_kept true t s0 (Some ks) s e (w, d, sol) = (w, d, solution_kept sig ok fitting e done sol)

  pub entries_kept : {p q t : RawTerm} {s0 : Substitution} {n : ℕ} {xs : List Variable} {list : List Entry} (inside : Bool) → EqualModulo sig p q → AreEntries sig inside p t s0 n xs list → AreEntries sig inside q t s0 n xs list
  entries_kept {t = t} {s0 = s0} {xs = xs} inside e h = record {
    values = h.values;
    sound = λ x m k. solution_of_kept inside t s0 x.0 (meant sig (zip xs x.1)) e (h.sound x m k);
    sorted = λ x m sol. h.sorted x m (solution_of_kept inside t s0 x.0 (meant sig (zip xs x.1)) (back e) sol);
    complete = λ ks s sol. h.complete ks s (solution_of_kept inside t s0 ks s (back e) sol);
    once = h.once;
  }

-- of the pattern whose normal form was compiled, as they are enumerated
pub inside_candidates : (sig : Signature) → IsAccepted sig → IsWellSorted sig → (inside : Bool) (p q : RawTerm) → IsRawTerm sig p → Reordered sig (normal_form sig p) q
    → (s0 : Substitution) → IsSubstitution sig (meant sig s0) → AreValues sig (bound_values s0) → (t : RawTerm) → IsValue sig t
    → (single : List (List ℕ)) → AreSure sig single (sorts_of (met (bound_variables s0) q)) → length single ≤ length (met (bound_variables s0) q)
    → AreEntries sig inside p t (meant sig s0) (length (bound_values s0)) (met (bound_variables s0) q)
    (entries sig single (placed (met (bound_variables s0) q) q) (length (met (bound_variables s0) q)) (bound_values s0) inside t)
inside_candidates sig ok fitting inside p q r h s0 given old t v single sure free =
    let raw : IsRawTerm sig (nested sig q) = compiled_raw sig ok r h in
    let T : Theory = theory sig (fits sig single) (is_single single) in
    let may = sure_fits sig single (sorts_of (met (bound_variables s0) q)) sure in
    let (numbered, count) = pattern_numbered sig ok q raw s0 given old in
    let list : List Entry = entries sig single (placed (met (bound_variables s0) q) q) (length (met (bound_variables s0) q)) (bound_values s0) inside t in
    entries_kept sig ok fitting inside (back (compiled_equal sig ok r h))
    (entered sig ok fitting q raw s0 given old t v T may inside list
    (entries_once sig ok single (placed (met (bound_variables s0) q) q) (bound_values s0) (length (met (bound_variables s0) q)) count (given_fit sig ok q raw s0 given old T may) numbered
    (pattern_arities sig ok q raw s0 given old) free inside t v))
