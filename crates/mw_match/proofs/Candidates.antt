-- Candidates by position, as solutions.
use Rattle.std.specs.Prelude.{◌≡◌, ◌≤◌, Bool, ℕ, List, [], ◌++◌, true, length, map, Option, Some, Result, Ok, Err, OnErr, cond, slice_get, refl}
use Rattle.std.specs.List.{zip}
use Rattle.std.proofs.Common.{sym, ap, subst, ◌∙◌}
use Rattle.mw_logic.specs.Term.{Variable, RawTerm}
use Rattle.mw_logic.specs.Terms.{args_of}
use Rattle.mw_logic.specs.Signature.{Signature, Member, IsRawTerm}
use Rattle.mw_logic.specs.Accepted.{IsAccepted, IsWellSorted}
use Rattle.mw_logic.specs.NormalForm.{normal_form}
use Rattle.mw_logic.specs.Substitution.{Substitution, IsSubstitution, SameSolution}
use Rattle.mw_logic.proofs.CanonicalTerms.{fixed}
use Rattle.mw_canon.specs.Canonical.{meant}
use Rattle.mw_position.specs.Variables.{met, placed, sorts_of, bound_variables, bound_values}
use Rattle.mw_logic.specs.Parts.{nested}
use Rattle.mw_logic.proofs.Canonical.{IsCanonical}
use Rattle.mw_position.specs.Positions.{IsNumbered, counted}
use Rattle.mw_matching.specs.Matches.{Theory, Fits, HasArities}
use Rattle.mw_matching.specs.Patterns.{theory}
use Rattle.mw_matching.specs.Found.{Values, fits, is_single}
use Rattle.mw_solving.proofs.Compiled.{compiled_raw}
use Rattle.mw_solving.proofs.Solving.{pattern_numbered, pattern_arities}
use Rattle.mw_solving.proofs.Solved.{given_fit, sure_fits}
use Rattle.mw_solving.specs.Values.{IsValue, AreValues, AreSure}
use Rattle.mw_solving.specs.Candidates.{AreOfSortsFrom}
use Rattle.mw_solving.specs.Inside.{IsSolutionOf, Entry, AreEntries, entries}
use Rattle.mw_solving.proofs.Grounds.{nested_ground}
use Rattle.mw_solving.proofs.Members.{got_mapped, mapped, of_mapped}
use Rattle.mw_solving.proofs.Candidates.{variables_zipped, values_zipped}
use Rattle.mw_solving.proofs.Inside.{inside_candidates}
use Rattle.mw_search.specs.Lacking.{IsKnown, HaveTheirSorts, OneLacksItsSort}
use Rattle.mw_compile.specs.Compiled.{IsCompiled}
use Rattle.mw_compile.specs.declared.compiled.Compiled.{Compiled}
use Rattle.mw_match.specs.Choices.{picked, part_entry}
use Rattle.mw_match.specs.Solutions.{Coming, FitsSorts, Lacks, AreNamed, IsAllSolutions, candidate}
use Rattle.mw_match.specs.Hands.{IsNoneByNumber, coming_with, first_entries, picked_entries}
use Rattle.mw_match.specs.declared.parts.Parts.{Parts}
use Rattle.mw_match.specs.declared.solutions.Solution.{Solution}
use Rattle.mw_match.proofs.Numbers.{other_number_none}
use Rattle.mw_match.proofs.Inside.{Sized, own_entries}
use Rattle.mw_match.proofs.Joined.{TakesParts, may_pick, picked_proper, all_taken}

-- a value's sorts can be told
pub known : (sig : Signature) → IsAccepted sig → (u : RawTerm) → IsValue sig u → IsKnown sig u
known sig ok u v = record { canonical = fixed sig ok u v.canonical; raw = v.raw; ground = sym (nested_ground sig u) ∙ v.ground }

-- so candidates by position are all solutions, as they are told by sorts
module _ (sig : Signature) (ok : IsAccepted sig) (inside : Bool) (p t : RawTerm) (s0 : Substitution) (n : ℕ) (xs : List Variable) (list : List Entry) (h : AreEntries sig inside p t s0 n xs list) where
  abbrev pub coming : Coming
  coming = record { signature = sig; sorts = sorts_of xs; given = n; candidates = map (candidate xs) list }

  abbrev Solves : Option (List ℕ) → Substitution → Type 0
  Solves = IsSolutionOf sig inside p t s0

  pub all_solutions : IsAllSolutions sig inside p t s0 coming
  all_solutions = record { sound = sound; lacking = lacking; complete = complete; once = once }
    where
      zipped : (e : Entry) → Member e list → bound_values (zip xs e.1) ≡ e.1
      zipped e m = values_zipped xs e.1 (h.values e m).1

      sound : (r : Solution) → Member r (map (candidate xs) list) → FitsSorts coming r → Solves r.take (meant sig r.subst)
      sound r m k =
          let (e, is, l) = of_mapped (candidate xs) r list m in
          let there : HaveTheirSorts sig (sorts_of xs) n e.1 = subst (HaveTheirSorts sig (sorts_of xs) n) (zipped e l) (subst (FitsSorts coming) (sym is) k) in
          let sorts : AreOfSortsFrom sig n e.1 (sorts_of xs) = λ i u S b g a. there i u b g S a (known sig ok u ((h.values e l).0 i u g)) in
          subst (λ (r : Solution). Solves r.take (meant sig r.subst)) is (h.sound e l sorts)

      lacking : (r : Solution) → Member r (map (candidate xs) list) → Lacks coming r → Solves r.take (meant sig r.subst) → ⊥
      lacking r m k sol =
          let (e, is, l) = of_mapped (candidate xs) r list m in
          let lacks : OneLacksItsSort sig (sorts_of xs) n e.1 = subst (OneLacksItsSort sig (sorts_of xs) n) (zipped e l) (subst (Lacks coming) (sym is) k) in
          let (S, a, none) = lacks.lacks in
          let here : Solves e.0 (meant sig (zip xs e.1)) = subst (λ (r : Solution). Solves r.take (meant sig r.subst)) (sym is) sol in
          none (known sig ok lacks.value ((h.values e l).0 lacks.position lacks.value lacks.is)) (h.sorted e l here lacks.position lacks.value S lacks.is a)

      complete : (ks : Option (List ℕ)) (s : Substitution) → Solves ks s
          → (r : Solution) × Member r (map (candidate xs) list) × FitsSorts coming r × (r.take ≡ ks) × SameSolution sig s (meant sig r.subst)
      complete ks s sol =
          let (us, l, sorts, same) = h.complete ks s sol in
          let there : HaveTheirSorts sig (sorts_of xs) n us = λ i u b g S a k. sorts i u S g a in
          let e : Entry = (ks, us) in
          (candidate xs e, mapped (candidate xs) e list l, subst (HaveTheirSorts sig (sorts_of xs) n) (sym (zipped e l)) there, refl, same)

      once : (i j : ℕ) (q r : Solution) → slice_get (map (candidate xs) list) i ≡ Some q → slice_get (map (candidate xs) list) j ≡ Some r → q.take ≡ r.take
          → SameSolution sig (meant sig q.subst) (meant sig r.subst) → i ≡ j
      once i j q r e f takes same =
          let (d, a, is_q) = got_mapped (candidate xs) list i q e in
          let (c, b, is_r) = got_mapped (candidate xs) list j r f in
          let one : c.0 ≡ d.0 = ap (λ (r : Solution). r.take) is_r ∙ sym takes ∙ sym (ap (λ (r : Solution). r.take) is_q) in
          let here : slice_get list j ≡ Some (d.0, c.1) = b ∙ ap (λ ks. Some (ks, c.1)) one in
          h.once i j d.0 d.1 c.1 a here
          (subst (λ (q : Solution). SameSolution sig (meant sig q.subst) (meant sig (zip xs c.1))) (sym is_q) (subst (λ (r : Solution). SameSolution sig (meant sig q.subst) (meant sig r.subst)) (sym is_r) same))

-- Those of a compiled pattern, as its searches and picks give them: h says that entries are all that the pattern has.
module _ (parts : Parts) (ok : IsAccepted parts.context.now.signature) (inside by_picks : Bool) (p t : RawTerm) (s0 : Substitution) where
  abbrev sig : Signature
  sig = parts.context.now.signature

  abbrev compiled : Compiled
  compiled = parts.compiled.now

  abbrev vs : Values
  vs = bound_values s0

  abbrev list : RawTerm → ℕ → List Entry
  list q m = entries sig compiled.positions.single.items q m vs inside t

  -- those with which solutions begin
  abbrev pub begun : Coming
  begun = coming_with parts (length vs) (first_entries parts vs ++ cond by_picks (picked_entries parts vs) [])

  module _ (h : IsCompiled sig (normal_form sig p) (bound_variables s0) compiled) (subject : parts.subject ≡ t) (taken : TakesParts parts vs t inside by_picks) (proper : by_picks ≡ true → picked_entries parts vs ≡ own_entries parts vs t)
      (all : AreEntries sig inside p t (meant sig s0) (length vs) (met (bound_variables s0) h.q) (list (placed (met (bound_variables s0) h.q) h.q) (length (met (bound_variables s0) h.q)))) where
    abbrev xs : List Variable
    xs = met (bound_variables s0) h.q

    entries_are : list compiled.pattern (length compiled.variables) ≡ list (placed xs h.q) (length xs)
    entries_are = ap (λ q. list q (length compiled.variables)) (h.pattern ∙ ap (λ ys. placed ys h.q) h.variables) ∙ ap (λ (ys : List Variable). list (placed xs h.q) (length ys)) h.variables

    sized : Sized (length compiled.variables) (list compiled.pattern (length compiled.variables))
    sized e m = (all.values e (subst (Member e) entries_are m)).1 ∙ ap (λ (ys : List Variable). length ys) (sym h.variables)

    candidates_are : begun.candidates ≡ map (candidate xs) (list (placed xs h.q) (length xs))
    candidates_are = ap (map (candidate compiled.variables)) (all_taken parts vs inside by_picks t subject taken proper sized ∙ entries_are) ∙ ap (λ ys. map (candidate ys) (list (placed xs h.q) (length xs))) h.variables

    same : begun ≡ coming sig ok inside p t (meant sig s0) (length vs) xs (list (placed xs h.q) (length xs)) all
    same =
        ap (λ (rs : List Solution). record { signature = sig; sorts = compiled.positions.sorts; given = length vs; candidates = rs }) candidates_are
        ∙ ap (λ (Ss : List ℕ). record { signature = sig; sorts = Ss; given = length vs; candidates = map (candidate xs) (list (placed xs h.q) (length xs)) }) (h.sorts ∙ ap sorts_of h.variables)

    pub of_entries : IsAllSolutions sig inside p t (meant sig s0) begun
    of_entries = subst (IsAllSolutions sig inside p t (meant sig s0)) (sym same) (all_solutions sig ok inside p t (meant sig s0) (length vs) xs (list (placed xs h.q) (length xs)) all)

    -- their variables are those of the pattern
    pub of_entries_named : AreNamed sig compiled.variables begun
    of_entries_named r m =
        let (e, is, l) = of_mapped (candidate xs) r (list (placed xs h.q) (length xs)) (subst (Member r) candidates_are m) in
        let k = all.values e l in
        let named : bound_variables (zip xs e.1) ≡ compiled.variables = variables_zipped xs e.1 k.1 ∙ sym h.variables in
        let valued : AreValues sig (bound_values (zip xs e.1)) = subst (AreValues sig) (sym (values_zipped xs e.1 k.1)) k.0 in
        subst (λ (r : Solution). (bound_variables r.subst ≡ compiled.variables) × AreValues sig (bound_values r.subst)) is (named, valued)

module _ (parts : Parts) (ok : IsAccepted parts.context.now.signature) (fitting : IsWellSorted parts.context.now.signature) (inside by_picks : Bool) (p : RawTerm) (raw : IsRawTerm parts.context.now.signature p)
    (t : RawTerm) (s0 : Substitution) (h : IsCompiled parts.context.now.signature (normal_form parts.context.now.signature p) (bound_variables s0) parts.compiled.now)
    (substitution : IsSubstitution parts.context.now.signature (meant parts.context.now.signature s0)) (old : AreValues parts.context.now.signature (bound_values s0)) (v : IsValue parts.context.now.signature t)
    (subject : parts.subject ≡ t) (taken : TakesParts parts (bound_values s0) t inside by_picks) where
  abbrev here : Signature
  here = parts.context.now.signature

  abbrev single : List (List ℕ)
  single = parts.compiled.now.positions.single.items

  abbrev ys : List Variable
  ys = met (bound_variables s0) h.q

  abbrev T : Theory
  T = theory here (fits here single) (is_single single)

  known_sorts : AreSure here single (sorts_of ys)
  known_sorts = subst (AreSure here single) (h.sorts ∙ ap sorts_of h.variables) h.sure

  all_there : AreEntries here inside p t (meant here s0) (length (bound_values s0)) ys (entries here single (placed ys h.q) (length ys) (bound_values s0) inside t)
  all_there = inside_candidates here ok fitting inside p h.q raw h.reordered s0 substitution old t v single known_sorts (subst (λ (ys : List Variable). length single ≤ length ys) h.variables h.bounded)

  -- the pattern by position
  by_position : parts.compiled.now.pattern ≡ placed ys h.q
  by_position = h.pattern ∙ ap (λ ys. placed ys h.q) h.variables

  reordered : IsRawTerm here (nested here h.q)
  reordered = compiled_raw here ok raw h.reordered

  has_arities : HasArities here parts.compiled.now.pattern
  has_arities = subst (HasArities here) (sym by_position) (pattern_arities here ok h.q reordered s0 substitution old)

  numbered : IsNumbered (length (bound_values s0)) parts.compiled.now.pattern × (counted (length (bound_values s0)) parts.compiled.now.pattern ≡ length ys)
  numbered = subst (λ q. IsNumbered (length (bound_values s0)) q × (counted (length (bound_values s0)) q ≡ length ys)) (sym by_position) (pattern_numbered here ok h.q reordered s0 substitution old)

  given_stand : Fits here T 0 (bound_values s0)
  given_stand = given_fit here ok h.q reordered s0 substitution old T (sure_fits here single (sorts_of ys) known_sorts)

  -- where parts are picked, they are all proper parts
  proper : by_picks ≡ true → picked_entries parts (bound_values s0) ≡ own_entries parts (bound_values s0) t
  proper e =
      ap (λ t. map part_entry (picked here single (args_of t) (args_of parts.compiled.now.pattern) [] (bound_values s0))) subject
      ∙ picked_proper here ok parts.compiled.now t (bound_values s0) (may_pick parts (bound_values s0) t inside by_picks taken e) v.canonical h.bounded has_arities numbered.0
      (numbered.1 ∙ ap (λ (ys : List Variable). length ys) (sym h.variables)) given_stand

  -- and they are all
  pub compiled_solutions : IsAllSolutions here inside p t (meant here s0) (begun parts ok inside by_picks p t s0)
  compiled_solutions = of_entries parts ok inside by_picks p t s0 h subject taken proper all_there

  -- the number of elements tells where the whole has no match
  pub compiled_none : IsNoneByNumber parts (bound_values s0)
  compiled_none k =
      other_number_none here ok single parts.compiled.now.pattern parts.subject (bound_values s0) k has_arities numbered.0 given_stand (subst (IsCanonical here) (sym subject) v.canonical)

  pub compiled_named : AreNamed here parts.compiled.now.variables (begun parts ok inside by_picks p t s0)
  compiled_named = of_entries_named parts ok inside by_picks p t s0 h subject taken proper all_there

pub on_err : {T E : Type 0} {P : Type 0} (r : Result T E) → P → OnErr r P
on_err (Ok x) h = tt
on_err (Err e) h = h
