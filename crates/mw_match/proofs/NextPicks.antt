-- The next solution of what is picked: which levels are kept, what is passed over, and what is handed out.
use Rattle.std.specs.Prelude.{◌≡◌, ◌+◌, ◌≤◌, ◌<◌, ℕ, List, [], ◌∷◌, ◌++◌, map, flat_map, length, Bool, true, false, Option, Some, None, is_some, option_to_list, MatchOption, ⊤, refl}
use Rattle.std.specs.List.{zip}
use Rattle.std.proofs.Common.{sym, ap, subst, ◌∙◌, arith, length-append}
use Rattle.std.proofs.lemmas.Bool.{both_ways}
use Rattle.std.proofs.lemmas.List.{map-append}
use Rattle.mw_logic.specs.Term.{RawTerm, RawTerms, Variable}
use Rattle.mw_logic.specs.Terms.{args_of, terms_of}
use Rattle.mw_logic.specs.Parts.{number_of_terms}
use Rattle.mw_logic.specs.Signature.{Signature}
use Rattle.mw_position.specs.Variables.{sorts_of}
use Rattle.mw_matching.specs.Found.{Values, found}
use Rattle.mw_search.specs.Lacking.{Each, HaveTheirSorts, Skips}
use Rattle.mw_search.specs.Searches.{Matches}
use Rattle.mw_search.proofs.BagLists.{number_terms}
use Rattle.mw_search.proofs.Beginning.{GoesOn, found_on}
use Rattle.mw_match.specs.declared.levels.Level.{Level}
use Rattle.mw_match.specs.declared.levels.Levels.{Levels}
use Rattle.mw_match.specs.declared.solutions.Solution.{Solution}
use Rattle.mw_match.specs.Choices.{part_entry}
use Rattle.mw_match.specs.Solutions.{PassesTo, FitsSorts, Lacks, candidate}
use Rattle.mw_match.specs.Hands.{IsNext}
use Rattle.mw_match.specs.Levels.{Trace, Shortens, picks_in, taken_by, trace, come, still_to_come, IsOn, GoOnFrom, AreKept, Misses, coming_in, IsHandedOut}
use Rattle.mw_match.proofs.Entries.{each_both, each_more, sorted_candidate, lacking_candidate}
use Rattle.mw_match.proofs.Hands.{skips_more, skips_none}
use Rattle.mw_match.proofs.Choosing.{skip_past}
use Rattle.mw_match.proofs.Traces.{come_split}

-- a level on matches that go on from values
abbrev GoesOnFrom : Values → Values → Type 0
GoesOnFrom vs us = (ws : Values) × (us ≡ vs ++ ws)

pub level_stands : (sig : Signature) (single : List (List ℕ)) (sorts : List ℕ) (given number : ℕ) (p t : RawTerm) (vs : Values) (l : Level) → l.given ≡ vs
    → l.search ≡ record { signature = sig; sorts = sorts; given = length vs; coming = found sig single p t vs } → l.at < number → GoOnFrom sig sorts given vs → IsOn sig sorts given number l
level_stands sig single sorts given number p t vs l is search within goes =
    let each : Each (GoesOnFrom vs) (found sig single p t vs) = each_more {P = GoesOn vs} (found sig single p t vs) (λ us g. (g.more, g.is)) (found_on sig single p t vs) in
    let here : Each (GoesOnFrom l.given) (found sig single p t vs) = subst (λ us. Each (GoesOnFrom us) (found sig single p t vs)) (sym is) each in
    record {
      signature = ap (λ (m : Matches). m.signature) search;
      positions = ap (λ (m : Matches). m.sorts) search;
      size = ap (λ (m : Matches). m.given) search ∙ ap length (sym is);
      more = subst (λ us. given ≤ length us) (sym is) goes.0;
      sorted = subst (HaveTheirSorts sig sorts given) (sym is) goes.1;
      each = subst (Each (GoesOnFrom l.given)) (sym (ap (λ (m : Matches). m.coming) search)) here;
      within = within;
    }

-- one level more, or none
each_joined : {X : Type 0} (P : X → Type 0) (xs : List X) (o : Option X) → Each P xs → MatchOption o ⊤ P → Each P (xs ++ option_to_list o)
each_joined P xs None h k = each_both P xs [] h tt
each_joined P xs (Some x) h k = each_both P xs (x ∷ []) h (k, tt)

at_most_one : {X : Type 0} (o : Option X) → length (option_to_list o) ≤ 1
at_most_one None = omega arith
at_most_one (Some x) = omega arith

goes_on_from : (s : Levels) (us : Values) → AreKept s → s.found ≡ Some us → GoOnFrom s.context.now.signature s.compiled.now.positions.sorts s.given us
goes_on_from s us k e = subst (λ o. MatchOption o ⊤ (GoOnFrom s.context.now.signature s.compiled.now.positions.sorts s.given)) e k.found

-- with these levels, and no match at hand
pub record AreFit (s : Levels) (ls : List Level) : Type 0 where
  pub levels : Each (IsOn s.context.now.signature s.compiled.now.positions.sorts s.given (number_of_terms (args_of s.subject))) ls
  pub depth : length ls ≤ number_of_terms (args_of s.compiled.now.pattern)

module _ (s : Levels) (us : Values) (o : Option Level) (k : AreKept s) (e : s.found ≡ Some us) (low : length s.stack.items < number_of_terms (args_of s.compiled.now.pattern)) where
  pub fit_more : (GoOnFrom s.context.now.signature s.compiled.now.positions.sorts s.given us
      → MatchOption o ⊤ (IsOn s.context.now.signature s.compiled.now.positions.sorts s.given (number_of_terms (args_of s.subject))))
      → (ls : List Level) → ls ≡ s.stack.items ++ option_to_list o → AreFit s ls
  fit_more h ls is =
      let n = length-append s.stack.items (option_to_list o) in
      let m = at_most_one o in
      let more : AreFit s (s.stack.items ++ option_to_list o) = record {
        levels = each_joined (IsOn s.context.now.signature s.compiled.now.positions.sorts s.given (number_of_terms (args_of s.subject))) s.stack.items o k.levels (h (goes_on_from s us k e));
        depth = omega (arith, n, m, low);
      } in
      subst (AreFit s) (sym is) more

-- what is handed out of a match at hand, where all patterns stand on elements
pub all_taken : (s : Levels) (us : Values) → length s.stack.items ≡ number_of_terms (args_of s.compiled.now.pattern)
    → picks_in (still_to_come (record s { found = Some us })) ≡ (taken_by [] s.stack.items, us) ∷ picks_in (still_to_come (record s { found = None }))
all_taken s us h =
    let sig : Signature = s.context.now.signature in
    let single : List (List ℕ) = s.compiled.now.positions.single.items in
    let args : RawTerms = args_of s.subject in
    let qs : RawTerms = args_of s.compiled.now.pattern in
    let ls : List Level = s.stack.items in
    let rest : Trace = still_to_come (record s { found = None }) in
    ap picks_in (come_split sig single args qs [] ls us (omega (arith, h)) ∙ ap (λ ps. trace sig single args ps (taken_by [] ls) us ++ rest) (skip_past (length ls) qs (omega (arith, h))))

candidate_is : (xs : List Variable) (us : Values) (ks : List ℕ) (r : Solution) → r.subst ≡ zip xs us → r.take ≡ Some ks → r ≡ candidate xs (part_entry (ks, us))
candidate_is xs us ks r e f =
    let first : r ≡ record { subst = zip xs us; take = r.take } = ap (λ s. record r { subst = s }) e in
    first ∙ ap (λ o. candidate xs (o, us)) f

pub handed_out : (s : Levels) (us : Values) (r : Solution) → s.found ≡ Some us → length s.stack.items ≡ number_of_terms (args_of s.compiled.now.pattern)
    → r.subst ≡ zip s.compiled.now.variables us → r.take ≡ Some (taken_by [] s.stack.items) → IsHandedOut s (record s { found = None }) (Some r)
handed_out s us r e h subst_is take_is =
    let is : r ≡ candidate s.compiled.now.variables (part_entry (taken_by [] s.stack.items, us)) = candidate_is s.compiled.now.variables us (taken_by [] s.stack.items) r subst_is take_is in
    subst (λ o. MatchOption o (Some r ≡ None)
    (λ us. (Some r ≡ Some (candidate s.compiled.now.variables (part_entry (taken_by [] s.stack.items, us))))
    × (picks_in (still_to_come s) ≡ (taken_by [] s.stack.items, us) ∷ picks_in (still_to_come (record s { found = None }))))) (sym e)
    (ap (λ r. Some r) is, ap (λ o. picks_in (still_to_come (record s { found = o }))) e ∙ all_taken s us h)

-- from one state of the levels to another
pub record AreReached (old new : Levels) : Type 0 where
  pub passes : Skips (Misses old) (picks_in (still_to_come old)) (picks_in (still_to_come new))
  pub same : new ≡ record old { stack = new.stack; found = new.found }
  pub kept : AreKept new

module _ (old now new : Levels) (r : AreReached old now) where
  same_more : new ≡ record now { stack = new.stack; found = new.found } → new ≡ record old { stack = new.stack; found = new.found }
  same_more same = same ∙ ap (λ (s : Levels). record s { stack = new.stack; found = new.found }) r.same

  -- more is passed over
  pub levels_passed : Skips (Misses now) (picks_in (still_to_come now)) (picks_in (still_to_come new)) → new ≡ record now { stack = new.stack; found = new.found } → AreKept new → AreReached old new
  levels_passed skips same kept =
      let here : Skips (Misses old) (picks_in (still_to_come now)) (picks_in (still_to_come new)) =
      subst (λ (s : Levels). Skips (Misses s) (picks_in (still_to_come now)) (picks_in (still_to_come new))) r.same skips in
      record { passes = skips_more (Misses old) (picks_in (still_to_come old)) (picks_in (still_to_come now)) (picks_in (still_to_come new)) r.passes here; same = same_more same; kept = kept }

  -- the same is picked
  pub levels_turned : picks_in (still_to_come now) ≡ picks_in (still_to_come new) → new ≡ record now { stack = new.stack; found = new.found } → AreKept new → AreReached old new
  levels_turned e = levels_passed (skips_none (Misses now) (picks_in (still_to_come now)) (picks_in (still_to_come new)) e)

-- nothing has changed
pub levels_unchanged : (old now new : Levels) → AreReached old now → new ≡ now → AreReached old new
levels_unchanged old now new r e = subst (AreReached old) (sym e) r

-- the levels alone have changed
stack_alone : (now new : Levels) → new ≡ record now { stack = new.stack } → new ≡ record now { stack = new.stack; found = new.found }
stack_alone now new same = same ∙ ap (λ o. record now { stack = new.stack; found = o }) (ap (λ (s : Levels). s.found) (sym same))

pub levels_shifted : (old now new : Levels) → AreReached old now → Shortens (still_to_come now) (still_to_come new) → new ≡ record now { stack = new.stack } → AreKept new → AreReached old new
levels_shifted old now new r h same kept = levels_turned old now new r h.same (stack_alone now new same) kept

pub patterns_number : (old now : Levels) (ps : List RawTerm) → AreReached old now → terms_of ps ≡ args_of old.compiled.now.pattern → length ps ≡ number_of_terms (args_of now.compiled.now.pattern)
patterns_number old now ps r e = sym (number_terms ps) ∙ ap number_of_terms e ∙ ap (λ (s : Levels). number_of_terms (args_of s.compiled.now.pattern)) (sym r.same)

-- what is passed over, as candidates
module _ (s : Levels) (sorts : s.compiled.now.positions.sorts ≡ sorts_of s.compiled.now.variables) where
  abbrev As : List (List ℕ × Values) → List Solution
  As cs = map (candidate s.compiled.now.variables) (map part_entry cs)

  all_lacking : (cs : List (List ℕ × Values)) → Each (Misses s) cs → Each (Lacks (coming_in s)) (As cs)
  all_lacking [] h = tt
  all_lacking (c ∷ cs) h =
      (lacking_candidate (coming_in s) s.compiled.now.variables c.1 sorts h.0 (candidate s.compiled.now.variables (part_entry c)) refl, all_lacking cs h.1)

  pub candidates_passed : (old new : List (List ℕ × Values)) → Skips (Misses s) old new → Skips (Lacks (coming_in s)) (As old) (As new)
  candidates_passed old new h = record {
    left = As h.left;
    each = all_lacking h.left h.each;
    rest = ap As h.rest ∙ ap (map (candidate s.compiled.now.variables)) (map-append part_entry h.left new) ∙ map-append (candidate s.compiled.now.variables) (map part_entry h.left) (map part_entry new);
  }

module _ (old now : Levels) (k : AreKept old) (r : AreReached old now) where
  abbrev xs : List Variable
  xs = old.compiled.now.variables

  -- for want of memory, or where nothing is left
  pub passes_to : PassesTo (coming_in old) (coming_in now).candidates
  passes_to =
      subst (λ (s : Levels). Skips (Lacks (coming_in old)) (coming_in old).candidates (map (candidate s.compiled.now.variables) (map part_entry (picks_in (still_to_come now))))) (sym r.same)
      (candidates_passed old k.sorts (picks_in (still_to_come old)) (picks_in (still_to_come now)) r.passes)

  pub none_left : now.stack.items ≡ [] → now.found ≡ None → IsNext (coming_in old) (coming_in now) None
  none_left empty none =
      let e : still_to_come now ≡ [] =
      ap (λ ls. come now.context.now.signature now.compiled.now.positions.single.items (args_of now.subject) (args_of now.compiled.now.pattern) [] ls now.found) empty
      ∙ ap (λ o. flat_map (λ us. trace now.context.now.signature now.compiled.now.positions.single.items (args_of now.subject) (args_of now.compiled.now.pattern) [] us) (option_to_list o)) none in
      let all : (coming_in now).candidates ≡ [] = ap (λ (ms : Trace). map (candidate now.compiled.now.variables) (map part_entry (picks_in ms))) e in
      (subst (PassesTo (coming_in old)) all passes_to, all)

  -- a match was handed out
  module _ (new : Levels) (same : new ≡ record now { found = new.found }) where
    same_handed : new ≡ record old { stack = new.stack; found = new.found }
    same_handed =
        let stack : new ≡ record now { stack = new.stack; found = new.found } =
        same ∙ ap (λ st. record now { stack = st; found = new.found }) (ap (λ (s : Levels). s.stack) (sym same)) in
        same_more old now new r stack

    here : (us : Values) (ks : List ℕ) → now.found ≡ Some us → picks_in (still_to_come now) ≡ (ks, us) ∷ picks_in (still_to_come new)
        → IsNext (coming_in old) (coming_in new) (Some (candidate now.compiled.now.variables (part_entry (ks, us))))
    here us ks e is =
        let c : Solution = candidate xs (part_entry (ks, us)) in
        let skips : Skips (Misses old) (picks_in (still_to_come old)) ((ks, us) ∷ picks_in (still_to_come new)) = subst (Skips (Misses old) (picks_in (still_to_come old))) is r.passes in
        let passed : PassesTo (coming_in old) (c ∷ map (candidate xs) (map part_entry (picks_in (still_to_come new)))) =
        candidates_passed old k.sorts (picks_in (still_to_come old)) ((ks, us) ∷ picks_in (still_to_come new)) skips in
        let passes : PassesTo (coming_in old) (c ∷ (coming_in new).candidates) =
        subst (λ (s : Levels). PassesTo (coming_in old) (c ∷ map (candidate s.compiled.now.variables) (map part_entry (picks_in (still_to_come new))))) (sym same_handed) passed in
        let goes : GoOnFrom now.context.now.signature now.compiled.now.positions.sorts now.given us = goes_on_from now us r.kept e in
        let sorted : HaveTheirSorts old.context.now.signature old.compiled.now.positions.sorts old.given us =
        subst (λ (s : Levels). HaveTheirSorts s.context.now.signature s.compiled.now.positions.sorts s.given us) r.same goes.1 in
        let fits : FitsSorts (coming_in old) c = sorted_candidate (coming_in old) xs us sorted c refl in
        subst (λ (s : Levels). IsNext (coming_in old) (coming_in new) (Some (candidate s.compiled.now.variables (part_entry (ks, us))))) (sym r.same) (passes, fits)

    pub handed_next : is_some now.found ≡ true → (o : Option Solution) → IsHandedOut now new o → IsNext (coming_in old) (coming_in new) o
    handed_next some o h = by_found now.found refl some h
      where
        by_found : (f : Option Values) → now.found ≡ f → is_some f ≡ true
            → MatchOption f (o ≡ None) (λ us. (o ≡ Some (candidate now.compiled.now.variables (part_entry (taken_by [] now.stack.items, us)))) × (picks_in (still_to_come now) ≡ (taken_by [] now.stack.items, us) ∷ picks_in (still_to_come new)))
            → IsNext (coming_in old) (coming_in new) o
        by_found None e some h = absurd (both_ways false refl some)
        by_found (Some us) e some h = subst (IsNext (coming_in old) (coming_in new)) (sym h.0) (here us (taken_by [] now.stack.items) e h.1)

-- a turn more is to come where no match is at hand
abbrev pub one_where_none : Option Values → ℕ
one_where_none None = 1
one_where_none (Some us) = 0

abbrev pub turns_left : Levels → ℕ
turns_left s = length (still_to_come s) + length (still_to_come s) + one_where_none s.found

-- no match is at hand
pub none_at : (o : Option Values) (b : Bool) → b ≡ is_some o → b ≡ false → o ≡ None
none_at None b e h = refl
none_at (Some us) b e h = absurd (both_ways b h e)
