-- How solutions go on: with the search at hand, and then with what is picked.
use Rattle.std.specs.Prelude.{◌≡◌, true, false, ℕ, List, [], ◌∷◌, ◌++◌, map, Option, None, Some, is_some, Result, Ok, Err, IfOk, OnErr, refl}
use Rattle.std.proofs.Common.{sym, ap, subst, ◌∙◌, append_assoc}
use Rattle.std.proofs.lemmas.Bool.{both_ways}
use Rattle.std.proofs.lemmas.List.{map-append}
use Rattle.mw_solving.specs.Inside.{Entry}
use Rattle.mw_search.specs.Lacking.{Skips}
use Rattle.mw_match.specs.Solutions.{Coming, FitsSorts, Lacks, PassesTo, candidate}
use Rattle.mw_match.specs.Hands.{IsNext, coming_with, hand_entries, pick_entries, entries_left}
use Rattle.mw_match.specs.declared.parts.Parts.{Parts}
use Rattle.mw_match.specs.declared.hand.Hand.{Hand}
use Rattle.mw_match.specs.declared.levels.Levels.{Levels}
use Rattle.mw_match.specs.declared.solutions.Solution.{Solution}
use Rattle.mw_match.proofs.Hands.{skips_more, skips_none}

-- what stands behind stays there
skips_behind : {X : Type 0} (P : X → Type 0) (old new after : List X) → Skips P old new → Skips P (old ++ after) (new ++ after)
skips_behind P old new after h = record { left = h.left; each = h.each; rest = ap (λ xs. xs ++ after) h.rest ∙ append_assoc h.left new after }

module _ (p : Parts) (n : ℕ) where
  abbrev with : List Entry → Coming
  with es = coming_with p n es

  abbrev all : List Entry → List Solution
  all es = map (candidate p.compiled.now.variables) es

  abbrev Lacking : Solution → Type 0
  Lacking = Lacks (with [])

  all_both : (es fs : List Entry) → all (es ++ fs) ≡ all es ++ all fs
  all_both es fs = map-append (candidate p.compiled.now.variables) es fs

  more_behind : (es fs : List Entry) (rs : List Solution) → PassesTo (with es) rs → PassesTo (with (es ++ fs)) (rs ++ all fs)
  more_behind es fs rs h = subst (λ old. Skips Lacking old (rs ++ all fs)) (sym (all_both es fs)) (skips_behind Lacking (all es) rs (all fs) h)

  -- first come those of the search at hand
  hand_some : (es new fs : List Entry) (r : Solution) → PassesTo (with es) (r ∷ all new) × FitsSorts (with es) r → PassesTo (with (es ++ fs)) (r ∷ all (new ++ fs)) × FitsSorts (with (es ++ fs)) r
  hand_some es new fs r h = (subst (λ rs. PassesTo (with (es ++ fs)) (r ∷ rs)) (sym (all_both new fs)) (more_behind es fs (r ∷ all new) h.0), h.1)

  hand_failed : (es new fs : List Entry) → PassesTo (with es) (all new) → PassesTo (with (es ++ fs)) (all (new ++ fs))
  hand_failed es new fs h = subst (PassesTo (with (es ++ fs))) (sym (all_both new fs)) (more_behind es fs (all new) h)

  -- and then those that are picked
  then_passes : (es fs : List Entry) (rs : List Solution) → PassesTo (with es) [] → PassesTo (with fs) rs → PassesTo (with (es ++ fs)) rs
  then_passes es fs rs h k = skips_more Lacking (all (es ++ fs)) (all fs) rs (more_behind es fs [] h) k

  then_left : (es fs : List Entry) → all es ≡ [] → all (es ++ fs) ≡ all fs
  then_left es fs e = all_both es fs ∙ ap (λ rs. rs ++ all fs) e

  then_next : (es new fs later : List Entry) (o : Option Solution) → PassesTo (with es) [] → all new ≡ [] → IsNext (with fs) (with later) o → IsNext (with (es ++ fs)) (with (new ++ later)) o
  then_next es new fs later None h e k = (then_passes es fs [] h k.0, then_left new later e ∙ k.1)
  then_next es new fs later (Some r) h e k = (then_passes es fs (r ∷ all (new ++ later)) h (subst (λ rs. PassesTo (with fs) (r ∷ rs)) (sym (then_left new later e)) k.0), k.1)

  then_failed : (es new fs later : List Entry) → PassesTo (with es) [] → all new ≡ [] → PassesTo (with fs) (all later) → PassesTo (with (es ++ fs)) (all (new ++ later))
  then_failed es new fs later h e k = then_passes es fs (all (new ++ later)) h (subst (PassesTo (with fs)) (sym (then_left new later e)) k)

  -- solutions, from one call to the next
  module _ (old : Coming) (hand new : Option Hand) (picks : Option Levels) (is : with (entries_left p hand picks) ≡ old) where
    pub failed_first : PassesTo (with (hand_entries p hand)) (all (hand_entries p new)) → PassesTo old (all (entries_left p new picks))
    failed_first h = subst (λ c. PassesTo c (all (entries_left p new picks))) is (hand_failed (hand_entries p hand) (hand_entries p new) (pick_entries picks) h)

    pub some_first : (o : Option Solution) → IsNext (with (hand_entries p hand)) (with (hand_entries p new)) o → is_some o ≡ true → IsNext old (with (entries_left p new picks)) o
    some_first None h e = absurd (both_ways false refl e)
    some_first (Some r) h e =
        subst (λ c. PassesTo c (r ∷ all (entries_left p new picks)) × FitsSorts c r) is (hand_some (hand_entries p hand) (hand_entries p new) (pick_entries picks) r h)

    none_first : (o : Option Solution) → IsNext (with (hand_entries p hand)) (with (hand_entries p new)) o → is_some o ≡ false → PassesTo (with (hand_entries p hand)) [] × (all (hand_entries p new) ≡ [])
    none_first None h e = h
    none_first (Some r) h e = absurd (both_ways true e refl)

    module _ (later : Option Levels) (o : Option Solution) (h : IsNext (with (hand_entries p hand)) (with (hand_entries p new)) o) (none : is_some o ≡ false) where
      pub picked_then : {E : Type 0} (r : Result (Option Solution) E) → IfOk r (IsNext (with (pick_entries picks)) (with (pick_entries later))) → IfOk r (IsNext old (with (entries_left p new later)))
      picked_then (Err e) k = tt
      picked_then (Ok s) k =
          let (passes, ended) = none_first o h none in
          subst (λ c. IsNext c (with (entries_left p new later)) s) is (then_next (hand_entries p hand) (hand_entries p new) (pick_entries picks) (pick_entries later) s passes ended k)

      pub failed_then : {E : Type 0} (r : Result (Option Solution) E) → OnErr r (PassesTo (with (pick_entries picks)) (all (pick_entries later))) → OnErr r (PassesTo old (all (entries_left p new later)))
      failed_then (Ok s) k = tt
      failed_then (Err e) k =
          let (passes, ended) = none_first o h none in
          subst (λ c. PassesTo c (all (entries_left p new later))) is (then_failed (hand_entries p hand) (hand_entries p new) (pick_entries picks) (pick_entries later) passes ended k)
