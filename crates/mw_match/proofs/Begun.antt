-- How solutions begin: with the search for the whole or the one behind it, and with what is picked.
use Rattle.std.specs.Prelude.{◌≡◌, Bool, true, false, ℕ, List, [], ◌++◌, length, map, cond, Option, None, Some, MatchOption, ⊤}
use Rattle.std.proofs.Common.{sym, ap, subst, ◌∙◌, arith}
use Rattle.std.proofs.lemmas.List.{append-nil}
use Rattle.std.proofs.lemmas.Option.{slice_get_within, none-some}
use Rattle.mw_logic.specs.Terms.{args_of}
use Rattle.mw_logic.specs.Signature.{Signature}
use Rattle.mw_position.specs.Variables.{sorts_of}
use Rattle.mw_matching.specs.Found.{Values}
use Rattle.mw_search.specs.Lacking.{Each, HaveTheirSorts}
use Rattle.mw_match.specs.Choices.{part_entry}
use Rattle.mw_match.specs.Levels.{GoOnFrom, come, picks_in, still_to_come, trace}
use Rattle.mw_match.specs.Hands.{ArePicking, first_entries, picked_entries, hand_entries, pick_entries, entries_left}
use Rattle.mw_match.specs.Picks.{HasBegunPicking}
use Rattle.mw_match.specs.declared.parts.Parts.{Parts}
use Rattle.mw_match.specs.declared.hand.Hand.{Hand}
use Rattle.mw_match.specs.declared.levels.Levels.{Levels}
use Rattle.mw_match.proofs.Traces.{trace_picks}

module _ (p : Parts) (vs : Values) (sorts : p.compiled.now.positions.sorts ≡ sorts_of p.compiled.now.variables) where
  abbrev sig : Signature
  sig = p.context.now.signature

  abbrev single : List (List ℕ)
  single = p.compiled.now.positions.single.items

  -- nothing is picked yet
  module _ (s : Levels) (h : HasBegunPicking p vs s) where
    given_sorted : HaveTheirSorts s.context.now.signature s.compiled.now.positions.sorts s.given vs
    given_sorted i t l e = let w = slice_get_within vs i t e in let g = h.given in absurd (omega (arith, w, g, l))

    pub begun_picking : ArePicking p (length vs) s
    begun_picking = record {
      kept = record {
        sorts = subst (λ c. c.now.positions.sorts ≡ sorts_of c.now.variables) (sym h.compiled) sorts;
        levels = subst (Each _) (sym h.stack) tt;
        found = subst (λ o. MatchOption o ⊤ (GoOnFrom s.context.now.signature s.compiled.now.positions.sorts s.given)) (sym h.found) (let g = h.given in omega (arith, g), given_sorted);
        depth = let n : length s.stack.items ≡ 0 = ap (λ ls. length ls) h.stack in omega (arith, n);
      };
      context = h.context;
      compiled = h.compiled;
      given = h.given;
    }

    pub begun_picks : pick_entries (Some s) ≡ picked_entries p vs
    begun_picks =
        let qs = args_of p.compiled.now.pattern in
        let args = args_of p.subject in
        let whole : still_to_come s ≡ trace sig single args qs [] vs =
        ap (λ x. come x.now.signature s.compiled.now.positions.single.items (args_of s.subject) (args_of s.compiled.now.pattern) [] s.stack.items s.found) h.context
        ∙ ap (λ c. come sig c.now.positions.single.items (args_of s.subject) (args_of c.now.pattern) [] s.stack.items s.found) h.compiled
        ∙ ap (λ t. come sig single (args_of t) qs [] s.stack.items s.found) h.subject
        ∙ ap (λ ls. come sig single args qs [] ls s.found) h.stack
        ∙ ap (λ o. come sig single args qs [] [] o) h.found
        ∙ append-nil (trace sig single args qs [] vs) in
        ap (map part_entry) (ap picks_in whole ∙ trace_picks sig single args qs [] vs)

  pub begun_kept : (by_picks : Bool) (o : Option Levels) → cond by_picks (MatchOption o ⊥ (HasBegunPicking p vs)) (o ≡ None) → MatchOption o ⊤ (ArePicking p (length vs))
  begun_kept by_picks None h = tt
  begun_kept true (Some s) h = begun_picking s h
  begun_kept false (Some s) h = absurd (none-some s (sym h))

  pub begun_entries : (by_picks : Bool) (k : Option Hand) (o : Option Levels) → hand_entries p k ≡ first_entries p vs → cond by_picks (MatchOption o ⊥ (HasBegunPicking p vs)) (o ≡ None)
      → entries_left p k o ≡ first_entries p vs ++ cond by_picks (picked_entries p vs) []
  begun_entries false k o e h = ap (λ o. hand_entries p k ++ pick_entries o) h ∙ ap (λ es. es ++ []) e
  begun_entries true k None e h = absurd h
  begun_entries true k (Some s) e h = ap (λ fs. hand_entries p k ++ fs) (begun_picks s h) ∙ ap (λ es. es ++ picked_entries p vs) e
