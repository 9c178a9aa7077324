-- Many steps: what is still to come is the same, but for matches that lack a sort.
use Rattle.std.proofs.Common.{◌≡◌, ◌∙◌, ◌<◌, true, cond, List, [], ◌∷◌, ◌++◌, length, ap, sym, subst, arith, append_assoc}
use Rattle.std.proofs.lemmas.List.{append-nil}
use Rattle.std.proofs.lemmas.Option.{slice_get_within}
use Rattle.mw_logic.specs.Signature.{Signature}
use Rattle.mw_search.specs.Traces.{finish, somes}
use Rattle.mw_search.specs.Goals.{goal_trace, goal_found, hand_trace}
use Rattle.mw_search.specs.Lacking.{OneLacksItsSort, Each, Skips}
use Rattle.mw_search.specs.Machines.{Rise, stack_trace, machine_trace, to_come, IsReady, IsLeftOut, Stepped}
use Rattle.mw_search.specs.declared.positions.Positions.{Positions}
use Rattle.mw_search.specs.declared.goals.Goal.{Goal}
use Rattle.mw_search.specs.declared.machine.Choice.{Choice}
use Rattle.mw_search.specs.declared.machine.Machine.{Machine}
use Rattle.mw_search.proofs.Beginning.{each_append}
use Rattle.mw_search.proofs.Finding.{all_found}

module _ (sig : Signature) (ps : Positions) where
  -- at the start all that is found is still to come
  pub starting : (m : Machine) (g : Goal) → m.running ≡ true → m.goals.items ≡ g ∷ [] → m.stack.items ≡ [] → to_come sig ps m ≡ goal_found sig ps.single.items g m.values.items
  starting m g er eg es =
      ap (λ b. somes (cond b (hand_trace sig ps.single.items m.goals.items m.values.items finish) [] ++ stack_trace sig ps m.stack.items m.values.items)) er
      ∙ ap (λ (gs : List Goal). somes (hand_trace sig ps.single.items gs m.values.items finish ++ stack_trace sig ps m.stack.items m.values.items)) eg
      ∙ ap (λ (cs : List Choice). somes (goal_trace sig ps.single.items g m.values.items finish ++ stack_trace sig ps cs m.values.items)) es
      ∙ ap somes (append-nil (goal_trace sig ps.single.items g m.values.items finish)) ∙ all_found sig ps.single.items g m.values.items

  pub ready_at_start : (m : Machine) → m.given ≡ length m.values.items → m.stack.items ≡ [] → IsReady sig ps m
  ready_at_start m eg es = record {
    marked = subst (λ (cs : List Choice). Rise m.given cs (length m.values.items)) (sym es) (omega (arith, eg));
    sorted = λ i t l e. absurd (let w : i < length m.values.items = slice_get_within m.values.items i t e in omega (arith, w, l, eg));
  }

  -- a state that was reached from another
  pub record IsReached (start now : Machine) : Type 0 where
    pub ready : IsReady sig ps now
    pub given : now.given ≡ start.given
    pub skips : Skips (IsLeftOut sig ps start) (to_come sig ps start) (to_come sig ps now)

  pub by_step : (start old new : Machine) → IsReached start old → Stepped sig ps old new → IsReached start new
  by_step start old new a s =
      let lack : Each (IsLeftOut sig ps start) s.left = subst (λ g. Each (OneLacksItsSort sig ps.sorts g) s.left) a.given s.lack in
      record {
        ready = s.ready;
        given = s.given ∙ a.given;
        skips = record {
          left = a.skips.left ++ s.left;
          each = each_append (IsLeftOut sig ps start) a.skips.left s.left a.skips.each lack;
          rest = a.skips.rest ∙ ap (λ l. a.skips.left ++ l) s.step ∙ sym (append_assoc a.skips.left s.left (to_come sig ps new));
        };
      }

  -- each step leaves less to do
  pub falls : (old new : Machine) → Stepped sig ps old new → length (machine_trace sig ps new) < length (machine_trace sig ps old)
  falls old new s = s.fewer
