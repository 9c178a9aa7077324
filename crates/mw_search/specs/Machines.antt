-- The state of an enumeration, and what is still to come.
use Rattle.std.specs.Prelude.{◌≡◌, ◌<◌, ◌≤◌, ◌-◌, ℕ, List, [], ◌∷◌, ◌++◌, length, take, cond}
use Rattle.mw_logic.specs.Signature.{Signature}
use Rattle.mw_matching.specs.Found.{Values}
use Rattle.mw_search.specs.Traces.{Trace, somes, ticked, finish}
use Rattle.mw_search.specs.Goals.{share_trace, shares_left, hand_trace, outcome_trace}
use Rattle.mw_search.specs.Lacking.{HaveTheirSorts, OneLacksItsSort, Each, Skips}
use Rattle.mw_search.specs.declared.goals.Outcome.{Outcome}
use Rattle.mw_search.specs.declared.positions.Positions.{Positions}
use Rattle.mw_search.specs.declared.machine.Choice.{Choice}
use Rattle.mw_search.specs.declared.machine.Machine.{Machine}

-- The marks of choices, how many values stood below each, rise from m up to n.
abbrev pub Rise : ℕ → List Choice → ℕ → Type 0
Rise m [] n = m ≤ n
Rise m (c ∷ cs) n = (m ≤ c.below) × Rise c.below cs n

module _ (sig : Signature) (ps : Positions) where
  abbrev pub choice_trace : Choice → Values → Trace
  choice_trace c vs = ticked (share_trace sig ps.single.items c.pattern (take c.below vs) (λ us. hand_trace sig ps.single.items c.goals.items us finish)) (shares_left c.shares)

  -- the last choice first
  abbrev pub stack_trace : List Choice → Values → Trace
  stack_trace [] vs = []
  stack_trace (c ∷ cs) vs = stack_trace cs vs ++ choice_trace c vs

  abbrev pub machine_trace : Machine → Trace
  machine_trace m = cond m.running (hand_trace sig ps.single.items m.goals.items m.values.items finish) [] ++ stack_trace m.stack.items m.values.items

  abbrev pub to_come : Machine → List Values
  to_come m = somes (machine_trace m)

  -- the marks rise, and what was bound has its sort
  pub record IsReady (m : Machine) : Type 0 where
    pub marked : Rise m.given m.stack.items (length m.values.items)
    pub sorted : HaveTheirSorts sig ps.sorts m.given m.values.items

  -- a match that isn't one by its sorts
  abbrev pub IsLeftOut : Machine → Values → Type 0
  IsLeftOut m vs = OneLacksItsSort sig ps.sorts m.given vs

  -- what is to come is the list behind some of those
  abbrev pub PassesTo : Machine → List Values → Type 0
  PassesTo m rest = Skips (IsLeftOut m) (to_come m) rest

  -- a step, or several at once, which may leave out matches that lack a sort
  pub record Stepped (old new : Machine) : Type 0 where
    pub left : List Values
    pub lack : Each (IsLeftOut old) left
    pub step : to_come old ≡ left ++ to_come new
    pub fewer : length (machine_trace new) < length (machine_trace old)
    pub given : new.given ≡ old.given
    pub ready : IsReady new

  -- nothing has changed
  pub record Stayed (old new : Machine) : Type 0 where
    pub stays : machine_trace new ≡ machine_trace old
    pub given : new.given ≡ old.given
    pub ready : IsReady new

  -- what an outcome makes of the state
  pub record Applied (o : Outcome) (old new : Machine) : Type 0 where
    pub dropped : Trace
    pub lack : Each (IsLeftOut old) (somes dropped)
    pub leads : outcome_trace sig ps.single.items o old.values.items (λ us. hand_trace sig ps.single.items (take (length old.goals.items - 1) old.goals.items) us finish)
        ++ stack_trace old.stack.items old.values.items ≡ dropped ++ machine_trace new
    pub given : new.given ≡ old.given
    pub ready : IsReady new
