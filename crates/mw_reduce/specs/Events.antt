-- What a run comes to between two replacements.
use Rattle.std.specs.Prelude.{◌≢◌, ℕ, ⊤}
use Rattle.mw_logic.specs.Module.{Module}
use Rattle.mw_index.specs.declared.index.Index.{Index}
use Rattle.mw_index.specs.declared.choices.Choice.{Choice}
use Rattle.mw_index.specs.declared.choices.Choices.{Choices}
use Rattle.mw_frames.specs.State.{Run, Data, Holds}
use Rattle.mw_frames.specs.Steps.{IsDecided, IsEnd, FallsTo}
use Rattle.mw_frames.specs.declared.job.Hand.{Hand}
use Rattle.mw_frames.specs.declared.looking.Asked.{Asked}
use Rattle.mw_frames.specs.declared.machine.Machine.{Machine}
use Rattle.mw_reduce.specs.Turns.{IsFound, IsMetAt, IsBigAt, HasOriented}
use Rattle.mw_reduce.specs.Attempts.{IsReady, IsHaltedAt}
use Rattle.mw_reduce.specs.declared.turning.Event.{Event}
use Rattle.mw_reduce.specs.declared.turning.Event.TheVariants.{Goes, Ended, Found, Applies, Met, Big, Decides, Halts}

-- After so many replacements, with these choices left.
abbrev pub IsEvent : Run → ℕ → ℕ → Index → Data → Choices → Event → Type 0
IsEvent K count side m d rest (Goes h) = Holds K count d h
IsEvent K count side m d rest (Ended t) = IsEnd K count d t
IsEvent K count side m d rest (Found a c) = IsFound K count m d rest a c
IsEvent K count side m d rest (Applies a c sides) = IsReady K count d a c sides.items
IsEvent K count side m d rest (Met a take to) = IsMetAt K count d a take to
IsEvent K count side m d rest (Big a take) = IsBigAt K count d a take
IsEvent K count side m d rest (Decides f b) = IsDecided K count d f b
IsEvent K count side m d rest (Halts a take why) = IsHaltedAt K count side d a take why

-- less is left, where it goes on
abbrev pub EventFalls : Module → ℕ → Machine → Event → Type 0
EventFalls M w m (Goes h) = FallsTo M w m h
EventFalls M w m (Ended t) = ⊤
EventFalls M w m (Found a c) = ⊤
EventFalls M w m (Applies a c sides) = ⊤
EventFalls M w m (Met a take to) = ⊤
EventFalls M w m (Big a take) = ⊤
EventFalls M w m (Decides f b) = ⊤
EventFalls M w m (Halts a take why) = ⊤

-- an equation that is found is one of the module
abbrev pub EventOf : Module → Event → Type 0
EventOf M (Goes h) = ⊤
EventOf M (Ended t) = ⊤
EventOf M (Found a c) = HasOriented M c.by.now
EventOf M (Applies a c sides) = ⊤
EventOf M (Met a take to) = ⊤
EventOf M (Big a take) = ⊤
EventOf M (Decides f b) = ⊤
EventOf M (Halts a take why) = ⊤

-- It doesn't go on by itself, and no condition is left to be evaluated.
abbrev pub Stands : Event → Type 0
Stands e = (h : Hand) → e ≢ Goes h

abbrev pub Rests : Event → Type 0
Rests e = Stands e × ((a : Asked) (c : Choice) → e ≢ Found a c)
