-- What is counted of a trail.
use Rattle.std.specs.Prelude.{◌≡◌, ℕ, suc, ◌+◌, ◌-◌, ◌^◌, ◌<◌, min, List, []}
use Rattle.mw_logic.specs.Module.{Module}
use Rattle.mw_deduction.specs.Replay.{replacements, outer_steps, outer_rules}
use Rattle.mw_trail.specs.Tracks.{Track, moves, moves_of}
use Rattle.mw_trail.specs.declared.trail.Item.{Item}
use Rattle.mw_trail.specs.declared.trail.Item.TheVariants.{Into, Among, Out, Begin, End, Apply, Row}
use Rattle.mw_proof.specs.declared.counting.Counts.{Counts}

-- the number, or the largest of 64 bits
abbrev pub capped : ℕ → ℕ
capped n = min n (2 ^ 64 - 1)

-- none is more than that
pub record AreCapped (c : Counts) : Type 0 where
  pub count : c.count < 2 ^ 64
  pub steps : c.steps < 2 ^ 64
  pub rules : c.rules < 2 ^ 64

-- how many replacements there are, outside sides, and by rules there
pub record AreCounts (M : Module) (k : Track) (c : Counts) : Type 0 where
  pub all : c.count ≡ capped (replacements (moves M k))
  pub outer : c.steps ≡ capped (outer_steps 0 (moves M k))
  pub by_rules : c.rules ≡ capped (outer_rules 0 (moves M k))

-- how many sides in the next item stands
abbrev pub depth_after : ℕ → Item → ℕ
depth_after d (Into i) = d
depth_after d (Among n) = d
depth_after d Out = d
depth_after d (Begin n) = suc d
depth_after d End = d - 1
depth_after d (Apply n k) = d
depth_after d Row = d

-- the counts, so many sides in, when these items come too
abbrev pub counted_to : Module → ℕ → Counts → List Item → Counts
counted_to M d c xs = record {
  count = capped (c.count + replacements (moves_of M xs [] []));
  steps = capped (c.steps + outer_steps d (moves_of M xs [] []));
  rules = capped (c.rules + outer_rules d (moves_of M xs [] []));
}
