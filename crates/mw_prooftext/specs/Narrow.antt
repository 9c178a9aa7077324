-- Numbers of 32 bits: those of statements and arguments that the program writes.
use Rattle.std.specs.Prelude.{ℕ, List, [], ◌∷◌, ◌<◌, ◌^◌, Option, Some, None, ⊤}
use Rattle.mw_items.specs.Items.{Spot, Item, step, built, Items, none, more, Groups, end, group}

abbrev pub AreNarrow : List ℕ → Type 0
AreNarrow [] = ⊤
AreNarrow (n ∷ ns) = (n < 2 ^ 32) × AreNarrow ns

abbrev pub IsNarrowTake : Option (List ℕ) → Type 0
IsNarrowTake None = ⊤
IsNarrowTake (Some ns) = AreNarrow ns

abbrev pub IsNarrowSpot : Spot → Type 0
IsNarrowSpot s = AreNarrow s.path × IsNarrowTake s.take

abbrev mutual
  pub IsNarrowItem : Item → Type 0
  IsNarrowItem (step owise k s vs gs) = (k < 2 ^ 32) × IsNarrowSpot s × AreNarrowGroups gs
  IsNarrowItem (built s) = IsNarrowSpot s

  pub AreNarrowItems : Items → Type 0
  AreNarrowItems none = ⊤
  AreNarrowItems (more i is) = IsNarrowItem i × AreNarrowItems is

  pub AreNarrowGroups : Groups → Type 0
  AreNarrowGroups end = ⊤
  AreNarrowGroups (group g gs) = AreNarrowItems g × AreNarrowGroups gs
