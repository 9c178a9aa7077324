-- One more item of narrow numbers, and one more group.
use Rattle.mw_items.specs.Items.{Item, Items, none, more, Groups, end, group, with_item, with_group}
use Rattle.mw_prooftext.specs.Narrow.{IsNarrowItem, AreNarrowItems, AreNarrowGroups}

pub narrow-with : (is : Items) (i : Item) → AreNarrowItems is → IsNarrowItem i → AreNarrowItems (with_item is i)
narrow-with none i h k = (k, tt)
narrow-with (more j is) i h k = (h.0, narrow-with is i h.1 k)

pub narrow-group : (gs : Groups) (g : Items) → AreNarrowGroups gs → AreNarrowItems g → AreNarrowGroups (with_group gs g)
narrow-group end g h k = (k, tt)
narrow-group (group f gs) g h k = (h.0, narrow-group gs g h.1 k)
